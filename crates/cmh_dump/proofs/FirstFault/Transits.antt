-- What the searches of the messages in transit say of their faults.
use Rattle.std.proofs.Common.{◌≡◌, ℕ, ◌≤◌, List, [], ◌∷◌, false, not, Option, Some, None, map, length, refl, sym, ap, ◌∙◌}
use Rattle.std.specs.Prelude.{find, position, option_map}
use Rattle.std.specs.List.{list_all}
use Rattle.serde_json.specs.Data.{Data, null}
use Rattle.serde_json.specs.View.{view}
use Rattle.cmh_graph.specs.declared.TheConstants.{MAX_IN_TRANSIT}
use Rattle.cmh_dump.specs.declared.fault.DumpFault.{DumpFault}
use Rattle.cmh_dump.specs.declared.fault.DumpFault.TheVariants.{TooManyInTransit, BadInTransit, UnknownInTransit}
use Rattle.cmh_dump.specs.Dump.{holds, first_of, each, transit_faults}
use Rattle.cmh_dump.specs.Entry.{transits, names, is_pair}
use Rattle.cmh_dump.specs.Name.{is_among}
use Rattle.cmh_dump.specs.Tree.{texts_of}
use Rattle.cmh_dump.proofs.FirstFault.Searches.{each_seen}
use Rattle.cmh_dump.proofs.FirstFault.Kinds.{first_here, first_later, alone, size_of, or_seen, within}

-- the first message that is no pair stands where the search finds it
pub bad_transits : {V : Type 0} (view : V → Data) (d : Data) (vs : List V) → map view vs ≡ transits d
    → find (holds d) (each (transits d) BadInTransit)
    ≡ option_map BadInTransit (position (λ v. not (is_pair (view v))) vs)
bad_transits view d vs e =
    each_seen (holds d) BadInTransit view (λ t. not (is_pair t)) vs (length (transits d))
    (size_of view vs (transits d) e)
    (λ k z h. ap (λ t. not (is_pair t)) (or_seen view vs (transits d) k z null e h))

-- the first message with an unknown name stands where the search finds it
pub unknown_transits : {V : Type 0} (view : V → Data) (d : Data) (vs : List V) (keys : List (List ℕ))
    → map view vs ≡ transits d → keys ≡ names d
    → find (holds d) (each (transits d) UnknownInTransit)
    ≡ option_map UnknownInTransit (position (λ v. not (list_all (is_among keys) (texts_of (view v)))) vs)
unknown_transits view d vs keys e same =
    each_seen (holds d) UnknownInTransit view (λ t. not (list_all (is_among keys) (texts_of t))) vs
    (length (transits d)) (size_of view vs (transits d) e)
    (λ k z h. ap (λ t. not (list_all (is_among (names d)) (texts_of t)))
    (or_seen view vs (transits d) k z null e h) ∙ ap (λ ks. not (list_all (is_among ks) (texts_of z))) (sym same))

module _ {V : Type 0} (view : V → Data) (d : Data) (vs : List V) (seen : map view vs ≡ transits d)
    (process_names : List (List ℕ)) (are_names : process_names ≡ names d) where
  -- what the searches of the messages in transit answer: here the first one that is no pair
  abbrev bad_pair : Option ℕ
  bad_pair = position (λ v. not (is_pair (view v))) vs

  abbrev unknown_pair : Option ℕ
  unknown_pair = position (λ v. not (list_all (is_among process_names) (texts_of (view v)))) vs

  -- where the messages in transit are few enough, the other kinds of their faults decide
  few_transits : (r : Option DumpFault) → length vs ≤ MAX_IN_TRANSIT
      → first_of (holds d) (each (transits d) BadInTransit ∷ each (transits d) UnknownInTransit ∷ []) ≡ r
      → first_of (holds d) (transit_faults d) ≡ r
  few_transits r few later =
      first_later (holds d) (TooManyInTransit ∷ [])
      (each (transits d) BadInTransit ∷ each (transits d) UnknownInTransit ∷ [])
      _ r (alone (holds d) TooManyInTransit false (within view vs (transits d) MAX_IN_TRANSIT seen few)) refl later

  -- where the messages in transit are few enough, one that is no pair is their first fault
  pub transit_bad : (i : ℕ) → length vs ≤ MAX_IN_TRANSIT → bad_pair ≡ Some i
      → first_of (holds d) (transit_faults d) ≡ Some (BadInTransit i)
  transit_bad i few h =
      few_transits (Some (BadInTransit i)) few
      (first_here (holds d) (each (transits d) BadInTransit) (each (transits d) UnknownInTransit ∷ []) _
      (BadInTransit i)
      (bad_transits view d vs seen) (ap (option_map BadInTransit) h))

  -- where the messages in transit are few enough and all are pairs, the kind of unknown names decides
  pairs_only : (r : Option DumpFault) → length vs ≤ MAX_IN_TRANSIT → bad_pair ≡ None
      → first_of (holds d) (each (transits d) UnknownInTransit ∷ []) ≡ r → first_of (holds d) (transit_faults d) ≡ r
  pairs_only r few h later =
      few_transits r few
      (first_later (holds d) (each (transits d) BadInTransit) (each (transits d) UnknownInTransit ∷ []) _ r
      (bad_transits view d vs seen) (ap (option_map BadInTransit) h) later)

  -- where the messages in transit are few enough and all are pairs, one with an unknown name is their first fault
  pub transit_unknown : (i : ℕ) → length vs ≤ MAX_IN_TRANSIT → bad_pair ≡ None → unknown_pair ≡ Some i
      → first_of (holds d) (transit_faults d) ≡ Some (UnknownInTransit i)
  transit_unknown i few h k =
      pairs_only (Some (UnknownInTransit i)) few h
      (first_here (holds d) (each (transits d) UnknownInTransit) [] _ (UnknownInTransit i)
      (unknown_transits view d vs process_names seen are_names) (ap (option_map UnknownInTransit) k))

  -- where the messages in transit are few enough and all are pairs of known names, they have no fault
  pub transits_judged : length vs ≤ MAX_IN_TRANSIT → bad_pair ≡ None → unknown_pair ≡ None
      → first_of (holds d) (transit_faults d) ≡ None
  transits_judged few h k =
      pairs_only None few h
      (first_later (holds d) (each (transits d) UnknownInTransit) [] _ None
      (unknown_transits view d vs process_names seen are_names) (ap (option_map UnknownInTransit) k) refl)
