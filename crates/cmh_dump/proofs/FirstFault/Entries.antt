-- What the searches of the processes beside the sites and one another say of their faults.
use Rattle.std.proofs.Common.{◌≡◌, ◌≢◌, ℕ, zero, suc, List, [], ◌∷◌, Bool, true, false, not, cond, Option, Some, None, map, length, get_or, refl, sym, ap, ◌∙◌}
use Rattle.std.specs.Prelude.{find, position, slice_get, unwrap_or, option_map}
use Rattle.std.specs.Option.{option_map_or, option_or}
use Rattle.std.proofs.lemmas.List.{length-map}
use Rattle.serde_json.specs.Data.{Data, null}
use Rattle.serde_json.specs.View.{view}
use Rattle.cmh_dump.specs.declared.entry.Entry as declared
use Rattle.cmh_dump.specs.declared.fault.DumpFault.{DumpFault}
use Rattle.cmh_dump.specs.declared.fault.DumpFault.TheVariants.{Memory, RepeatedProcess, UnknownSite, UnknownDependent, RepeatedDependent, ActiveWithDependents, TooManyDependencies}
use Rattle.cmh_dump.specs.Dump.{holds, first_of, each, each_dependent, name_faults, entry_faults}
use Rattle.cmh_dump.specs.Entry.{Entry, sites, processes, entries, entry, names, entry_of}
use Rattle.cmh_dump.specs.Index.{first_repeat}
use Rattle.cmh_dump.specs.Name.{is_among}
use Rattle.cmh_dump.specs.Read.{entry_view, first_pair}
use Rattle.cmh_dump.specs.Places.{first_unknown, unknown_dependent as unknown_dependent_of}
use Rattle.cmh_dump.specs.Tree.{text_of}
use Rattle.cmh_dump.proofs.Trees.{map-map}
use Rattle.cmh_dump.proofs.FirstFault.Searches.{below, each_seen, pairs_seen, find-map, get-map}
use Rattle.cmh_dump.proofs.FirstFault.Kinds.{first_here, first_later, alone, size_of, at_seen, or_seen}

-- an element that a function makes is made of the one at its place
made_at : {Y Z : Type 0} (f : Y → Z) (ys : List Y) (k : ℕ) (y : Y) (z : Z) → slice_get (map f ys) k ≡ Some z
    → f (get_or ys k y) ≡ z
made_at f [] k y z h = absurd cc
made_at f (x ∷ xs) zero y z h = ap (λ o. unwrap_or o z) h
made_at f (x ∷ xs) (suc k) y z h = made_at f xs k y z h

-- there are as many names as processes
pub length-names : (d : Data) → length (names d) ≡ length (processes d)
length-names d = length-map (entries d) (λ e. e.name) ∙ length-map (processes d) _

-- the first repeated process is the first repeat of the names
pub repeated_processes : (d : Data)
    → find (holds d) (each (processes d) RepeatedProcess) ≡ option_map RepeatedProcess (first_repeat (names d))
repeated_processes d =
    ap (λ n. find (holds d) (map RepeatedProcess (below n))) (sym (length-names d))
    ∙ find-map (holds d) RepeatedProcess (below (length (names d)))

module _ (d : Data) (es : List declared.Entry) (seen : map entry_view es ≡ entries d) where
  -- there are as many processes as entries that were read
  process_count : length (processes d) ≡ length es
  process_count = sym (length-map (processes d) _) ∙ size_of entry_view es (entries d) seen

  -- the process at a place is the entry there, as it is seen
  entry_is : (k : ℕ) (z : Entry) → slice_get (map entry_view es) k ≡ Some z → entry d k ≡ z
  entry_is k z h = made_at entry_of (processes d) k null z (at_seen entry_view es (entries d) k z seen h)

  -- the process at the place of an entry that was read is that entry, as it is seen
  entry_seen : (k : ℕ) (e : declared.Entry) → slice_get es k ≡ Some e → entry d k ≡ entry_view e
  entry_seen k e h = entry_is k (entry_view e) (get-map entry_view es k e h)

  -- the first process on an unknown site stands where the search finds it
  pub unknown_sites : (keys : List (List ℕ)) → keys ≡ sites d
      → find (holds d) (each (processes d) UnknownSite)
      ≡ option_map UnknownSite (position (λ e. not (is_among keys e.site.now)) es)
  unknown_sites keys same =
      each_seen (holds d) UnknownSite entry_view (λ e. not (is_among keys e.site)) es (length (processes d))
      process_count
      (λ k z h. ap (λ e. not (is_among (sites d) e.site)) (entry_is k z h)
      ∙ ap (λ ks. not (is_among ks z.site)) (sym same))

  -- the first unknown dependent stands where the search by rows finds it
  pub unknown_dependents : (keys : List (List ℕ)) → keys ≡ names d
      → find (holds d) (each_dependent d UnknownDependent)
      ≡ option_map (λ p. UnknownDependent p.0 p.1) (unknown_dependent_of keys es)
  unknown_dependents keys same =
      pairs_seen (holds d) UnknownDependent (λ i. map (UnknownDependent i) (below (length (entry d i).dependents)))
      (λ e. position (λ v. not (is_among keys (text_of (view v)))) e.dependents.now) es (length (processes d))
      process_count
      (λ k e h. row k e (entry_seen k e h))
    where
      row : (k : ℕ) (e : declared.Entry) → entry d k ≡ entry_view e
          → find (holds d) (map (UnknownDependent k) (below (length (entry d k).dependents)))
          ≡ option_map (UnknownDependent k) (position (λ v. not (is_among keys (text_of (view v)))) e.dependents.now)
      row k e is =
          each_seen (holds d) (UnknownDependent k) (λ v. text_of (view v)) (λ name. not (is_among keys name))
          e.dependents.now (length (entry d k).dependents)
          (size_of (λ v. text_of (view v)) e.dependents.now (entry d k).dependents (ap (λ x. x.dependents) (sym is)))
          (λ j z h. ap (λ t. not (is_among (names d) t))
          (or_seen (λ v. text_of (view v)) e.dependents.now (entry d k).dependents j z []
          (ap (λ x. x.dependents) (sym is)) h) ∙ ap (λ ks. not (is_among ks z)) (sym same))

-- the names of the processes that are read are those of the dump
pub names_seen : (d : Data) (es : List declared.Entry) → map entry_view es ≡ entries d
    → map (λ e. (entry_view e).name) es ≡ names d
names_seen d es seen = map-map (λ e. e.name) entry_view es ∙ ap (map (λ e. e.name)) seen

-- a repeated name is the first fault of the names of the processes
pub name_repeated : (d : Data) (ns : List (List ℕ)) (i : ℕ) → ns ≡ names d → first_repeat ns ≡ Some i
    → first_of (holds d) (name_faults d) ≡ Some (RepeatedProcess i)
name_repeated d ns i seen r =
    first_here (holds d) (each (processes d) RepeatedProcess) [] _ (RepeatedProcess i)
    (repeated_processes d) (ap (option_map RepeatedProcess) (ap first_repeat (sym seen) ∙ r))

-- names of processes of which none repeats have no fault
pub names_judged : (d : Data) (ns : List (List ℕ)) → ns ≡ names d → first_repeat ns ≡ None
    → first_of (holds d) (name_faults d) ≡ None
names_judged d ns seen apart =
    first_later (holds d) (each (processes d) RepeatedProcess) [] _ None
    (repeated_processes d) (ap (option_map RepeatedProcess) (ap first_repeat (sym seen) ∙ apart)) refl

-- ---- processes beside the sites and one another

-- an unknown site, or else a fault that names the unknown dependent, out of memory apart, is the first of the two
pub site_or_dependent : (site : Option ℕ) (dependent : Option (ℕ × ℕ)) (e : DumpFault)
    → (e ≢ Memory → (i j : ℕ) × (e ≡ UnknownDependent i j) × (dependent ≡ Some (i, j)))
    → option_map_or UnknownSite site e ≢ Memory
    → option_or (option_map UnknownSite site) (option_map (λ p. UnknownDependent p.0 p.1) dependent)
    ≡ Some (option_map_or UnknownSite site e)
site_or_dependent (Some i) dependent e found other = refl
site_or_dependent None dependent e found other =
    let t = found other in
    ap (option_map (λ p. UnknownDependent p.0 p.1)) t.3 ∙ ap Some (sym t.2)

module _ (d : Data) (es : List declared.Entry) (seen : map entry_view es ≡ entries d)
    (site_names process_names : List (List ℕ)) (are_sites : site_names ≡ sites d)
    (are_names : process_names ≡ names d) where
  -- what the searches of the entries answer, in their order: here the first process on an unknown site
  abbrev unknown_site : Option ℕ
  unknown_site = position (λ e. not (is_among site_names e.site.now)) es

  abbrev unknown_dependent : Option (ℕ × ℕ)
  unknown_dependent = first_pair (λ e. first_unknown process_names e.dependents.now) 0 es

  -- the kinds of faults of the entries from one of them on: here from the total of dependents on
  abbrev from_total : List (List DumpFault)
  from_total = (TooManyDependencies ∷ []) ∷ []

  abbrev from_active : List (List DumpFault)
  from_active = each (processes d) ActiveWithDependents ∷ from_total

  abbrev from_repeats : List (List DumpFault)
  from_repeats = each_dependent d RepeatedDependent ∷ from_active

  abbrev from_dependents : List (List DumpFault)
  from_dependents = each_dependent d UnknownDependent ∷ from_repeats

  -- what is first of an unknown site and, after these, of an unknown dependent, is the first fault of the entries
  pub unknown_first : (e : DumpFault) → option_or (option_map UnknownSite unknown_site)
      (option_map (λ p. UnknownDependent p.0 p.1) unknown_dependent) ≡ Some e
      → first_of (holds d) (entry_faults d) ≡ Some e
  unknown_first e h =
      (λ i. option_or (unknown_sites d es seen site_names are_sites i)
      (option_or (unknown_dependents d es seen process_names are_names i) (first_of (holds d) from_repeats)))
      ∙ by (option_map UnknownSite unknown_site) (option_map (λ p. UnknownDependent p.0 p.1) unknown_dependent) h
    where
      by : (o p : Option DumpFault) → option_or o p ≡ Some e
          → option_or o (option_or p (first_of (holds d) from_repeats)) ≡ Some e
      by None None h = absurd cc
      by None (Some f) h = h
      by (Some f) p h = h

  -- where all sites are known, the other kinds of faults of the entries decide
  sites_known : (r : Option DumpFault) → unknown_site ≡ None → first_of (holds d) from_dependents ≡ r
      → first_of (holds d) (entry_faults d) ≡ r
  sites_known r h later =
      first_later (holds d) (each (processes d) UnknownSite) from_dependents _ r
      (unknown_sites d es seen site_names are_sites) (ap (option_map UnknownSite) h) later

  -- where all sites and all dependents are known, the kinds after these decide
  dependents_known : (r : Option DumpFault) → unknown_site ≡ None → unknown_dependent ≡ None
      → first_of (holds d) from_repeats ≡ r → first_of (holds d) (entry_faults d) ≡ r
  dependents_known r h k later =
      sites_known r h
      (first_later (holds d) (each_dependent d UnknownDependent) from_repeats _ r
      (unknown_dependents d es seen process_names are_names) (ap (option_map (λ p. UnknownDependent p.0 p.1)) k)
      later)

  -- where all sites and all dependents are known, a repeated dependent is the first fault of the entries
  pub dependent_repeated : (i j : ℕ) → unknown_site ≡ None → unknown_dependent ≡ None
      → find (holds d) (each_dependent d RepeatedDependent) ≡ Some (RepeatedDependent i j)
      → first_of (holds d) (entry_faults d) ≡ Some (RepeatedDependent i j)
  dependent_repeated i j h k l =
      dependents_known (Some (RepeatedDependent i j)) h k
      (first_here (holds d) (each_dependent d RepeatedDependent) from_active _ (RepeatedDependent i j) l refl)

  -- where all sites and all dependents are known and no dependent repeats, the kinds after these decide
  dependents_apart : (r : Option DumpFault) → unknown_site ≡ None → unknown_dependent ≡ None
      → find (holds d) (each_dependent d RepeatedDependent) ≡ None
      → first_of (holds d) from_active ≡ r → first_of (holds d) (entry_faults d) ≡ r
  dependents_apart r h k l later =
      dependents_known r h k (first_later (holds d) (each_dependent d RepeatedDependent) from_active _ r l refl later)

  -- where all sites and all dependents are known and no dependent repeats, an active process with dependents is the
  -- first fault of the entries
  pub active_waits : (i : ℕ) → unknown_site ≡ None → unknown_dependent ≡ None
      → find (holds d) (each_dependent d RepeatedDependent) ≡ None
      → find (holds d) (each (processes d) ActiveWithDependents) ≡ Some (ActiveWithDependents i)
      → first_of (holds d) (entry_faults d) ≡ Some (ActiveWithDependents i)
  active_waits i h k l m =
      dependents_apart (Some (ActiveWithDependents i)) h k l
      (first_here (holds d) (each (processes d) ActiveWithDependents) from_total _ (ActiveWithDependents i) m refl)

  -- where none of the faults of the entries before it holds, the total of dependents decides
  pub entries_but_total : (b : Bool) → unknown_site ≡ None → unknown_dependent ≡ None
      → find (holds d) (each_dependent d RepeatedDependent) ≡ None
      → find (holds d) (each (processes d) ActiveWithDependents) ≡ None → holds d TooManyDependencies ≡ b
      → first_of (holds d) (entry_faults d) ≡ cond b (Some TooManyDependencies) None
  entries_but_total b h k l m t =
      dependents_apart (cond b (Some TooManyDependencies) None) h k l
      (first_later (holds d) (each (processes d) ActiveWithDependents) from_total _
      (cond b (Some TooManyDependencies) None) m refl (by b (alone (holds d) TooManyDependencies b t)))
    where
      by : (b : Bool) → find (holds d) (TooManyDependencies ∷ []) ≡ cond b (Some TooManyDependencies) None
          → first_of (holds d) from_total ≡ cond b (Some TooManyDependencies) None
      by true e = first_here (holds d) (TooManyDependencies ∷ []) [] _ TooManyDependencies e refl
      by false e = first_later (holds d) (TooManyDependencies ∷ []) [] _ None e refl refl
