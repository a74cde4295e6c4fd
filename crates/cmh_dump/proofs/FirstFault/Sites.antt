-- What the searches of the sites say of their faults.
use Rattle.std.proofs.Common.{◌≡◌, ℕ, ◌<◌, ◌≤◌, List, [], ◌∷◌, true, false, not, Option, Some, None, length, refl, sym, ap, ◌∙◌, Bor}
use Rattle.std.specs.Prelude.{find, position, option_map}
use Rattle.serde_json.specs.Data.{Data}
use Rattle.cmh_dump.specs.declared.TheConstants.{MAX_SITES}
use Rattle.cmh_dump.specs.declared.fault.DumpFault.{DumpFault}
use Rattle.cmh_dump.specs.declared.fault.DumpFault.TheVariants.{BadSites, RepeatedSite, TooManySites}
use Rattle.cmh_dump.specs.Dump.{holds, first_of, each, site_faults}
use Rattle.cmh_dump.specs.Entry.{sites}
use Rattle.cmh_dump.specs.Index.{first_repeat}
use Rattle.cmh_dump.specs.Name.{is_name}
use Rattle.cmh_dump.specs.Texts.{texts}
use Rattle.cmh_dump.proofs.FirstFault.Searches.{below, each_seen, find-map}
use Rattle.cmh_dump.proofs.FirstFault.Kinds.{first_here, first_later, alone, size_of, or_seen, is_over_most, within}

-- the first bad site stands where the first bad name does
pub bad_sites : (d : Data) (ys : List (Bor (List ℕ))) → texts ys ≡ sites d
    → find (holds d) (each (sites d) BadSites) ≡ option_map BadSites (position (λ t. not (is_name t.now)) ys)
bad_sites d ys e =
    each_seen (holds d) BadSites (λ t. t.now) (λ t. not (is_name t)) ys (length (sites d))
    (size_of (λ t. t.now) ys (sites d) e)
    (λ k z h. ap (λ t. not (is_name t)) (or_seen (λ t. t.now) ys (sites d) k z [] e h))

-- the first repeated site is the first repeat of the sites
pub repeated_sites : (d : Data)
    → find (holds d) (each (sites d) RepeatedSite) ≡ option_map RepeatedSite (first_repeat (sites d))
repeated_sites d = find-map (holds d) RepeatedSite (below (length (sites d)))

module _ (d : Data) (ys : List (Bor (List ℕ))) (seen : texts ys ≡ sites d) where
  -- what the search of the sites for a bad name answers
  abbrev bad_name : Option ℕ
  bad_name = position (λ t. not (is_name t.now)) ys

  -- the kinds of faults of the sites after the bad names
  abbrev from_repeated : List (List DumpFault)
  from_repeated = each (sites d) RepeatedSite ∷ (TooManySites ∷ []) ∷ []

  -- a bad name is the first fault of the sites
  pub site_bad : (i : ℕ) → bad_name ≡ Some i
      → first_of (holds d) (site_faults d) ≡ Some (BadSites i)
  site_bad i h =
      first_here (holds d) (each (sites d) BadSites) from_repeated _ (BadSites i)
      (bad_sites d ys seen) (ap (option_map BadSites) h)

  -- where no name of a site is bad, the other kinds of faults of the sites decide
  names_only : (r : Option DumpFault) → bad_name ≡ None → first_of (holds d) from_repeated ≡ r
      → first_of (holds d) (site_faults d) ≡ r
  names_only r h later =
      first_later (holds d) (each (sites d) BadSites) from_repeated _ r
      (bad_sites d ys seen) (ap (option_map BadSites) h) later

  -- where no name of a site is bad, a repeated site is the first fault of the sites
  pub site_repeated : (i : ℕ) → bad_name ≡ None → first_repeat (texts ys) ≡ Some i
      → first_of (holds d) (site_faults d) ≡ Some (RepeatedSite i)
  site_repeated i h r =
      names_only (Some (RepeatedSite i)) h
      (first_here (holds d) (each (sites d) RepeatedSite) ((TooManySites ∷ []) ∷ []) _ (RepeatedSite i)
      (repeated_sites d) (ap (option_map RepeatedSite) (ap first_repeat (sym seen) ∙ r)))

  -- where no name of a site is bad and none repeats, the number of sites decides
  apart_only : (r : Option DumpFault) → bad_name ≡ None → first_repeat (texts ys) ≡ None
      → first_of (holds d) ((TooManySites ∷ []) ∷ []) ≡ r
      → first_of (holds d) (site_faults d) ≡ r
  apart_only r h apart later =
      names_only r h
      (first_later (holds d) (each (sites d) RepeatedSite) ((TooManySites ∷ []) ∷ []) _ r
      (repeated_sites d) (ap (option_map RepeatedSite) (ap first_repeat (sym seen) ∙ apart)) later)

  -- where no name of a site is bad and none repeats, too many sites are the first fault of the sites
  pub sites_many : bad_name ≡ None → first_repeat (texts ys) ≡ None → MAX_SITES < length ys
      → first_of (holds d) (site_faults d) ≡ Some TooManySites
  sites_many h apart many =
      apart_only (Some TooManySites) h apart
      (first_here (holds d) (TooManySites ∷ []) [] _ TooManySites
      (alone (holds d) TooManySites true (is_over_most (λ t. t.now) ys (sites d) MAX_SITES seen many)) refl)

  -- where no name of a site is bad, none repeats and the sites are few enough, they have no fault
  pub sites_judged : bad_name ≡ None → first_repeat (texts ys) ≡ None → length ys ≤ MAX_SITES
      → first_of (holds d) (site_faults d) ≡ None
  sites_judged h apart few =
      apart_only None h apart
      (first_later (holds d) (TooManySites ∷ []) [] _ None
      (alone (holds d) TooManySites false (within (λ t. t.now) ys (sites d) MAX_SITES seen few)) refl refl)
