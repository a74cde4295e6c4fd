-- What the graph of the parts that are made of the entries says of the faults of the entries.
use Rattle.std.proofs.Common.{◌≡◌, ℕ, ◌<◌, ◌↔◌, inl, inr, List, [], Bool, true, false, not, cond, Option, Some, None, map, length, refl, ap, ◌∙◌, arith}
use Rattle.std.specs.Prelude.{find, position, option_map, sum_by, IfNone, IfSome, IsTrue}
use Rattle.std.proofs.lemmas.Bool.{cases_lt, lt-ltb, le-ltb}
use Rattle.serde_json.specs.Data.{Data}
use Rattle.cmh_graph.specs.Build.{HasGraphFault, dependent_count, parts_graph, process_of}
use Rattle.cmh_graph.specs.Graph.{Graph, IsWithinGraph}
use Rattle.cmh_graph.specs.Judge.{IsFirst, IsFirstDependent}
use Rattle.cmh_graph.specs.declared.TheConstants.{MAX_DEPENDENCIES}
use Rattle.cmh_graph.specs.declared.fault.GraphFault.TheVariants.{RepeatedDependent as GraphRepeated, ActiveWithDependents as GraphActive}
use Rattle.cmh_graph.specs.declared.part.Part.{Part}
use Rattle.cmh_dump.specs.declared.entry.Entry as declared
use Rattle.cmh_dump.specs.declared.fault.DumpFault.TheVariants.{UnknownDependent, RepeatedDependent, ActiveWithDependents, TooManyDependencies}
use Rattle.cmh_dump.specs.Dump.{holds, each_dependent, entry_faults, first_of, process_by}
use Rattle.cmh_dump.specs.Entry.{sites, entries, entry, names, processes}
use Rattle.cmh_dump.specs.Name.{is_among}
use Rattle.cmh_dump.specs.Places.{unknown_dependent}
use Rattle.cmh_dump.specs.Read.{entry_view, without_name}
use Rattle.cmh_dump.proofs.FirstFault.Entries.{unknown_dependents, dependent_repeated, active_waits, entries_but_total}
use Rattle.cmh_dump.proofs.FirstFault.Shared.{IsOfTree, HasDependent, of_tree, is_within, repeat_found, repeat_none, active_found, active_none}
use Rattle.cmh_dump.proofs.FirstFault.Stages.{processes_are}
use Rattle.cmh_dump.proofs.FirstFault.Table.{among_rows, fails}

-- whether the dependents are too many for the graph is whether they are for the tree
total_is : (d : Data) (b : Bool) (n : ℕ) → n ≡ sum_by (λ e. length e.dependents) (entries d)
    → IsTrue b ↔ (MAX_DEPENDENCIES < n) → holds d TooManyDependencies ≡ b
total_is d true n is h =
    lt-ltb MAX_DEPENDENCIES (sum_by (λ e. length e.dependents) (entries d)) (omega (arith, is, h.0 refl))
total_is d false n is h =
    elim (cases_lt MAX_DEPENDENCIES n) [
      | inl l ↦ let bad = h.1 l in absurd cc
      | inr l ↦ le-ltb MAX_DEPENDENCIES (sum_by (λ e. length e.dependents) (entries d)) (omega (arith, is, l))
    ]

module _ (d : Data) (es : List declared.Entry) (seen : map entry_view es ≡ entries d)
    (site_names process_names : List (List ℕ)) (are_sites : site_names ≡ sites d) (are_names : process_names ≡ names d)
    (sites_known : position (λ e. not (is_among site_names e.site.now)) es ≡ None)
    (known : unknown_dependent process_names es ≡ None) (made : List Part)
    (made_of : map process_of made ≡ map (λ e. without_name (process_by site_names process_names (entry_view e))) es)
  where
    -- where the search by rows finds no unknown dependent, no fault of that kind holds
    all_known : (i j : ℕ) → HasDependent d i j → holds d (UnknownDependent i j) ≡ false
    all_known i j h =
        fails (holds d) _
        (unknown_dependents d es seen process_names are_names ∙ ap (option_map (λ p. UnknownDependent p.0 p.1)) known)
        (UnknownDependent i j)
        (among_rows UnknownDependent (λ k. length (entry d k).dependents) (length (processes d)) i j h.0 h.1)

    -- the parts that are made of the entries are the tree's processes
    of : (parts : List Part) → parts ≡ made → IsOfTree d (parts_graph parts [])
    of parts same =
        of_tree d (λ e. without_name (process_by (sites d) (names d) e)) (λ e. refl) (λ e. refl) (parts_graph parts [])
        (ap (map process_of) same ∙ processes_are d made es site_names process_names seen are_sites are_names made_of)

    module _ (parts : List Part) (same : parts ≡ made) where
      -- the graph of the parts
      abbrev g : Graph
      g = parts_graph parts []

      -- each dependent of the parts is one of them
      pub linked_within : IsWithinGraph g
      linked_within = is_within d g (of parts same) all_known

      -- what the search for a repeated dependent answers is the first fault of its kind
      repeats_are : (o : Option (ℕ × ℕ))
          → IfSome o (λ at. IsFirstDependent (λ i j. HasGraphFault g (GraphRepeated i j)) at.0 at.1)
          → IfNone o ((i j : ℕ) → HasGraphFault g (GraphRepeated i j) → ⊥)
          → find (holds d) (each_dependent d RepeatedDependent) ≡ option_map (λ p. RepeatedDependent p.0 p.1) o
      repeats_are (Some at) some none = repeat_found d g (of parts same) all_known at.0 at.1 some
      repeats_are None some none = repeat_none d g (of parts same) all_known none

      -- where a dependent repeats, it is the first fault of the entries, else the kinds after these decide
      pub repeat_judged : (o : Option (ℕ × ℕ)) (p : ℕ × ℕ) → o ≡ Some p
          → IfSome o (λ at. IsFirstDependent (λ i j. HasGraphFault g (GraphRepeated i j)) at.0 at.1)
          → IfNone o ((i j : ℕ) → HasGraphFault g (GraphRepeated i j) → ⊥)
          → first_of (holds d) (entry_faults d) ≡ Some (RepeatedDependent p.0 p.1)
      repeat_judged o p is some none =
          dependent_repeated d es seen site_names process_names are_sites are_names p.0 p.1 sites_known known
          (repeats_are o some none ∙ ap (option_map (λ p. RepeatedDependent p.0 p.1)) is)

      module _ (o : Option (ℕ × ℕ)) (is : o ≡ None)
          (some : IfSome o (λ at. IsFirstDependent (λ i j. HasGraphFault g (GraphRepeated i j)) at.0 at.1))
          (none : IfNone o ((i j : ℕ) → HasGraphFault g (GraphRepeated i j) → ⊥))
          (waiting : List Part) (alike : waiting ≡ made) where
        -- no dependent repeats
        apart : find (holds d) (each_dependent d RepeatedDependent) ≡ None
        apart = repeats_are o some none ∙ ap (option_map (λ p. RepeatedDependent p.0 p.1)) is

        -- where no dependent repeats, the first part that is active with dependents is the first fault of the entries
        pub active_judged : (i : ℕ) → IsFirst (λ k. HasGraphFault (parts_graph waiting []) (GraphActive k)) i
            → first_of (holds d) (entry_faults d) ≡ Some (ActiveWithDependents i)
        active_judged i f =
            active_waits d es seen site_names process_names are_sites are_names i sites_known known apart
            (active_found d (parts_graph waiting []) (of waiting alike) all_known i f)

        -- where no active process has dependents either, too many dependents are the first fault, or there is none
        pub total_judged : ((i : ℕ) → HasGraphFault (parts_graph waiting []) (GraphActive i) → ⊥)
            → (counted : List Part) → counted ≡ made → (b : Bool)
            → IsTrue b ↔ (MAX_DEPENDENCIES < dependent_count (parts_graph counted []))
            → first_of (holds d) (entry_faults d) ≡ cond b (Some TooManyDependencies) None
        total_judged idle counted here b h =
            entries_but_total d es seen site_names process_names are_sites are_names b sites_known known apart
            (active_none d (parts_graph waiting []) (of waiting alike) all_known idle)
            (total_is d b (dependent_count (parts_graph counted [])) (of counted here).total h)
