-- The graph of a tree without a fault is well formed.
use Rattle.std.proofs.Common.{◌≡◌, ℕ, ◌<◌, [], ◌++◌, true, false, ◌⊎◌, inl, inr, length, get_or, None, refl, sym, ap, ◌∙◌, arith}
use Rattle.std.specs.Prelude.{◌==◌, sum_by}
use Rattle.std.specs.List.{list_all}
use Rattle.std.proofs.lemmas.Bool.{false≢true, ltb-false, not-false, and_parts, eqb-true}
use Rattle.std.proofs.lemmas.List.{length-map, get_or-map}
use Rattle.std.proofs.lemmas.List.Recursion.{and_at}
use Rattle.serde_json.specs.Data.{Data, null}
use Rattle.cmh_graph.specs.declared.TheConstants.{MAX_PROCESSES, MAX_DEPENDENCIES, MAX_IN_TRANSIT}
use Rattle.cmh_graph.specs.Graph as graph
use Rattle.cmh_graph.specs.declared.fault.GraphFault.{GraphFault}
use Rattle.cmh_graph.specs.declared.fault.GraphFault.TheVariants.{Memory, TooManyProcesses as GraphProcesses, TooManyDependencies as GraphDependencies, DependentOutOfRange, RepeatedDependent as GraphRepeated, ActiveWithDependents as GraphActive, TooManyInTransit as GraphInTransit, TransitOutOfRange}
use Rattle.cmh_graph.proofs.BuildLemmas.{well_formed_law as graph_law}
use Rattle.cmh_graph.specs.Build.{HasGraphFault, IsFirstGraphFault, IsWellFormed, message_at}
use Rattle.cmh_dump.specs.declared.fault.DumpFault.{DumpFault}
use Rattle.cmh_dump.specs.declared.fault.DumpFault.TheVariants.{TooManyProcesses, UnknownDependent, RepeatedDependent, ActiveWithDependents, TooManyDependencies, TooManyInTransit, BadInTransit, UnknownInTransit}
use Rattle.cmh_dump.specs.Name.{is_among, place_of}
use Rattle.cmh_dump.specs.Tree.{text_of, texts_of, elements_of}
use Rattle.cmh_dump.specs.Entry.{sites, processes, transits, entries, entry, names, is_pair}
use Rattle.cmh_dump.specs.Dump.{holds, in_order, top_faults, site_faults, process_faults, name_faults, entry_faults, transit_faults, first_of, process_by, places_in_pair, tree_graph}
use Rattle.cmh_dump.proofs.Places.{place_within}
use Rattle.cmh_dump.proofs.FirstFault.Table.{AmongLists, among_below, among_rows, all_fail}
use Rattle.cmh_dump.proofs.FirstFault.Kinds.{none_after, none_among}
use Rattle.cmh_dump.proofs.FirstFault.Entries.{length-names}
use Rattle.cmh_dump.proofs.FirstFault.Shared.{IsOfTree, of_tree, here, is_within, repeats_here, waits_here}

-- no fault of the processes, of their entries and of the messages in transit is found
abbrev IsClean : Data → Type 0
IsClean d =
    (first_of (holds d) (process_faults d) ≡ None)
    × (first_of (holds d) (entry_faults d) ≡ None)
    × (first_of (holds d) (transit_faults d) ≡ None)

module _ (d : Data) (clean : IsClean d) where
  -- no fault of the processes holds
  process_fault : (fault : DumpFault) → AmongLists fault (process_faults d) → holds d fault ≡ false
  process_fault = all_fail (holds d) (process_faults d) clean.0

  -- no fault of the entries holds
  entry_fault : (fault : DumpFault) → AmongLists fault (entry_faults d) → holds d fault ≡ false
  entry_fault = all_fail (holds d) (entry_faults d) clean.1

  -- no fault of the messages in transit holds
  transit_fault : (fault : DumpFault) → AmongLists fault (transit_faults d) → holds d fault ≡ false
  transit_fault = all_fail (holds d) (transit_faults d) clean.2

  -- the processes are few enough
  few_processes : holds d TooManyProcesses ≡ false
  few_processes = process_fault TooManyProcesses (search (inl, inr) depth 9)

  -- each dependent names a process
  known_dependent : (i j : ℕ) → (i < length (processes d)) × (j < length (entry d i).dependents)
      → holds d (UnknownDependent i j) ≡ false
  known_dependent i j l =
      let here = among_rows UnknownDependent (λ i. length (entry d i).dependents) (length (processes d)) i j l.0 l.1 in
      entry_fault (UnknownDependent i j) (search (inl, inr, here) depth 9)

  -- no dependent equals an earlier one of its process
  new_dependent : (i j : ℕ) → (i < length (processes d)) × (j < length (entry d i).dependents)
      → holds d (RepeatedDependent i j) ≡ false
  new_dependent i j l =
      let here = among_rows RepeatedDependent (λ i. length (entry d i).dependents) (length (processes d)) i j l.0 l.1 in
      entry_fault (RepeatedDependent i j) (search (inl, inr, here) depth 9)

  -- no active process has dependents
  none_active : (i : ℕ) → i < length (processes d) → holds d (ActiveWithDependents i) ≡ false
  none_active i l =
      let here = among_below ActiveWithDependents (length (processes d)) i l in
      entry_fault (ActiveWithDependents i) (search (inl, inr, here) depth 9)

  -- the dependents together are few enough
  few_dependencies : holds d TooManyDependencies ≡ false
  few_dependencies = entry_fault TooManyDependencies (search (inl, inr) depth 9)

  -- the messages in transit are few enough
  few_in_transit : holds d TooManyInTransit ≡ false
  few_in_transit = transit_fault TooManyInTransit (search (inl, inr) depth 9)

  -- each message in transit is a pair of texts
  pair_in_transit : (i : ℕ) → i < length (transits d) → holds d (BadInTransit i) ≡ false
  pair_in_transit i l =
      let here = among_below BadInTransit (length (transits d)) i l in
      transit_fault (BadInTransit i) (search (inl, inr, here) depth 9)

  -- each message in transit names two processes
  known_in_transit : (i : ℕ) → i < length (transits d) → holds d (UnknownInTransit i) ≡ false
  known_in_transit i l =
      let here = among_below UnknownInTransit (length (transits d)) i l in
      transit_fault (UnknownInTransit i) (search (inl, inr, here) depth 9)

-- ---- the processes of the graph

-- the graph of a tree has the tree's processes
own : (d : Data) → IsOfTree d (tree_graph d)
own d = of_tree d (process_by (sites d) (names d)) (λ e. refl) (λ e. refl) (tree_graph d) refl

-- ---- the messages in transit

-- in a clean tree the sender and the receiver of a message are processes of the graph
known_in_pair : (d : Data) → IsClean d → (i k : ℕ) → i < length (transits d) → k < 2
    → place_of (names d) (get_or (texts_of (get_or (transits d) i null)) k []) < graph.process_count (tree_graph d)
known_in_pair d clean i k h l =
    let t = get_or (transits d) i null in
    let pair : is_pair t ≡ true = not-false (is_pair t) (pair_in_transit d clean i h) in
    let two = eqb-true (length (elements_of t)) 2 (and_parts (length (elements_of t) == 2) _ pair).0 in
    let size : length (texts_of t) ≡ length (elements_of t) = length-map (elements_of t) text_of in
    let all : list_all (is_among (names d)) (texts_of t) ≡ true =
    not-false (list_all (is_among (names d)) (texts_of t)) (known_in_transit d clean i h) in
    let one : is_among (names d) (get_or (texts_of t) k []) ≡ true =
    and_at (list_all (is_among (names d))) (is_among (names d)) refl (λ _ _. refl) (texts_of t) k []
    (omega (arith, l, two, size)) all in
    let place = place_within (names d) (get_or (texts_of t) k []) one in
    omega (arith, place, length-names d, (own d).count)

-- a message of the graph is the one that the tree says
transit_is : (d : Data) (i : ℕ) → i < length (tree_graph d).in_transit
    → (i < length (transits d)) × (message_at (tree_graph d) i ≡ places_in_pair (names d) (get_or (transits d) i null))
transit_is d i l =
    let m : i < length (transits d) = omega (arith, l, length-map (transits d) (places_in_pair (names d))) in
    (m, get_or-map (places_in_pair (names d)) (transits d) i null (0, 0) m)

-- ---- the whole

-- the graph of a clean tree has no fault
clean_has_none : (d : Data) → IsClean d → (fault : GraphFault) → HasGraphFault (tree_graph d) fault → ⊥
clean_has_none d clean GraphProcesses h =
    omega (arith, h, (own d).count, ltb-false MAX_PROCESSES (length (processes d)) (few_processes d clean))
clean_has_none d clean GraphDependencies h =
    let few = ltb-false MAX_DEPENDENCIES (sum_by (λ e. length e.dependents) (entries d)) (few_dependencies d clean) in
    omega (arith, h, (own d).total, few)
clean_has_none d clean (DependentOutOfRange i j) h =
    let l = is_within d (tree_graph d) (own d) (known_dependent d clean) i j h.0 in omega (arith, l, h.1)
clean_has_none d clean (GraphRepeated i j) h =
    let known = known_dependent d clean in
    false≢true (sym (new_dependent d clean i j (here d (tree_graph d) (own d) known i j h.0))
    ∙ repeats_here d (tree_graph d) (own d) known i j h)
clean_has_none d clean (GraphActive i) h =
    let known = known_dependent d clean in
    false≢true (sym (none_active d clean i (here d (tree_graph d) (own d) known i 0 h.0).0)
    ∙ waits_here d (tree_graph d) (own d) known i h)
clean_has_none d clean GraphInTransit h =
    let few = ltb-false MAX_IN_TRANSIT (length (transits d)) (few_in_transit d clean) in
    omega (arith, h, length-map (transits d) (places_in_pair (names d)), few)
clean_has_none d clean (TransitOutOfRange i) (l, inl h) =
    let t = transit_is d i l in
    let m = known_in_pair d clean i 0 t.0 (omega arith) in
    let e = ap (λ (m : ℕ × ℕ). m.0) t.1 in
    omega (arith, h, e, m)
clean_has_none d clean (TransitOutOfRange i) (l, inr h) =
    let t = transit_is d i l in
    let m = known_in_pair d clean i 1 t.0 (omega arith) in
    let e = ap (λ (m : ℕ × ℕ). m.1) t.1 in
    omega (arith, h, e, m)
clean_has_none d clean Memory h = h

-- a tree without a first fault is clean
clean_tree : (d : Data) → first_of (holds d) (in_order d) ≡ None → IsClean d
clean_tree d e =
    let from_entries = entry_faults d ++ transit_faults d in
    let from_names = name_faults d ++ from_entries in
    let from_processes = process_faults d ++ from_names in
    let processes =
    none_after (holds d) (site_faults d) from_processes
    (none_after (holds d) top_faults (site_faults d ++ from_processes) e) in
    let entries =
    none_after (holds d) (name_faults d) from_entries
    (none_after (holds d) (process_faults d) from_names processes) in (
      none_among (holds d) (process_faults d) from_names processes,
      none_among (holds d) (entry_faults d) (transit_faults d) entries,
      none_after (holds d) (entry_faults d) (transit_faults d) entries,
    )

-- where the table has no first fault, the graph of the tree is well formed
pub well_formed : (d : Data) → first_of (holds d) (in_order d) ≡ None → IsWellFormed (tree_graph d)
well_formed d e = (graph_law (tree_graph d)).1 (clean_has_none d (clean_tree d e))

-- a well-formed graph is refused as out of memory alone
pub refused_for_memory : (g : graph.Graph) → IsWellFormed g → (e : GraphFault) → (e ≡ Memory) ⊎ IsFirstGraphFault g e
    → e ≡ Memory
refused_for_memory g w e (inl m) = m
refused_for_memory g w e (inr f) = absurd ((graph_law g).0 w e f.had)
