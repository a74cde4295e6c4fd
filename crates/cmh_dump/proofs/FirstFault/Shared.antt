-- Faults that a graph of the tree's processes shares with the tree.
use Rattle.std.proofs.Common.{◌≡◌, ℕ, zero, suc, ◌<◌, List, [], ◌∷◌, true, false, not, ◌&&◌, Some, None, map, take, length, get_or, sum, nat_lt, refl, sym, ap, ◌∙◌, arith}
use Rattle.std.specs.Prelude.{find, sum_by}
use Rattle.std.proofs.lemmas.Bool.{and_parts, false_from_ne_true, lt-ltb, ltb-true, not-false, not-true}
use Rattle.std.proofs.lemmas.List.{length-map, get_or-map, get_or-take, length-take-le}
use Rattle.std.proofs.lemmas.List.Folds.{list_any_at}
use Rattle.std.proofs.lemmas.List.Sums.{sum-map}
use Rattle.std.proofs.lemmas.Slice.Eq.{bytes_eq-Decides}
use Rattle.std.specs.Prelude.{bytes_eq}
use Rattle.serde_json.specs.Data.{Data, null}
use Rattle.cmh_graph.specs.Build.{HasGraphFault, dependent_count}
use Rattle.cmh_graph.specs.Graph.{Process, Graph, process_count, process_at, dependents_of, dependent_at, is_idle_state, nobody, HasDependentAt, IsWithinGraph}
use Rattle.cmh_graph.specs.Judge.{IsFirst, IsFirstDependent}
use Rattle.cmh_graph.specs.declared.fault.GraphFault.TheVariants.{RepeatedDependent as GraphRepeated, ActiveWithDependents as GraphActive}
use Rattle.cmh_dump.specs.declared.fault.DumpFault.TheVariants.{UnknownDependent, RepeatedDependent, ActiveWithDependents}
use Rattle.cmh_dump.specs.Dump.{holds, each, each_dependent}
use Rattle.cmh_dump.specs.Entry.{Entry, processes, entries, entry, names, entry_of}
use Rattle.cmh_dump.specs.Name.{is_among, place_of}
use Rattle.cmh_dump.proofs.Places.{at_place_of, place_within, same_from_places}
use Rattle.cmh_dump.proofs.FirstFault.Entries.{length-names}
use Rattle.cmh_dump.proofs.FirstFault.Searches.{found_at, none_below}
use Rattle.cmh_dump.proofs.FirstFault.Table.{first_row, no_row}

-- dependent j of process i
abbrev pub dependent : Data → ℕ → ℕ → List ℕ
dependent d i j = get_or (entry d i).dependents j []

-- process i of the tree has a dependent j
abbrev pub HasDependent : Data → ℕ → ℕ → Type 0
HasDependent d i j = (i < length (processes d)) × (j < length (entry d i).dependents)

-- the graph has the processes of the tree, whatever their names and sites
pub record IsOfTree (d : Data) (g : Graph) : Type 0 where
  pub count : process_count g ≡ length (processes d)
  pub rows : (i : ℕ) → dependents_of g i ≡ map (place_of (names d)) (entry d i).dependents
  pub states : (i : ℕ) → i < length (processes d) → (process_at g i).state ≡ (entry d i).state
  pub total : dependent_count g ≡ sum_by (λ e. length e.dependents) (entries d)

module _ (d : Data) (f : Entry → Process)
    (waits : (e : Entry) → (f e).dependents ≡ map (place_of (names d)) e.dependents)
    (acts : (e : Entry) → (f e).state ≡ e.state) where
  -- the dependents of a process are the places of those that its entry names, past the end too
  rows_by : (ps : List Data) (i : ℕ)
      → (get_or (map f (map entry_of ps)) i nobody).dependents
      ≡ map (place_of (names d)) (entry_of (get_or ps i null)).dependents
  rows_by [] i = refl
  rows_by (p ∷ ps) zero = waits (entry_of p)
  rows_by (p ∷ ps) (suc i) = rows_by ps i

  -- a process has the state that the tree says
  states_by : (ps : List Data) (i : ℕ) → i < length ps
      → (get_or (map f (map entry_of ps)) i nobody).state ≡ (entry_of (get_or ps i null)).state
  states_by [] i l = absurd (omega arith)
  states_by (p ∷ ps) zero l = acts (entry_of p)
  states_by (p ∷ ps) (suc i) l = states_by ps i (omega arith)

  -- a process has as many dependents as the tree says
  sizes_by : (es : List Entry) → map (λ p. length p.dependents) (map f es) ≡ map (λ e. length e.dependents) es
  sizes_by [] = refl
  sizes_by (e ∷ es) = λ i. (ap length (waits e) ∙ length-map e.dependents (place_of (names d))) i ∷ sizes_by es i

  -- what keeps state and dependents of each entry makes a graph of the tree's processes
  pub of_tree : (g : Graph) → g.processes ≡ map f (entries d) → IsOfTree d g
  of_tree g is = record {
    count = ap length is ∙ length-map (entries d) f ∙ length-map (processes d) entry_of;
    rows = λ i. ap (λ ps. (get_or ps i nobody).dependents) is ∙ rows_by (processes d) i;
    states = λ i l. ap (λ ps. (get_or ps i nobody).state) is ∙ states_by (processes d) i l;
    total =
        ap (sum_by (λ p. length p.dependents)) is ∙ sym (sum-map (λ p. length p.dependents) (map f (entries d)))
        ∙ ap sum (sizes_by (entries d)) ∙ sum-map (λ e. length e.dependents) (entries d);
  }

module _ (d : Data) (g : Graph) (of : IsOfTree d g)
    (known : (i j : ℕ) → HasDependent d i j → holds d (UnknownDependent i j) ≡ false) where
  -- a dependent of the graph is one of the tree
  pub here : (i j : ℕ) → HasDependentAt g i j → HasDependent d i j
  here i j h =
      let size = ap length (of.rows i) ∙ length-map (entry d i).dependents (place_of (names d)) in
      (omega (arith, h.0, of.count), omega (arith, h.1, size))

  -- a dependent of the tree is one of the graph
  there : (i j : ℕ) → HasDependent d i j → HasDependentAt g i j
  there i j h =
      let size = ap length (of.rows i) ∙ length-map (entry d i).dependents (place_of (names d)) in
      (omega (arith, h.0, of.count), omega (arith, h.1, size))

  -- a dependent of the graph is the place of the one that the tree names
  place_is : (i j : ℕ) → HasDependent d i j → dependent_at g i j ≡ place_of (names d) (dependent d i j)
  place_is i j h =
      ap (λ ns. get_or ns j 0) (of.rows i) ∙ get_or-map (place_of (names d)) (entry d i).dependents j [] 0 h.1

  -- each dependent is a name of the tree
  among : (i j : ℕ) → HasDependent d i j → is_among (names d) (dependent d i j) ≡ true
  among i j h = not-false (is_among (names d) (dependent d i j)) (known i j h)

  -- each dependent is a process of the graph
  pub is_within : IsWithinGraph g
  is_within i j h =
      let t = here i j h in
      let l = place_within (names d) (dependent d i j) (among i j t) in
      omega (arith, place_is i j t, l, length-names d, of.count)

  -- a dependent that repeats in the graph repeats in the tree
  pub repeats_here : (i j : ℕ) → HasGraphFault g (GraphRepeated i j) → holds d (RepeatedDependent i j) ≡ true
  repeats_here i j h =
      let ds = (entry d i).dependents in
      let later = here i j h.0 in
      let earlier : HasDependent d i h.1 = (later.0, omega (arith, later.1, h.2)) in
      let same : dependent d i h.1 ≡ dependent d i j =
      same_from_places (names d) (dependent d i h.1) (dependent d i j) (among i h.1 earlier) (among i j later)
      (sym (place_is i h.1 earlier) ∙ h.3 ∙ place_is i j later) in
      let size : length (take j ds) ≡ j = length-take-le j ds (omega (arith, later.1)) in
      list_any_at (bytes_eq (dependent d i j)) (take j ds) h.1 [] (omega (arith, size, h.2))
      ((bytes_eq-Decides (dependent d i j) (get_or (take j ds) h.1 [])).1
      (sym (get_or-take j ds h.1 [] h.2 ∙ same)))

  -- a dependent that repeats in the tree repeats in the graph
  repeats_there : (i j : ℕ) → HasDependent d i j → holds d (RepeatedDependent i j) ≡ true
      → HasGraphFault g (GraphRepeated i j)
  repeats_there i j h e =
      let ds = (entry d i).dependents in
      let k = place_of (take j ds) (dependent d i j) in
      let size : length (take j ds) ≡ j = length-take-le j ds (omega (arith, h.1)) in
      let before : k < j = omega (arith, place_within (take j ds) (dependent d i j) e, size) in
      let same = at_place_of (take j ds) (dependent d i j) e ∙ get_or-take j ds k [] before in
      let earlier : HasDependent d i k = (h.0, omega (arith, h.1, before)) in
      (there i j h, k, before, place_is i k earlier ∙ ap (place_of (names d)) (sym same) ∙ sym (place_is i j h))

  -- a process that is active with dependents in the graph is so in the tree
  pub waits_here : (i : ℕ) → HasGraphFault g (GraphActive i) → holds d (ActiveWithDependents i) ≡ true
  waits_here i h =
      let t = here i 0 h.0 in
      λ k. not ((sym (ap is_idle_state (of.states i t.0)) ∙ h.1) k) && lt-ltb 0 (length (entry d i).dependents) t.1 k

  -- a process that is active with dependents in the tree is so in the graph
  waits_there : (i : ℕ) → i < length (processes d) → holds d (ActiveWithDependents i) ≡ true
      → HasGraphFault g (GraphActive i)
  waits_there i l e =
      let both = and_parts (not (is_idle_state (entry d i).state)) (nat_lt 0 (length (entry d i).dependents)) e in (
        there i 0 (l, ltb-true 0 (length (entry d i).dependents) both.1),
        ap is_idle_state (of.states i l) ∙ not-true (is_idle_state (entry d i).state) both.0,
      )

  -- the first dependent that repeats in the graph is the first fault of its kind
  pub repeat_found : (i j : ℕ) → IsFirstDependent (λ k l. HasGraphFault g (GraphRepeated k l)) i j
      → find (holds d) (each_dependent d RepeatedDependent) ≡ Some (RepeatedDependent i j)
  repeat_found i j f =
      let t = here i j f.holds.0 in
      first_row (holds d) RepeatedDependent (λ k. length (entry d k).dependents) (length (processes d)) i j t.0 t.1
      (repeats_here i j f.holds) (λ k l m n e. f.first k l (repeats_there k l (m, n) e))

  -- where no dependent repeats in the graph, no fault of that kind is found
  pub repeat_none : ((i j : ℕ) → HasGraphFault g (GraphRepeated i j) → ⊥)
      → find (holds d) (each_dependent d RepeatedDependent) ≡ None
  repeat_none none =
      no_row (holds d) RepeatedDependent (λ k. length (entry d k).dependents) (length (processes d))
      (λ k l m n e. none k l (repeats_there k l (m, n) e))

  -- the first process that is active with dependents in the graph is the first fault of its kind
  pub active_found : (i : ℕ) → IsFirst (λ k. HasGraphFault g (GraphActive k)) i
      → find (holds d) (each (processes d) ActiveWithDependents) ≡ Some (ActiveWithDependents i)
  active_found i f =
      let t = here i 0 f.holds.0 in
      found_at (holds d) ActiveWithDependents (length (processes d)) i t.0
      (λ k l. false_from_ne_true (holds d (ActiveWithDependents k))
      (λ e. let m = f.first k (waits_there k (omega (arith, l, t.0)) e) in absurd (omega (arith, l, m))))
      (waits_here i f.holds)

  -- where none is active with dependents in the graph, no fault of that kind is found
  pub active_none : ((i : ℕ) → HasGraphFault g (GraphActive i) → ⊥)
      → find (holds d) (each (processes d) ActiveWithDependents) ≡ None
  active_none none =
      none_below (holds d) ActiveWithDependents (length (processes d))
      (λ k l. false_from_ne_true (holds d (ActiveWithDependents k)) (λ e. none k (waits_there k l e)))
