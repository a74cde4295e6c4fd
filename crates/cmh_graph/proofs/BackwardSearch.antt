-- The search against dependencies, inside of what a process reaches.
use Rattle.std.proofs.Common.{◌≡◌, ℕ, suc, ◌+◌, ◌<◌, ◌≤◌, Bool, true, false, not, ◌&&◌, cond, ◌⊎◌, inl, inr, List, [], ◌∷◌, ◌++◌, map, length, refl, sym, ◌∙◌, ap, subst, arith, eqb, eqb-true, eq-eqb}
use Rattle.std.specs.Prelude.{AllPairs, Contains, filter}
use Rattle.std.specs.Ordering.{nat_cmp}
use Rattle.std.specs.List.{range_with_len}
use Rattle.std.specs.List.Sorted.{IsNonDecreasing, IsPermutation, IsSorted}
use Rattle.std.proofs.lemmas.List.{length_push}
use Rattle.std.proofs.lemmas.List.Elements.{Contains-append_left, Contains-push, Contains-push_cases}
use Rattle.std.proofs.lemmas.List.FromFn.{fill_by_all, length-range_with_len}
use Rattle.std.proofs.lemmas.List.Kept.{AllPairs-from_increasing, IsStrictlyIncreasing-filter}
use Rattle.std.proofs.lemmas.List.Sorted.{Contains-permutation, IsNonDecreasingBy-from_sort, length_permutation}
use Rattle.std.proofs.lemmas.List.Sums.{sum_by-cons}
use Rattle.cmh_graph.specs.Core.{core_of}
use Rattle.cmh_graph.specs.Graph.{Graph, Depends, indices, IsWithinGraph, process_count}
use Rattle.cmh_graph.specs.Path.{Leads, Reaches, reaches}
use Rattle.cmh_graph.specs.Search.{is_marked, predecessors_at, unmarked_count, ArePredecessors, MarksEach}
use Rattle.cmh_graph.proofs.Groups.{head_below, indices_rise, tail_rises}
use Rattle.cmh_graph.proofs.IndexLists.{by_index, filter_agree_on, length-by_index}
use Rattle.cmh_graph.proofs.PathLemmas.{cons_contains, contains_cons, contains_index, index_within, reaches_then, then_reaches}
use Rattle.cmh_graph.proofs.LevelSearch.{marked_within}
use Rattle.cmh_graph.proofs.Verdicts.{contains_filter, filter_contains, idle_within, reaches_more}

-- The marked processes are of the core of p, p itself among them. Each is pending, or it is found and all of its
-- predecessors that p reaches are marked.
pub record ReturnsTo (g : Graph) (p : ℕ) (marks : List Bool) (pending found : List ℕ) : Type 0 where
  pub size : length marks ≡ process_count g
  pub start : is_marked marks p ≡ true
  pub sound : (q : ℕ) → is_marked marks q ≡ true → Reaches g p q × Reaches g q p
  pub pending_marked : (q : ℕ) → Contains pending q → is_marked marks q ≡ true
  found_marked : (q : ℕ) → Contains found q → is_marked marks q ≡ true
  pub closed : (q : ℕ) → is_marked marks q ≡ true
      → Contains pending q ⊎ (Contains found q × ((r : ℕ) → Depends g r q → Reaches g p r → is_marked marks r ≡ true))
  pub count : unmarked_count marks + length pending + length found ≤ process_count g

-- ---- how many are marked

-- one place more is either counted as unmarked or listed as marked
places_by : (b : Bool) (x n unmarked : ℕ) (marked : List ℕ) → unmarked + length marked ≡ n
    → cond {A = ℕ} (not b) 1 0 + unmarked + length (cond b (x ∷ marked) marked) ≡ suc n
places_by true x n unmarked marked e = omega (arith, e)
places_by false x n unmarked marked e = omega (arith, e)

-- the places of a list that fail a test and those that pass it are together as many as all
places : (t : ℕ → Bool) (xs : List ℕ) → unmarked_count (map t xs) + length (filter t xs) ≡ length xs
places t [] = refl
places t (x ∷ xs) =
    ap (λ n. n + length (filter t (x ∷ xs))) (sum_by-cons (λ mark. cond {A = ℕ} (not mark) 1 0) (t x) (map t xs))
    ∙ places_by (t x) x (length xs) (unmarked_count (map t xs)) (filter t xs) (places t xs)

-- the unmarked places and the marked ones are together as many as all
pub marked_and_not : (marks : List Bool)
    → unmarked_count marks + length (filter (is_marked marks) (range_with_len 0 (length marks))) ≡ length marks
marked_and_not marks =
    let all = range_with_len 0 (length marks) in
    let is : marks ≡ map (is_marked marks) all =
    fill_by_all (is_marked marks) marks (length marks) false refl (λ q l. refl) in
    ap (λ ms. unmarked_count ms + length (filter (is_marked marks) all)) is
    ∙ places (is_marked marks) all ∙ length-range_with_len 0 (length marks)

-- ---- the search

-- at first p alone is marked and pending, and none is found
pub returns_start : (g : Graph) (p : ℕ) (marks : List Bool) (pending found : List ℕ) → length marks ≡ process_count g
    → p < process_count g → ((q : ℕ) → is_marked marks q ≡ eqb q p) → pending ≡ p ∷ [] → found ≡ []
    → ReturnsTo g p marks pending found
returns_start g p marks pending found size i alone e f =
    subst (λ xs. ReturnsTo g p marks xs found) (sym e)
    (subst (λ xs. ReturnsTo g p marks (p ∷ []) xs) (sym f) (start g p marks size i alone))
  where
    start : (g : Graph) (p : ℕ) (marks : List Bool) → length marks ≡ process_count g → p < process_count g
        → ((q : ℕ) → is_marked marks q ≡ eqb q p) → ReturnsTo g p marks (p ∷ []) []
    start g p marks size i alone =
        let here : is_marked marks p ≡ true = alone p ∙ eq-eqb p p refl in
        let some =
        contains_filter (is_marked marks) (range_with_len 0 (length marks)) p
        (contains_index (length marks) p (omega (arith, i, size))) here in
        record {
          size = size;
          start = here;
          sound = λ q m. let same : q ≡ p = eqb-true q p (sym (alone q) ∙ m) in
              subst (λ r. Reaches g p r × Reaches g r p) (sym same) ((p ∷ [], (refl, refl)), (p ∷ [], (refl, refl)));
          pending_marked = λ q c. elim (cons_contains p [] q c) [
            | inl same ↦ ap (is_marked marks) (sym same) ∙ here
            | inr none ↦ absurd (omega (arith, none.1))
          ];
          found_marked = λ q c. absurd (omega (arith, c.1));
          closed = λ q m. let same : q ≡ p = eqb-true q p (sym (alone q) ∙ m) in inl (0, omega arith, sym same);
          count = omega (arith, marked_and_not marks, some.1, size);
        }

-- a pending process is one of the graph
pub returning_within : (g : Graph) (p q : ℕ) (marks : List Bool) (pending rest found : List ℕ)
    → ReturnsTo g p marks pending found → pending ≡ rest ++ q ∷ [] → q < process_count g
returning_within g p q marks pending rest found s e =
    omega (
      arith,
      marked_within marks q (s.pending_marked q (subst (λ xs. Contains xs q) (sym e) (Contains-push rest q))),
      s.size,
    )

-- a process that depends on another reaches what the other reaches
reaches_before : (g : Graph) (r q p : ℕ) → Depends g r q → Reaches g q p → Reaches g r p
reaches_before g r q p d ([], e) = absurd e
reaches_before g r q p d (x ∷ rest, (e, l)) = (r ∷ q ∷ rest, (refl, (d, l)))

-- a predecessor that the search enters is in the core
entered : (g : Graph) (p q r : ℕ) (lists : List (List ℕ)) (reached : List Bool) → ArePredecessors g lists
    → reached ≡ map (reaches g p) (indices g) → Reaches g q p
    → Contains (filter (is_marked reached) (predecessors_at lists q)) r → Reaches g p r × Reaches g r p
entered g p q r lists reached pre e back c =
    let both = filter_contains (is_marked reached) (predecessors_at lists q) r c in
    let d = pre.sound r q both.0 in
    let at = by_index g (reaches g p) reached r false e (idle_within g r d.0) in
    (reaches_then g p r (sym at ∙ both.1), reaches_before g r q p d back)

-- each predecessor that p reaches is one that the search enters
enters : (g : Graph) (p q r : ℕ) (lists : List (List ℕ)) (reached : List Bool) → IsWithinGraph g → p < process_count g
    → ArePredecessors g lists → reached ≡ map (reaches g p) (indices g) → Depends g r q → Reaches g p r
    → Contains (filter (is_marked reached) (predecessors_at lists q)) r
enters g p q r lists reached w i pre e d there =
    let at = by_index g (reaches g p) reached r false e (idle_within g r d.0) in
    contains_filter (is_marked reached) (predecessors_at lists q) r (pre.complete r q d)
    (at ∙ then_reaches g p r w i there)

-- a pending process is found, and its predecessors that p reaches are marked
pub returns_more : (g : Graph) (p q : ℕ) (lists : List (List ℕ)) (reached old new : List Bool)
    (pending rest after found more : List ℕ) → IsWithinGraph g → p < process_count g → ArePredecessors g lists
    → reached ≡ map (reaches g p) (indices g) → ReturnsTo g p old pending found → pending ≡ rest ++ q ∷ []
    → more ≡ found ++ q ∷ [] → MarksEach (filter (is_marked reached) (predecessors_at lists q)) old new rest after
    → ReturnsTo g p new after more
returns_more g p q lists reached old new pending rest after found more w i pre f s e is h =
    subst (λ xs. ReturnsTo g p new after xs) (sym is)
    (step g p q lists reached old new pending rest after found w i pre f s e h)
  where
    step : (g : Graph) (p q : ℕ) (lists : List (List ℕ)) (reached old new : List Bool)
        (pending rest after found : List ℕ) → IsWithinGraph g → p < process_count g → ArePredecessors g lists
        → reached ≡ map (reaches g p) (indices g) → ReturnsTo g p old pending found → pending ≡ rest ++ q ∷ []
        → MarksEach (filter (is_marked reached) (predecessors_at lists q)) old new rest after
        → ReturnsTo g p new after (found ++ q ∷ [])
    step g p q lists reached old new pending rest after found w i pre f s e h =
        let was : is_marked old q ≡ true =
        s.pending_marked q (subst (λ xs. Contains xs q) (sym e) (Contains-push rest q)) in
        record {
          size = h.size ∙ s.size;
          start = h.kept p s.start;
          sound = λ r m. elim (h.made r m) [
            | inl o ↦ s.sound r o
            | inr o ↦ entered g p q r lists reached pre f (s.sound q was).1 o.0
          ];
          pending_marked = λ r c. elim (h.only r c) [
            | inl d ↦ h.kept r
                (s.pending_marked r (subst (λ xs. Contains xs r) (sym e) (Contains-append_left rest (q ∷ []) r d)))
            | inr m ↦ m
          ];
          found_marked = λ r c. elim (Contains-push_cases found q r c) [
            | inl d ↦ h.kept r (s.found_marked r d)
            | inr same ↦ h.kept r (ap (is_marked old) (sym same) ∙ was)
          ];
          closed = λ r m. elim (h.made r m) [
            | inl o ↦ elim (s.closed r o) [
              | inl c ↦ elim (Contains-push_cases rest q r (subst (λ xs. Contains xs r) e c)) [
                | inl d ↦ inl (h.stays r d)
                | inr same ↦ inr (
                  subst (λ z. Contains (found ++ q ∷ []) z) same (Contains-push found q),
                  λ t d there. h.marked t
                      (enters g p q t lists reached w i pre f (subst (λ z. Depends g t z) (sym same) d) there),
                )
              ]
              | inr all ↦ inr (Contains-append_left found (q ∷ []) r all.0, λ t d there. h.kept t (all.1 t d there))
            ]
            | inr o ↦ inl o.1
          ];
          count = omega (arith, h.count, s.count, ap length e, length_push rest q, length_push found q);
        }

-- where nothing is pending, each process on a way from p back to p is marked
led_back : (g : Graph) (p : ℕ) (marks : List Bool) → is_marked marks p ≡ true
    → ((q : ℕ) → is_marked marks q ≡ true → (r : ℕ) → Depends g r q → Reaches g p r → is_marked marks r ≡ true)
    → (q : ℕ) (rest : List ℕ) → Reaches g p q → Leads g q rest p → is_marked marks q ≡ true
led_back g p marks start closed q [] there e = ap (is_marked marks) e ∙ start
led_back g p marks start closed q (r ∷ rest) there l =
    closed r (led_back g p marks start closed r rest (reaches_more g p q r there l.0) l.1) q l.0 there

-- where nothing is pending, each process that p reaches and that reaches p is marked
returned_marked : (g : Graph) (p : ℕ) (marks : List Bool) (found : List ℕ) → ReturnsTo g p marks [] found → (q : ℕ)
    → Reaches g p q → Reaches g q p → is_marked marks q ≡ true
returned_marked g p marks found s q there ([], e) = absurd e
returned_marked g p marks found s q there (x ∷ rest, (e, l)) =
    led_back g p marks s.start
    (λ r m t d reached. elim (s.closed r m) [
      | inl c ↦ absurd (omega (arith, c.1))
      | inr all ↦ all.1 t d reached
    ])
    q rest there l

-- a mark is right, by cases of the tests
mark_by : (there back mark : Bool) → (mark ≡ true → (there ≡ true) × (back ≡ true))
    → (there ≡ true → back ≡ true → mark ≡ true) → mark ≡ (there && back)
mark_by there back true sound complete = let both = sound refl in rw (both.0, both.1) refl
mark_by true true false sound complete = complete refl refl
mark_by true false false sound complete = refl
mark_by false back false sound complete = refl

-- where nothing is pending, the marks say which processes are in the core
marks_end : (g : Graph) (p : ℕ) (marks : List Bool) (found : List ℕ) → IsWithinGraph g → p < process_count g
    → ReturnsTo g p marks [] found → marks ≡ map (λ q. reaches g p q && reaches g q p) (indices g)
marks_end g p marks found w i s =
    fill_by_all (λ q. reaches g p q && reaches g q p) marks (process_count g) false s.size
    (λ q l. mark_by (reaches g p q) (reaches g q p) (is_marked marks q)
    (λ m. let both = s.sound q m in (then_reaches g p q w i both.0, then_reaches g q p w l both.1))
    (λ there back. returned_marked g p marks found s q (reaches_then g p q there) (reaches_then g q p back)))

-- ---- the list of the core

-- a filter after a filter asks both tests, by cases of the first
filter_both_by : (u : ℕ → Bool) (x : ℕ) (xs ys : List ℕ) (b : Bool) → xs ≡ filter u ys
    → cond (b && u x) (x ∷ xs) xs ≡ filter u (cond b (x ∷ ys) ys)
filter_both_by u x xs ys true e = λ i. cond (u x) (x ∷ e i) (e i)
filter_both_by u x xs ys false e = e

-- a filter after a filter asks both tests
filter_both : (t u : ℕ → Bool) (xs : List ℕ) → filter (λ x. t x && u x) xs ≡ filter u (filter t xs)
filter_both t u [] = refl
filter_both t u (x ∷ xs) = filter_both_by u x (filter (λ y. t y && u y) xs) (filter t xs) (t x) (filter_both t u xs)

-- where the marks say which processes are in the core, the list of the marked places is the core
core_listed : (g : Graph) (p : ℕ) (marks : List Bool) → marks ≡ map (λ q. reaches g p q && reaches g q p) (indices g)
    → filter (is_marked marks) (range_with_len 0 (length marks)) ≡ core_of g p
core_listed g p marks e =
    let both : ℕ → Bool = λ q. reaches g p q && reaches g q p in
    let size = ap length e ∙ length-by_index g both in
    ap (λ n. filter (is_marked marks) (range_with_len 0 n)) size
    ∙ filter_agree_on (is_marked marks) both (indices g)
    (λ q c. by_index g both marks q false e (index_within (process_count g) q c))
    ∙ filter_both (reaches g p) (λ q. reaches g q p) (indices g)

-- the first of numbers that don't fall is at most each of them
first_lowest : (x : ℕ) (xs : List ℕ) → IsNonDecreasing (x ∷ xs) → (y : ℕ) → Contains (x ∷ xs) y → x ≤ y
first_lowest x xs sorted y c = omega (arith, sorted 0 c.0 y (omega arith) c.1, c.2)

-- Numbers that don't fall, among which are all of a rising list, and which are no more than those, are the rising list.
pub sorted_is : (xs ys : List ℕ) → IsNonDecreasing xs → AllPairs (λ a b. a < b) ys
    → ((y : ℕ) → Contains ys y → Contains xs y) → length xs ≤ length ys → xs ≡ ys
sorted_is [] [] sorted rises has l = refl
sorted_is [] (y ∷ ys) sorted rises has l = absurd (omega (arith, (has y (0, omega arith, refl)).1))
sorted_is (x ∷ xs) [] sorted rises has l = absurd (omega (arith, l))
sorted_is (x ∷ xs) (y ∷ ys) sorted rises has l =
    let low : x ≤ y = first_lowest x xs sorted y (has y (0, omega arith, refl)) in
    let rest : xs ≡ ys =
    sorted_is xs ys (λ i j d a b. sorted (suc i) (suc j) d (omega (arith, a)) (omega (arith, b)))
    (tail_rises y ys rises)
    (λ z c. elim (cons_contains x xs z (has z (contains_cons y ys z c))) [
      | inl same ↦ absurd (omega (arith, same, low, head_below y ys rises z c))
      | inr d ↦ d
    ]) (omega (arith, l)) in
    let first : x ≡ y = elim (cons_contains x xs y (has y (0, omega arith, refl))) [
      | inl same ↦ same
      | inr d ↦ absurd (omega (arith, head_below y ys rises y (subst (λ zs. Contains zs y) rest d)))
    ] in
    λ k. first k ∷ rest k

-- where nothing is pending, those that are found, in order, are the core
pub returns_end : (g : Graph) (p : ℕ) (marks : List Bool) (pending found sorted : List ℕ) → IsWithinGraph g
    → p < process_count g → pending ≡ [] → ReturnsTo g p marks pending found → IsPermutation found sorted
    → IsSorted nat_cmp sorted → sorted ≡ core_of g p
returns_end g p marks pending found sorted w i e s moved order =
    let done = subst (λ xs. ReturnsTo g p marks xs found) e s in
    let all = range_with_len 0 (length marks) in
    let core = filter (is_marked marks) all in
    sorted_is sorted core (IsNonDecreasingBy-from_sort (λ x. x) sorted order)
    (AllPairs-from_increasing core (IsStrictlyIncreasing-filter (is_marked marks) all (indices_rise (length marks))))
    (λ q c. elim (done.closed q (filter_contains (is_marked marks) all q c).1) [
      | inl none ↦ absurd (omega (arith, none.1))
      | inr there ↦ Contains-permutation found sorted q moved there.0
    ])
    (omega (arith, length_permutation found sorted moved, done.count, done.size, marked_and_not marks))
    ∙ core_listed g p marks (marks_end g p marks found w i done)
