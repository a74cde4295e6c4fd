-- The search along dependencies that lists what it visits.
use Rattle.std.proofs.Common.{◌≡◌, ℕ, ◌+◌, ◌<◌, ◌≤◌, Bool, true, ◌⊎◌, inl, inr, List, [], ◌∷◌, ◌++◌, length, refl, sym, ◌∙◌, ap, subst, arith, eqb, eqb-true, eq-eqb}
use Rattle.std.specs.Prelude.{Contains, filter}
use Rattle.std.specs.Ordering.{nat_cmp}
use Rattle.std.specs.List.{range_with_len}
use Rattle.std.specs.List.Sorted.{IsPermutation, IsSorted}
use Rattle.std.proofs.lemmas.List.{length_push}
use Rattle.std.proofs.lemmas.List.Elements.{Contains-append_left, Contains-push, Contains-push_cases}
use Rattle.std.proofs.lemmas.List.Kept.{AllPairs-from_increasing, IsStrictlyIncreasing-filter}
use Rattle.std.proofs.lemmas.List.Sorted.{Contains-permutation, IsNonDecreasingBy-from_sort, length_permutation}
use Rattle.cmh_graph.specs.Build.{IsWellFormed}
use Rattle.cmh_graph.specs.Graph.{Graph, dependents_of, IsWithinGraph, process_count}
use Rattle.cmh_graph.specs.Path.{reach_of}
use Rattle.cmh_graph.specs.Search.{is_marked, unmarked_count, MarksEach, SpreadsFrom}
use Rattle.cmh_graph.proofs.Groups.{indices_rise}
use Rattle.cmh_graph.proofs.PathLemmas.{contains_index}
use Rattle.cmh_graph.proofs.BackwardSearch.{marked_and_not, sorted_is}
use Rattle.cmh_graph.proofs.ForwardSearch.{reach_listed, spreads_alone, spreads_end, spreads_more}
use Rattle.cmh_graph.proofs.Verdicts.{contains_filter, filter_contains}

-- Each marked process is pending or listed, and there are no more of these than places that can be marked.
pub record ListsFrom (g : Graph) (p : ℕ) (marks : List Bool) (pending list : List ℕ) : Type 0 where
  pub spreads : SpreadsFrom g p marks pending
  pub listed : (q : ℕ) → is_marked marks q ≡ true → Contains pending q ⊎ Contains list q
  pub count : unmarked_count marks + length pending + length list ≤ process_count g

-- at first p alone is marked and pending, and none is listed
pub lists_start : (g : Graph) (p : ℕ) (marks : List Bool) (pending list : List ℕ) → length marks ≡ process_count g
    → p < process_count g → ((q : ℕ) → is_marked marks q ≡ eqb q p) → pending ≡ p ∷ [] → list ≡ []
    → ListsFrom g p marks pending list
lists_start g p marks pending list size i alone e f =
    let some =
    contains_filter (is_marked marks) (range_with_len 0 (length marks)) p
    (contains_index (length marks) p (omega (arith, i, size))) (alone p ∙ eq-eqb p p refl) in
    let start : ListsFrom g p marks (p ∷ []) [] = record {
      spreads = spreads_alone g p marks size i alone;
      listed = λ q m. inl (0, omega arith, sym (eqb-true q p (sym (alone q) ∙ m)));
      count = omega (arith, marked_and_not marks, some.1, size);
    } in
    subst (λ xs. ListsFrom g p marks xs list) (sym e) (subst (λ ys. ListsFrom g p marks (p ∷ []) ys) (sym f) start)

-- a pending process is listed, and its dependents are marked
pub lists_more : (g : Graph) (p q : ℕ) (old new : List Bool) (pending rest after list more : List ℕ) → IsWellFormed g
    → ListsFrom g p old pending list → pending ≡ rest ++ q ∷ [] → more ≡ list ++ q ∷ []
    → MarksEach (dependents_of g q) old new rest after → ListsFrom g p new after more
lists_more g p q old new pending rest after list more w s e is h =
    let next : ListsFrom g p new after (list ++ q ∷ []) = record {
      spreads = spreads_more g p q old new pending rest after w s.spreads e h;
      listed = λ r m. elim (h.made r m) [
        | inl o ↦ elim (s.listed r o) [
          | inl c ↦ elim (Contains-push_cases rest q r (subst (λ xs. Contains xs r) e c)) [
            | inl d ↦ inl (h.stays r d)
            | inr same ↦ inr (subst (λ z. Contains (list ++ q ∷ []) z) same (Contains-push list q))
          ]
          | inr d ↦ inr (Contains-append_left list (q ∷ []) r d)
        ]
        | inr o ↦ inl o.1
      ];
      count = omega (arith, h.count, s.count, ap length e, length_push rest q, length_push list q);
    } in
    subst (λ xs. ListsFrom g p new after xs) (sym is) next

-- where nothing is pending, those that are listed, in order, are the reach
pub lists_end : (g : Graph) (p : ℕ) (marks : List Bool) (pending list sorted : List ℕ) → IsWithinGraph g
    → p < process_count g → pending ≡ [] → ListsFrom g p marks pending list → IsPermutation list sorted
    → IsSorted nat_cmp sorted → sorted ≡ reach_of g p
lists_end g p marks pending list sorted w i e s moved order =
    let done = subst (λ xs. ListsFrom g p marks xs list) e s in
    let all = range_with_len 0 (length marks) in
    let reach = filter (is_marked marks) all in
    sorted_is sorted reach (IsNonDecreasingBy-from_sort (λ x. x) sorted order)
    (AllPairs-from_increasing reach (IsStrictlyIncreasing-filter (is_marked marks) all (indices_rise (length marks))))
    (λ q c. elim (done.listed q (filter_contains (is_marked marks) all q c).1) [
      | inl none ↦ absurd (omega (arith, none.1))
      | inr there ↦ Contains-permutation list sorted q moved there
    ])
    (omega (arith, length_permutation list sorted moved, done.count, done.spreads.size, marked_and_not marks))
    ∙ reach_listed g p marks (spreads_end g p marks pending w i e s.spreads)
