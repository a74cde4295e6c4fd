-- Processes that are a core by themselves.
use Rattle.std.proofs.Common.{◌≡◌, ℕ, zero, suc, ◌<◌, ◌≤◌, Bool, true, false, inl, inr, List, [], ◌∷◌, map, length, get_or, replicate, set, refl, sym, ◌∙◌, ap, subst, arith, eqb, eqb-true}
use Rattle.std.specs.Prelude.{AllPairs, Contains}
use Rattle.std.proofs.lemmas.Bool.{cases_eq, cases_lt}
use Rattle.std.proofs.lemmas.List.{get_or-set_same, get_or-set_other, length-set}
use Rattle.std.proofs.lemmas.List.Kept.{AllPairs-from_increasing}
use Rattle.cmh_graph.specs.Alone.{AreAlone, ArePassed}
use Rattle.cmh_graph.specs.Core.{core_of}
use Rattle.cmh_graph.specs.Graph.{Graph, Depends, dependents_of, indices, IsWithinGraph, process_count}
use Rattle.cmh_graph.specs.Path.{Leads, Reaches}
use Rattle.cmh_graph.specs.Search.{is_marked, predecessors_at, ArePredecessors}
use Rattle.cmh_graph.proofs.Cores.{core_law}
use Rattle.cmh_graph.proofs.Groups.{in_own_core, reaches_on, rising_law}
use Rattle.cmh_graph.proofs.IndexLists.{by_index, length-by_index}
use Rattle.cmh_graph.proofs.PathLemmas.{cons_contains, depends_within}
use Rattle.cmh_graph.proofs.LevelSearch.{marked_within}
use Rattle.cmh_graph.proofs.PositionLemmas.{mark_keeps}

-- a rising list that has p, and nothing else, is p alone
only_member : (xs : List ℕ) (p : ℕ) → AllPairs (λ a b. a < b) xs → Contains xs p → ((q : ℕ) → Contains xs q → q ≡ p)
    → xs ≡ p ∷ []
only_member [] p rises c same = absurd (omega (arith, c.1))
only_member (x ∷ []) p rises c same = λ i. same x (0, omega arith, refl) i ∷ []
only_member (x ∷ y ∷ xs) p rises c same =
    absurd (omega
    (arith, rises 0 1 0 (omega arith) (omega arith), same x (0, omega arith, refl), same y (1, omega arith, refl)))

-- a core whose members are one process is that process alone
core_alone : (g : Graph) (p : ℕ) → IsWithinGraph g → p < process_count g
    → ((q : ℕ) → Reaches g p q → Reaches g q p → q ≡ p) → core_of g p ≡ p ∷ []
core_alone g p w i same =
    only_member (core_of g p) p (AllPairs-from_increasing (core_of g p) (rising_law g p).1) (in_own_core g p w i)
    (λ q c. let both = (core_law g p q w i).0 c in same q both.0 both.1)

-- what a list of one has is that one
one_contains : (x y : ℕ) → Contains (x ∷ []) y → x ≡ y
one_contains x y c = elim (cons_contains x [] y c) [
  | inl same ↦ same
  | inr none ↦ absurd (omega (arith, none.1))
]

-- where each dependency of p is a core by itself, and p and q reach each other, they are one process
behind_alone : (g : Graph) (p : ℕ) → IsWithinGraph g → p < process_count g
    → ((r : ℕ) → Depends g p r → core_of g r ≡ r ∷ []) → (q : ℕ) → Reaches g p q → Reaches g q p → q ≡ p
behind_alone g p w i alone q ([], e) back = absurd e
behind_alone g p w i alone q (x ∷ [], (e, l)) back = sym l
behind_alone g p w i alone q (x ∷ r ∷ rest, (e, l)) back =
    let j = depends_within g w p r i l.0 in
    let to_q : Reaches g r q = (r ∷ rest, (refl, l.1)) in
    let to_r : Reaches g p r = (p ∷ r ∷ [], (refl, (l.0, refl))) in
    let own =
    one_contains r p
    (subst (λ xs. Contains xs p) (alone r l.0) ((core_law g r p w j).1 (reaches_on g r q p to_q back, to_r))) in
    let other =
    one_contains r q
    (subst (λ xs. Contains xs q) (alone r l.0) ((core_law g r q w j).1 (to_q, reaches_on g q p r back to_r))) in
    sym other ∙ own

-- a process is a core by itself where each of its dependencies is one
alone_more : (g : Graph) (p : ℕ) → IsWithinGraph g → p < process_count g
    → ((r : ℕ) → Depends g p r → core_of g r ≡ r ∷ []) → core_of g p ≡ p ∷ []
alone_more g p w i alone = core_alone g p w i (behind_alone g p w i alone)

-- the last step of a way to p is a dependency on it
last_step : (g : Graph) (q r : ℕ) (rest : List ℕ) (p : ℕ) → Leads g q (r ∷ rest) p → (t : ℕ) × Depends g t p
last_step g q r [] p l = (q, subst (λ z. Depends g q z) l.1 l.0)
last_step g q r (s ∷ rest) p l = last_step g r s rest p l.1

-- where no process depends on p, only p reaches it
unnamed_alone : (g : Graph) (p : ℕ) → ((t : ℕ) → Depends g t p → ⊥) → (q : ℕ) → Reaches g q p → q ≡ p
unnamed_alone g p nobody q ([], e) = absurd e
unnamed_alone g p nobody q (x ∷ [], (e, l)) = l
unnamed_alone g p nobody q (x ∷ r ∷ rest, (e, l)) = let step = last_step g q r rest p l in absurd (nobody step.0 step.1)

-- where just those processes are marked on which none depends, each of them is a core by itself
pub alone_start : (g : Graph) (lists : List (List ℕ)) (marks : List Bool) → IsWithinGraph g → ArePredecessors g lists
    → marks ≡ map (λ p. eqb (length (predecessors_at lists p)) 0) (indices g) → AreAlone g marks
alone_start g lists marks w pre is =
    let size = ap length is ∙ length-by_index g (λ p. eqb (length (predecessors_at lists p)) 0) in
    record {
      size = size;
      alone = λ p m.
          let i : p < process_count g = omega (arith, marked_within marks p m, size) in
          let empty =
          eqb-true (length (predecessors_at lists p)) 0
          (sym (by_index g (λ q. eqb (length (predecessors_at lists q)) 0) marks p false is i) ∙ m) in
          core_alone g p w i
          (λ q there back. unnamed_alone g p
          (λ t d. let c = pre.complete t p d in absurd (omega (arith, c.1, empty))) q back);
    }

-- at first no dependents are passed, so all that are passed are marked
pub passed_start : (g : Graph) (marks : List Bool) (passed : List ℕ) → length passed ≡ process_count g
    → ((p : ℕ) → get_or passed p 0 ≡ 0) → ArePassed g marks passed
passed_start g marks passed size none = record { size = size; marked = λ p k l. absurd (omega (arith, l, none p)) }

-- where the dependents of p up to a count are marked, that many of them may be passed
pub passed_more : (g : Graph) (marks : List Bool) (passed : List ℕ) (p count : ℕ) → ArePassed g marks passed
    → p < process_count g
    → ((k : ℕ) → get_or passed p 0 ≤ k → k < count → is_marked marks (get_or (dependents_of g p) k 0) ≡ true)
    → ArePassed g marks (set passed p count)
passed_more g marks passed p count h i on = record {
  size = length-set passed p count ∙ h.size;
  marked = λ q k l. elim (cases_eq q p) [
    | inl same ↦
        let here : get_or (set passed p count) q 0 ≡ count = ap (λ z. get_or (set passed p count) z 0) same
        ∙ get_or-set_same passed p count 0 (omega (arith, i, h.size)) in
        subst (λ z. is_marked marks (get_or (dependents_of g z) k 0) ≡ true) (sym same)
        (elim (cases_lt k (get_or passed p 0)) [
          | inl before ↦ h.marked p k before
          | inr after ↦ on k (omega (arith, after)) (omega (arith, l, here))
        ])
    | inr other ↦ h.marked q k (omega (arith, l, get_or-set_other passed p q count 0 other))
  ];
}

-- where a place more is marked, the dependents that were passed stay passed
pub passed_stays : (g : Graph) (marks : List Bool) (passed : List ℕ) (p : ℕ) → p < length marks
    → ArePassed g marks passed → ArePassed g (set marks p true) passed
passed_stays g marks passed p i h = record {
  size = h.size;
  marked = λ q k l. mark_keeps marks p (get_or (dependents_of g q) k 0) i (h.marked q k l);
}

-- where all dependents of p are passed, p may be marked as a core by itself
pub alone_marked : (g : Graph) (marks : List Bool) (passed : List ℕ) (p : ℕ) → IsWithinGraph g → p < process_count g
    → AreAlone g marks → ArePassed g marks passed
    → length (dependents_of g p) ≤ get_or passed p 0 → AreAlone g (set marks p true)
alone_marked g marks passed p w i a h all = record {
  size = length-set marks p true ∙ a.size;
  alone = λ q m. elim (cases_eq q p) [
    | inl same ↦
        subst (λ z. core_of g z ≡ z ∷ []) (sym same)
        (alone_more g p w i (λ r d. let c = d.1 in
        let at : get_or (dependents_of g p) c.0 0 ≡ r = at_place (dependents_of g p) c.0 r c.1 c.2 in
        a.alone r (subst (λ z. is_marked marks z ≡ true) at (h.marked p c.0 (omega (arith, c.1, all))))))
    | inr other ↦ a.alone q (sym (get_or-set_other marks p q true false other) ∙ m)
  ];
}
  where
    at_place : (xs : List ℕ) (k r : ℕ) → k < length xs → get_or xs k r ≡ r → get_or xs k 0 ≡ r
    at_place [] k r l e = absurd (omega (arith, l))
    at_place (x ∷ xs) zero r l e = e
    at_place (x ∷ xs) (suc k) r l e = at_place xs k r (omega (arith, l)) e

-- a list of zeros has a zero at each place
pub zeros_at : (n p : ℕ) → get_or {A = ℕ} (replicate n 0) p 0 ≡ 0
zeros_at zero p = refl
zeros_at (suc n) zero = refl
zeros_at (suc n) (suc p) = zeros_at n p
