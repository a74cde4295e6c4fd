-- What a distance says of a process.
use Rattle.std.proofs.Common.{◌≡◌, ℕ, ◌<◌, true, false, cond, inl, inr, List, [], ◌∷◌, map, length, get_or, refl, sym, ◌∙◌, ap, arith}
use Rattle.std.specs.Prelude.{Some, None, Option, is_some}
use Rattle.std.proofs.lemmas.Bool.{cases_Bool}
use Rattle.cmh_graph.specs.declared.verdict.Verdict.TheVariants.{Deadlocked, Free}
use Rattle.cmh_graph.specs.ChosenPath.{distance_of}
use Rattle.cmh_graph.specs.Graph.{Graph, IsWithinGraph, indices, is_awake, process_count}
use Rattle.cmh_graph.specs.Path.{Reaches}
use Rattle.cmh_graph.specs.Verdict.{is_deadlocked, verdict}
use Rattle.cmh_graph.proofs.IndexLists.{by_index, length-by_index}
use Rattle.cmh_graph.proofs.PathLemmas.{Walk, walk}
use Rattle.cmh_graph.proofs.PositionLemmas.{numbered}
use Rattle.cmh_graph.proofs.LevelSearch.{near, has_steps}
use Rattle.cmh_graph.proofs.Verdicts.{asleep_is_idle, deadlocked_from_test, test_from_deadlocked}

-- a process with a distance reaches an awake one
reaches_awake : (g : Graph) (p n : ℕ) → distance_of g p ≡ Some n → (q : ℕ) × (is_awake g q ≡ true) × Reaches g p q
unfolding distance_of Walk
reaches_awake g p n e =
    let w = walk g (is_awake g) n p (near g (is_awake g) p n e) in
    (w.0, w.1, (p ∷ w.2, (refl, w.3)))

-- a process that reaches an awake one has a distance
distance_if_awake : (g : Graph) → IsWithinGraph g → (p q : ℕ) → p < process_count g → Reaches g p q
    → is_awake g q ≡ true → is_some (distance_of g p) ≡ true
unfolding distance_of
distance_if_awake g w p q i ([], l) a = absurd l
distance_if_awake g w p q i (x ∷ rest, (e, l)) a = has_steps g (is_awake g) w p q i rest l a

-- what a process without a distance reaches is not awake
no_distance_asleep : (g : Graph) → IsWithinGraph g → (p q : ℕ) → p < process_count g → is_some (distance_of g p) ≡ false
    → Reaches g p q → is_awake g q ≡ false
no_distance_asleep g w p q i e r = elim (cases_Bool (is_awake g q)) [
  | inl a ↦ let bad : true ≡ false = sym (distance_if_awake g w p q i r a) ∙ e in absurd cc
  | inr a ↦ a
]

-- a process without a distance is deadlocked
deadlocked_by_distance : (g : Graph) → IsWithinGraph g → (p : ℕ) → p < process_count g
    → is_some (distance_of g p) ≡ false → is_deadlocked g p ≡ true
deadlocked_by_distance g w p i e =
    test_from_deadlocked g p (
      asleep_is_idle g p (no_distance_asleep g w p p i e (p ∷ [], (refl, refl))),
      λ q r. no_distance_asleep g w p q i e r,
    )

-- a process with a distance is not deadlocked
free_by_distance : (g : Graph) → IsWithinGraph g → (p : ℕ) → is_some (distance_of g p) ≡ true
    → is_deadlocked g p ≡ false
free_by_distance g w p e =
    elim (cases_Bool (is_deadlocked g p)) [
      | inl d ↦
          let n = numbered (distance_of g p) e in
          let r = reaches_awake g p n.0 n.1 in
          let bad : true ≡ false = sym r.1 ∙ (deadlocked_from_test g p w d).1 r.0 r.2 in
          absurd cc
      | inr d ↦ d
    ]

-- a process with a distance is free, and one without is deadlocked
verdict_by_distance : (g : Graph) → IsWithinGraph g → (p : ℕ) → p < process_count g
    → verdict g p ≡ cond (is_some (distance_of g p)) Free Deadlocked
verdict_by_distance g w p i =
    elim (cases_Bool (is_some (distance_of g p))) [
      | inl e ↦ rw (free_by_distance g w p e, e) refl
      | inr e ↦ rw (deadlocked_by_distance g w p i e, e) refl
    ]

-- p is free where the list of all distances has one at its place, and deadlocked where it has none
verdict_at : (g : Graph) → IsWithinGraph g → (p : ℕ) → p < process_count g → (distances : List (Option ℕ))
    → distances ≡ map (distance_of g) (indices g) → (distance : Option ℕ) → get_or distances p None ≡ distance
    → cond (is_some distance) Free Deadlocked ≡ verdict g p
verdict_at g w p i distances e distance f =
    let at = sym f ∙ by_index g (distance_of g) distances p None e i in
    ap (λ d. cond (is_some d) Free Deadlocked) at ∙ sym (verdict_by_distance g w p i)

-- each process has a place in the list of all distances
pub has_distance : (g : Graph) (p : ℕ) (distances : List (Option ℕ)) → p < process_count g
    → distances ≡ map (distance_of g) (indices g) → p < length distances
has_distance g p distances i e = omega (arith, ap length e, length-by_index g (distance_of g), i)

-- p is free where a distance stands at its place in the list of all distances
pub free_at : (g : Graph) (p d : ℕ) (distances : List (Option ℕ)) → IsWithinGraph g → p < process_count g
    → distances ≡ map (distance_of g) (indices g) → get_or distances p None ≡ Some d → Free ≡ verdict g p
free_at g p d distances w i e f = verdict_at g w p i distances e (Some d) f

-- p is deadlocked where no distance stands at its place in the list of all distances
pub deadlocked_at : (g : Graph) (p : ℕ) (distances : List (Option ℕ)) → IsWithinGraph g → p < process_count g
    → distances ≡ map (distance_of g) (indices g) → get_or distances p None ≡ None → Deadlocked ≡ verdict g p
deadlocked_at g p distances w i e f = verdict_at g w p i distances e None f
