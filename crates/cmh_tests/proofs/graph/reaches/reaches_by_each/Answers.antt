use Rattle.std.proofs.Common.{◌≡◌, ℕ, ◌<◌, ◌∷◌, [], List, get_or, length, refl, subst}
use Rattle.std.specs.Prelude.{Contains}
use Rattle.std.proofs.lemmas.List.Elements.{Contains-get_or}
use Rattle.cmh_graph.specs.Build.{IsWellFormed}
use Rattle.cmh_graph.specs.Graph.{Graph, Depends, dependents_of}
use Rattle.cmh_graph.proofs.PathLemmas.{depends_within}
use Rattle.cmh_graph.proofs.PositionLemmas.{waits}
use Rattle.cmh_tests.proofs.graph.reaches.reaches_by_each.Goals as goal

-- a process depends on each of its dependents
waits_at : (g : Graph) (p k : ℕ) (row : List ℕ) → IsWellFormed g → row ≡ dependents_of g p → k < length row
    → Depends g p (get_or row k 0)
waits_at g p k row w is low =
    let q = get_or row k 0 in
    waits g p q w (subst (λ xs. Contains xs q) is (Contains-get_or row k 0 low))

pub reach_marks-requires : goal.reach_marks-requires
reach_marks-requires c =
    let g = c.args.graph.now in
    let q = get_or c.dependents-q-items.result.now c.loop-q.q-index 0 in
    depends_within g c.law_built_graph.ensures.within c.args.p q c.requires
    (waits_at g c.args.p c.loop-q.q-index _ c.law_built_graph.ensures c.dependents-q-items.ensures c.loop-q-test.true)

pub reach_marks_by-requires-clause-beyond : goal.reach_marks_by-requires-clause-beyond
reach_marks_by-requires-clause-beyond c =
    let g = c.args.graph.now in
    let q = get_or c.dependents-q-items.result.now c.loop-q.q-index 0 in
    let depends =
    waits_at g c.args.p c.loop-q.q-index _ c.law_built_graph.ensures c.dependents-q-items.ensures c.loop-q-test.true in
    (c.args.p ∷ q ∷ [], (refl, (depends, refl)))
