use Rattle.std.proofs.Common.{◌+◌, ◌∙◌, arith, drop, length, subst, sym}
use Rattle.std.proofs.lemmas.List.{take_at}
use Rattle.cmh_graph.specs.Search.{JoinsEach}
use Rattle.cmh_graph.proofs.PositionLemmas.{PredecessorsBelow, predecessors_all, predecessors_more}
use Rattle.cmh_graph.proofs.predecessors.Predecessors.of_graph.Goals as goal

pub loop-p-preserved : goal.loop-p-preserved
loop-p-preserved c =
    let old = c.loop-p.lists in
    let new = c.join_each.new.lists in
    let written =
    take_at new (drop (length new) old.items) old.len (c.join_each.auto.lists ∙ c.deref_mut.ensures.len) in
    let joins = subst (λ places. JoinsEach c.loop-p.p places old.items new) c.dependents.ensures
    (subst (λ lists. JoinsEach c.loop-p.p c.dependents.result.now lists new) c.deref_mut.ensures.value
    c.in_ok-join_each.ensures) in
    subst (λ lists. PredecessorsBelow c.args.graph.now (c.loop-p.p + 1) lists) (sym written)
    (predecessors_more _ _ _ _ c.len-p-end.ensures.well_formed c.loop-p.invariant joins)

pub returns : goal.returns
returns c = predecessors_all _ _ _ (omega (arith, c.loop-p-test.false)) c.loop-p.invariant
