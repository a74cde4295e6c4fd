use Rattle.std.proofs.Common.{arith}
use Rattle.cmh_graph.proofs.PositionLemmas.{joins_more}
use Rattle.cmh_graph.proofs.predecessors.join_each.Goals as goal

pub loop-r-preserved : goal.loop-r-preserved
loop-r-preserved c =
    let within = c.requires c.loop-r.r-index 0 c.loop-r-test.true in
    joins_more _ _ _ _ _ _ _ c.loop-r-test.true c.loop-r.invariant
    (omega (arith, within, c.loop-r.invariant.size)) c.index-lists-r.is c.in_ok-push.ensures.items
