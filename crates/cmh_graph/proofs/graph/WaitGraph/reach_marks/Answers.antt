use Rattle.cmh_graph.proofs.ForwardSearch.{spreads_alone}
use Rattle.cmh_graph.proofs.graph.WaitGraph.reach_marks.Goals as goal

pub spread-requires-clause-spreads : goal.spread-requires-clause-spreads
spread-requires-clause-spreads c =
    spreads_alone _ _ _ c.in_ok-marks.ensures.size c.requires c.in_ok-marks.ensures.alone
