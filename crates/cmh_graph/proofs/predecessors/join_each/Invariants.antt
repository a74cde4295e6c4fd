use Rattle.std.proofs.Common.{take}
use Rattle.cmh_graph.specs.Search.{JoinsEach}
use Rattle.cmh_graph.proofs.predecessors.join_each.Given as goal

abbrev pub invariant-loop-r : goal.invariant-loop-r
invariant-loop-r l = JoinsEach l.p (take l.r-index l.places) l.initial.lists l.lists
