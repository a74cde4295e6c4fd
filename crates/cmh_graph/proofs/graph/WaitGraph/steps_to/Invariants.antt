use Rattle.std.proofs.Common.{◌-◌}
use Rattle.cmh_graph.specs.Graph.{process_count}
use Rattle.cmh_graph.specs.Search.{is_marked}
use Rattle.cmh_graph.proofs.LevelSearch.{StepsUpTo}
use Rattle.cmh_graph.proofs.graph.WaitGraph.steps_to.Given as goal

abbrev pub invariant-loop-alloc : goal.invariant-loop-alloc
invariant-loop-alloc l = StepsUpTo l.self (is_marked l.marks) l.distance l.distances.items l.level.items

abbrev pub decreases-loop-alloc : goal.decreases-loop-alloc
decreases-loop-alloc l = process_count l.self - l.distance
