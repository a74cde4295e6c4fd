use Rattle.std.proofs.Common.{◌≡◌}
use Rattle.std.specs.Prelude.{filter}
use Rattle.std.specs.List.{range_with_len}
use Rattle.cmh_graph.specs.Graph.{is_idle}
use Rattle.cmh_graph.proofs.graph.WaitGraph.idle_list.Given as goal

abbrev pub invariant-loop-p : goal.invariant-loop-p
invariant-loop-p l = l.list.items ≡ filter (is_idle l.self) (range_with_len 0 l.p)
