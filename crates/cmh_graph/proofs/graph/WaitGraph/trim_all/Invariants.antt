use Rattle.std.proofs.Common.{◌<◌}
use Rattle.std.specs.Prelude.{All}
use Rattle.cmh_graph.specs.Alone.{IsTrimming}
use Rattle.cmh_graph.specs.Graph.{process_count}
use Rattle.cmh_graph.proofs.graph.WaitGraph.trim_all.Given as goal

abbrev pub invariant-loop-p : goal.invariant-loop-p
invariant-loop-p l = record {
  trimming : IsTrimming l.self l.marks l.passed;
  within : All (λ p. p < process_count l.self) l.list.items;
}
