use Rattle.std.proofs.Common.{◌<◌}
use Rattle.std.specs.Prelude.{All}
use Rattle.cmh_graph.specs.Alone.{IsTrimming}
use Rattle.cmh_graph.specs.Graph.{process_count}
use Rattle.cmh_graph.proofs.graph.WaitGraph.singleton_marks.Given as goal

abbrev pub invariant-loop : goal.invariant-loop
invariant-loop l = record {
  trimming : IsTrimming l.self l.marks.items l.passed.items;
  pending : All (λ p. p < process_count l.self) l.pending.items;
}
