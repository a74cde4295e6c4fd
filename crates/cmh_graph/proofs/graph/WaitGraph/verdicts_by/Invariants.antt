use Rattle.std.proofs.Common.{◌≡◌, map}
use Rattle.std.specs.List.{range_with_len}
use Rattle.cmh_graph.specs.Verdict.{verdict}
use Rattle.cmh_graph.proofs.graph.WaitGraph.verdicts_by.Given as goal

abbrev pub invariant-loop-p : goal.invariant-loop-p
invariant-loop-p l = l.verdicts.items ≡ map (verdict l.self) (range_with_len 0 l.p)
