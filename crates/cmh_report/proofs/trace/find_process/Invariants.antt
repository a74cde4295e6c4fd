use Rattle.std.proofs.Common.{◌≢◌, ℕ, ◌<◌}
use Rattle.cmh_graph.specs.Graph.{name_of}
use Rattle.cmh_report.proofs.trace.find_process.Given as goal

abbrev pub invariant-loop-p : goal.invariant-loop-p
invariant-loop-p l = (q : ℕ) → q < l.p → name_of l.graph q ≢ l.name
