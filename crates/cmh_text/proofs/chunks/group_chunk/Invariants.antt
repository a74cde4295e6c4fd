use Rattle.std.proofs.Common.{◌≡◌, ◌+◌, length, take}
use Rattle.std.specs.Prelude.{sum_by}
use Rattle.cmh_text.specs.Chunks.{counted}
use Rattle.cmh_text.proofs.chunks.group_chunk.Given as goal

abbrev pub invariant-loop-p : goal.invariant-loop-p
invariant-loop-p l =
    l.steps ≡ counted (l.p + sum_by (λ q. length q.dependents) (take l.p l.graph.processes))
