use Rattle.std.proofs.Common.{◌≡◌, ◌+◌, length, take}
use Rattle.std.specs.Prelude.{sum_by}
use Rattle.cmh_graph.specs.declared.TheConstants.{MAX_DEPENDENCIES}
use Rattle.cmh_graph.proofs.judge.has_too_many_dependents.Given as goal

abbrev pub invariant-loop-part : goal.invariant-loop-part
invariant-loop-part l =
    l.room + sum_by (λ part. length part.dependents.items) (take l.part-index l.parts) ≡ MAX_DEPENDENCIES
