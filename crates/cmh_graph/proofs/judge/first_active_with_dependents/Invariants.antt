use Rattle.std.proofs.Common.{ℕ, ◌<◌, []}
use Rattle.cmh_graph.specs.Build.{parts_graph, HasGraphFault}
use Rattle.cmh_graph.specs.declared.fault.GraphFault.TheVariants.{ActiveWithDependents}
use Rattle.cmh_graph.proofs.judge.first_active_with_dependents.Given as goal

abbrev pub invariant-loop-i : goal.invariant-loop-i
invariant-loop-i l = (k : ℕ) → k < l.i → HasGraphFault (parts_graph l.parts []) (ActiveWithDependents k) → ⊥
