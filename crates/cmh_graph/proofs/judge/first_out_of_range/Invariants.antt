use Rattle.std.proofs.Common.{ℕ, ◌<◌, []}
use Rattle.cmh_graph.specs.Build.{parts_graph, HasGraphFault}
use Rattle.cmh_graph.specs.declared.fault.GraphFault.TheVariants.{DependentOutOfRange}
use Rattle.cmh_graph.proofs.judge.first_out_of_range.Given as goal

abbrev pub invariant-loop-i : goal.invariant-loop-i
invariant-loop-i l = (k j : ℕ) → k < l.i → HasGraphFault (parts_graph l.parts []) (DependentOutOfRange k j) → ⊥
