use Rattle.std.proofs.Common.{◌≡◌, ℕ, ◌<◌, ◌≤◌, [], length}
use Rattle.std.specs.Prelude.{All}
use Rattle.cmh_graph.specs.declared.fault.GraphFault.TheVariants.{RepeatedDependent}
use Rattle.cmh_graph.specs.Build.{parts_graph, HasGraphFault}
use Rattle.cmh_graph.proofs.judge.first_repeated_dependent.Given as goal

abbrev pub invariant-loop-i : goal.invariant-loop-i
invariant-loop-i l = record {
  size : length l.last_named_by.items ≡ length l.parts;
  named : All (λ n. n ≤ l.i) l.last_named_by.items;
  none : (k j : ℕ) → k < l.i → HasGraphFault (parts_graph l.parts []) (RepeatedDependent k j) → ⊥;
}
