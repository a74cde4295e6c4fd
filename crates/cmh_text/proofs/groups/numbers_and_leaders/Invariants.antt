use Rattle.std.proofs.Common.{◌≡◌, map}
use Rattle.std.specs.List.{range_with_len}
use Rattle.cmh_text.specs.Group.{leaders_up_to}
use Rattle.cmh_text.proofs.Numbers.{leaders_below}
use Rattle.cmh_text.proofs.groups.numbers_and_leaders.Given as goal

abbrev pub invariant-loop-p : goal.invariant-loop-p
invariant-loop-p l = record {
  numbers : l.numbers.items ≡ map (leaders_up_to l.graph) (range_with_len 0 l.p);
  leaders : l.leaders.items ≡ leaders_below l.graph l.p;
}
