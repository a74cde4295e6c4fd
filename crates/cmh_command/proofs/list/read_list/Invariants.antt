use Rattle.std.proofs.Common.{◌≡◌, ℕ, ◌<◌, ◌≤◌, [], map, take, Some}
use Rattle.std.specs.Prelude.{slice_index_or, IsTrue}
use Rattle.cmh_command.specs.List.{items_of, is_number, number_of}
use Rattle.cmh_command.specs.declared.TheConstants.{MAX_NUMBERS}
use Rattle.cmh_command.proofs.list.read_list.Given as goal

abbrev pub invariant-loop-i : goal.invariant-loop-i
invariant-loop-i l = record {
  few : l.i ≤ MAX_NUMBERS;
  written : map number_of (take l.i (items_of l.text)) ≡ map Some l.numbers.items;
  before : (k : ℕ) → k < l.i → IsTrue (is_number (slice_index_or (items_of l.text) k []));
}
