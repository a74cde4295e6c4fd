use Rattle.std.proofs.Common.{◌+◌, ◌*◌}
use Rattle.cmh_tests.proofs.board.load.+fn-take_turns_by-join+arg3+take_turns_by.Given as goal

abbrev pub decreases-join+arg3 : goal.decreases-join+arg3
decreases-join+arg3 g l = 2 * l.fewer + 1

abbrev pub decreases-take_turns_by : goal.decreases-take_turns_by
decreases-take_turns_by g l = 2 * l.others
