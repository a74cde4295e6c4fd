use Rattle.std.proofs.Common.{◌+◌, ◌*◌}
use Rattle.cmh_work.proofs.workers.+fn-workers-join+arg3+workers.Given as goal

abbrev pub decreases-join+arg3 : goal.decreases-join+arg3
decreases-join+arg3 g l = 2 * l.fewer + 1

abbrev pub decreases-workers : goal.decreases-workers
decreases-workers g l = 2 * l.others
