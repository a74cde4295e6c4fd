use Rattle.cmh_run.proofs.Common.{ℕ, ◌+◌, ◌<◌, get_or}
use Rattle.cmh_run.proofs.runner.is_rising.Given as goal

abbrev pub invariant-loop-i : goal.invariant-loop-i
invariant-loop-i l = (k : ℕ) → k + 1 < l.i → get_or l.list k 0 < get_or l.list (k + 1) 0
