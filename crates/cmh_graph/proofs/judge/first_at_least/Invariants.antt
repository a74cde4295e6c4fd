use Rattle.std.proofs.Common.{ℕ, ◌<◌, get_or}
use Rattle.cmh_graph.proofs.judge.first_at_least.Given as goal

abbrev pub invariant-loop-j : goal.invariant-loop-j
invariant-loop-j l = (k : ℕ) → k < l.j → get_or l.list k 0 < l.bound
