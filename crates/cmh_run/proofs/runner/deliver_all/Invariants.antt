use Rattle.cmh_run.proofs.Common.{ℕ, List, ◌+◌, ◌*◌, ◌-◌, length, dependency_count, HasNoHints, MAX_RESTARTS, IsUnderWay}
use Rattle.cmh_run.specs.Asking.{AsksOn}
use Rattle.cmh_run.specs.Progress.{IsRunState}
use Rattle.cmh_run.proofs.runner.deliver_all.Given as goal

abbrev pub invariant-loop : goal.invariant-loop
invariant-loop g l = record {
  same : IsRunState l.fn.progress.graph l.fn.progress.initiator l.fn.progress.choices l.progress;
  under_way : (restarts : List ℕ) → IsUnderWay restarts l.fn.progress → IsUnderWay restarts l.progress;
  kept : g.H.Hints.keeps l.fn.hints l.hints;
  silent : g.H.Hints.is_silent l.fn.hints → HasNoHints l.fn.progress.log → HasNoHints l.progress.log;
  asked : (restarts : List ℕ) → IsUnderWay restarts l.fn.progress
      → AsksOn (g.H.Hints.has_asked l.fn.hints l.hints) l.fn.progress.graph l.fn.progress.initiator
      l.fn.progress.log l.progress.log;
}

abbrev pub decreases-loop : goal.decreases-loop
decreases-loop g l = 2 * dependency_count l.fn.progress.graph * (MAX_RESTARTS + 1) + 1 - length l.progress.log
