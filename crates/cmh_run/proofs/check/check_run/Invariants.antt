use Rattle.cmh_run.proofs.Common.{take, IsChecked}
use Rattle.cmh_run.proofs.check.check_run.Given as goal

abbrev pub invariant-loop-t : goal.invariant-loop-t
invariant-loop-t l = IsChecked l.graph l.initiator (take l.t l.log) l.checker
