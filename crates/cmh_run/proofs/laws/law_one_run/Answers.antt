use Rattle.cmh_run.proofs.Determinism.{one_run}
use Rattle.cmh_run.proofs.laws.law_one_run.Goals as goal

-- without hints there is one run to be kept
pub returns : goal.returns
returns c = one_run
