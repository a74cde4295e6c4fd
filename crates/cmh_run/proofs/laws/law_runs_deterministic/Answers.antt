use Rattle.cmh_run.proofs.Determinism.{runs_are_deterministic}
use Rattle.cmh_run.proofs.laws.law_runs_deterministic.Goals as goal

pub returns : goal.returns
returns c = runs_are_deterministic
