use Rattle.cmh_run.proofs.StepLemmas.{runs_are_steps}
use Rattle.cmh_run.proofs.laws.law_runs_are_steps.Goals as goal

-- legal runs are the sequences of steps by the rules, and no others
pub returns : goal.returns
returns c = runs_are_steps
