use Rattle.cmh_run.proofs.StepLemmas.{steps_by_rule}
use Rattle.cmh_run.proofs.laws.law_step.Goals as goal

-- a step by the rules is the computed delivery, and no other
pub returns : goal.returns
returns c = steps_by_rule
