use Rattle.cmh_run.proofs.StepLemmas.{starts_by_rule}
use Rattle.cmh_run.proofs.laws.law_start.Goals as goal

-- a start by the rule is the computed one, and no other
pub returns : goal.returns
returns c = starts_by_rule
