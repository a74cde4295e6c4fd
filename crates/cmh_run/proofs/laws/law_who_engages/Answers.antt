use Rattle.cmh_run.proofs.EngagedLemmas.{who_engages}
use Rattle.cmh_run.proofs.laws.law_who_engages.Goals as goal

-- the engaged of every legal run are as they should be
pub returns : goal.returns
returns c = who_engages
