use Rattle.cmh_run.proofs.EngagedLemmas.{awake_ones_start_nothing}
use Rattle.cmh_run.proofs.laws.law_awake_ones_start_nothing.Goals as goal

pub returns : goal.returns
returns c = awake_ones_start_nothing
