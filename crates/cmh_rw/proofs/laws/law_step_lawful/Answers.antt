use Rattle.cmh_rw.proofs.Lawful.{step_law}
use Rattle.cmh_rw.proofs.laws.law_step_lawful.Goals as goal

pub returns : goal.returns
returns c = step_law
