use Rattle.cmh_dump.proofs.FirstFault.Laws.{well_formed_law}
use Rattle.cmh_dump.proofs.laws.law_well_formed.Goals as goal

pub returns : goal.returns
returns c = well_formed_law
