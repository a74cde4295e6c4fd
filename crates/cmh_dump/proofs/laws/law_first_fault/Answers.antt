use Rattle.cmh_dump.proofs.FirstFault.Laws.{first_fault_law}
use Rattle.cmh_dump.proofs.laws.law_first_fault.Goals as goal

pub returns : goal.returns
returns c = first_fault_law
