use Rattle.cmh_dump.proofs.FirstFault.Laws.{no_fault_law}
use Rattle.cmh_dump.proofs.laws.law_no_fault.Goals as goal

pub returns : goal.returns
returns c = no_fault_law
