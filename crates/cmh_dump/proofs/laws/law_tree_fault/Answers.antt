use Rattle.cmh_dump.proofs.FirstFault.Laws.{tree_fault_law}
use Rattle.cmh_dump.proofs.laws.law_tree_fault.Goals as goal

pub returns : goal.returns
returns c = tree_fault_law
