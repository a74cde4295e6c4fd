-- The text of each fault of an analysis.
use Rattle.std.specs.Prelude.{ℕ, List, codes}
use Rattle.cmh_work.specs.declared.fault.WorkFault.{WorkFault}
use Rattle.cmh_work.specs.declared.fault.WorkFault.TheVariants as work

-- the text of a fault of an analysis
abbrev pub work_fault_text : WorkFault → List ℕ
work_fault_text work.Memory = codes "out of memory"
work_fault_text work.WorkerLost = codes "worker lost"
