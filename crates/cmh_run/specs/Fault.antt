-- The texts of faults.
use Rattle.std.specs.Prelude.{ℕ, List, ◌++◌, codes}
use Rattle.std.specs.Fmt.{decimal}
pub use Rattle.cmh_run.specs.declared.fault.RunFault.{RunFault}
use Rattle.cmh_run.specs.declared.fault.RunFault.TheVariants as run
pub use Rattle.cmh_run.specs.declared.fault.ScriptFault.{ScriptFault}
use Rattle.cmh_run.specs.declared.fault.ScriptFault.TheVariants as script
pub use Rattle.cmh_run.specs.declared.fault.CheckFault.{CheckFault}
use Rattle.cmh_run.specs.declared.fault.CheckFault.TheVariants as check

-- the text of a fault of a run
abbrev pub run_fault_text : RunFault → List ℕ
run_fault_text run.NotIdle = codes "not idle"
run_fault_text run.TooManyChoices = codes "too many choices"
run_fault_text run.Memory = codes "out of memory"
run_fault_text run.BadRestarts = codes "bad restarts"

-- the text of a fault of a script
abbrev pub script_fault_text : ScriptFault → List ℕ
script_fault_text (script.ProcessOutOfRange i) = codes "process out of range " ++ decimal i
script_fault_text (script.FalseVerdict i) = codes "false verdict " ++ decimal i
script_fault_text script.Memory = codes "out of memory"

-- the text of the first thing that is wrong with a log
abbrev pub check_fault_text : CheckFault → List ℕ
check_fault_text check.NotIdle = codes "not idle"
check_fault_text (check.NotUndelivered t) = codes "not undelivered " ++ decimal t
check_fault_text (check.FalseHint t) = codes "false hint " ++ decimal t
check_fault_text (check.AfterEnd t) = codes "after the end " ++ decimal t
check_fault_text check.NotEnded = codes "not ended"
check_fault_text check.Memory = codes "out of memory"
