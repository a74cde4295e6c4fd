-- Facts that hold of some faults.
use Rattle.std.specs.Prelude.{ℕ, ⊤}
use Rattle.cmh_dump.specs.declared.fault.DumpFault.{DumpFault}
use Rattle.cmh_run.specs.declared.fault.RunFault.{RunFault}
use Rattle.cmh_report.specs.declared.fault.AppFault.{AppFault}
use Rattle.cmh_report.specs.declared.fault.AppFault.TheVariants.{Dump, NoSuchProcess, Run, WriteFault}

-- the fact holds of the dump's fault, if it is one
abbrev pub IfDump : AppFault → (DumpFault → Type 0) → Type 0
IfDump (Dump f) P = P f
IfDump _ P = ⊤

-- the fact holds, if no process has the name
abbrev pub IfNoSuchProcess : AppFault → Type 0 → Type 0
IfNoSuchProcess NoSuchProcess P = P
IfNoSuchProcess _ P = ⊤

-- the fact holds of the run's fault, if it is one
abbrev pub IfRun : AppFault → (RunFault → Type 0) → Type 0
IfRun (Run f) P = P f
IfRun _ P = ⊤

-- the fact holds of the bytes that were written, if the sink failed
abbrev pub IfWriteFault : AppFault → (ℕ → Type 0) → Type 0
IfWriteFault (WriteFault n) P = P n
IfWriteFault _ P = ⊤

-- the fact holds, if the fault came before the first byte was written
abbrev pub IfUnwritten : AppFault → Type 0 → Type 0
IfUnwritten (WriteFault n) P = ⊤
IfUnwritten _ P = P
