-- The table of statuses: what each says of what was asked for and of the two ends of the program.
use Rattle.std.specs.Prelude.{◌≡◌, ◌⊎◌, ◌<◌, ◌≤◌, ◌++◌, ℕ, List, replicate, take, true, Option, IsFalse, MatchOption, string_bytes}
use Rattle.std.specs.Borrow.{Bor}
use Rattle.cmh_graph.specs.Graph.{Graph, is_idle}
use Rattle.cmh_stream.specs.Device.{SinkState, SourceState}
use Rattle.cmh_dump.specs.declared.fault.DumpFault.{DumpFault}
use Rattle.cmh_dump.specs.declared.fault.DumpFault.TheVariants as dump
use Rattle.cmh_run.specs.declared.fault.RunFault.TheVariants as run
use Rattle.cmh_plan.specs.Plan.{IsFirstPlanFault}
use Rattle.cmh_plan.specs.declared.TheConstants.{MAX_CUTS}
use Rattle.cmh_plan.specs.declared.fault.PlanFault.{PlanFault}
use Rattle.cmh_plan.specs.declared.fault.PlanFault.TheVariants as plan
use Rattle.cmh_text.specs.Report.{IsCountedReport, IsReport}
use Rattle.cmh_report.specs.declared.fault.AppFault.{AppFault}
use Rattle.cmh_report.specs.declared.fault.AppFault.TheVariants.{Dump, Work, NoSuchProcess, Run, Report, WriteFault}
use Rattle.cmh_report.specs.Ends.{GaveGraph, IsAnswer, IsCutShort, IsRefused}
use Rattle.cmh_report.specs.Trace.{IsFirstNamed, IsSomeTrace}
use Rattle.cmh_command.specs.List.{IsFirstListFault, IsListOf}
use Rattle.cmh_command.specs.declared.list.ListFault.{ListFault}
use Rattle.cmh_command.specs.declared.list.ListFault.TheVariants as list
use Rattle.cmh_command.specs.declared.request.PlanArgs.{PlanArgs}
use Rattle.cmh_command.specs.declared.request.Request.{Request}
use Rattle.cmh_command.specs.declared.request.Request.TheVariants.{Analyse, Trace, Show, Refused}
use Rattle.cmh.specs.declared.status.TheConstants.{FREE, REFUSED, MISUSED, DEADLOCKED, FAILED}

-- ---- the status after a fault

-- The status with which a fault of an analysis or a trace ends the program. Out of memory and a failed source are no
-- faults of the dump. The faults of a run, except out of memory, lie in what was asked.
abbrev pub status_of : AppFault → ℕ
status_of (Dump dump.Memory) = FAILED
status_of (Dump dump.ReadFault) = FAILED
status_of (Dump fault) = REFUSED
status_of (Work fault) = FAILED
status_of NoSuchProcess = MISUSED
status_of (Run run.Memory) = FAILED
status_of (Run fault) = MISUSED
status_of (Report fault) = FAILED
status_of (WriteFault written) = FAILED

-- the status with which a refused list of numbers ends the program
abbrev pub status_of_list : ListFault → ℕ
status_of_list list.Memory = FAILED
status_of_list fault = MISUSED

-- the status with which a refused plan ends the program
abbrev pub status_of_plan : PlanFault → ℕ
status_of_plan plan.Memory = FAILED
status_of_plan fault = MISUSED

-- ---- the two ends

-- the states of the source and of standard output, before a call and after it
pub record Ends : Type 0 where
  pub source_old : SourceState
  pub source_new : SourceState
  pub out_old : SinkState
  pub out_new : SinkState

-- no byte of the input was read
abbrev pub IsUnread : Ends → Type 0
IsUnread e = e.source_new.given ≡ e.source_old.given

-- no byte was put into the output
abbrev pub IsUnwritten : Ends → Type 0
IsUnwritten e = e.out_new.taken ≡ e.out_old.taken

-- the source gave a dump, and the output took just a text that fits its graph, and handed it on
abbrev pub HasAnswered : (Graph → List ℕ → Type 0) → Ends → Type 0
HasAnswered Fits e = IsAnswer Fits e.source_old e.source_new e.out_old e.out_new

-- the source gave a dump, and the output failed after it had taken a prefix of a text that fits its graph
abbrev pub HasStopped : (Graph → List ℕ → Type 0) → Ends → Type 0
HasStopped Fits e = (e.out_new.has_failed ≡ true) × ((written : ℕ)
    × IsCutShort Fits e.source_old e.source_new e.out_old e.out_new written)

-- ---- lists and plans

-- a trace of the process of that name, by the choices that the text lists
abbrev pub FitsTrace : List ℕ → List ℕ → Graph → List ℕ → Type 0
FitsTrace name list g text =
    (choices : List ℕ) × IsListOf list choices × IsSomeTrace name choices g text

-- the text is no list
abbrev pub IsBadList : List ℕ → Type 0
IsBadList text = (fault : ListFault) × IsFirstListFault text fault

-- the cuts that the text lists; the default is as many ones as there may be
abbrev pub HasCuts : Option (Bor (List ℕ)) → List ℕ → Type 0
HasCuts words cuts =
    MatchOption words (cuts ≡ replicate MAX_CUTS 1) (λ text. IsListOf text.now cuts)

-- the arguments for a plan have a fault: cuts or choices are no list, or they are lists of which there is no plan
abbrev pub AreBadPlanArgs : PlanArgs → Type 0
AreBadPlanArgs args = MatchOption args.cuts ⊥ (λ text. IsBadList text.now)
    ⊎ IsBadList args.choices.now
    ⊎ ((cuts choices : List ℕ) × HasCuts args.cuts cuts × IsListOf args.choices.now choices
    × ((fault : PlanFault)
    × IsFirstPlanFault record { workers = args.workers; cuts = cuts; choices = choices } fault))

-- ---- the rows of the table, by what was asked for

-- nothing is deadlocked, or the trace or the text that was asked for is out
abbrev pub IsDone : Request → Ends → Type 0
IsDone (Analyse plan) e = HasAnswered (IsCountedReport 0) e
IsDone (Trace name choices) e = HasAnswered (FitsTrace name.now choices.now) e
IsDone (Show text) e = IsUnread e × (e.out_new.taken ≡ e.out_old.taken ++ string_bytes text)
    × (e.out_new.is_finished ≡ true)
IsDone (Refused text) e = ⊥

-- the dump of an analysis or a trace has a fault with the status of a refusal, and nothing was written
abbrev pub HasRefusedDump : Request → Ends → Type 0
HasRefusedDump (Show text) e = ⊥
HasRefusedDump (Refused text) e = ⊥
HasRefusedDump request e = IsUnwritten e × ((fault : DumpFault)
    × (status_of (Dump fault) ≡ REFUSED) × IsRefused e.source_old e.source_new fault)

-- the words, a list or the plan are refused before anything is read, or the name is of no idle process of the dump, and
-- nothing was written
abbrev pub IsMisused : Request → Ends → Type 0
IsMisused (Analyse plan) e = IsUnwritten e × IsUnread e × AreBadPlanArgs plan
IsMisused (Trace name choices) e = IsUnwritten e × ((IsUnread e × IsBadList choices.now)
    ⊎ GaveGraph e.source_old e.source_new
    (λ g. (p : ℕ) → IsFirstNamed g name.now p → IsFalse (is_idle g p)))
IsMisused (Show text) e = ⊥
IsMisused (Refused text) e = IsUnwritten e × IsUnread e

-- some process is deadlocked, and the report is out
abbrev pub HasDeadlock : Request → Ends → Type 0
HasDeadlock (Analyse plan) e = (d : ℕ) × (0 < d) × HasAnswered (IsCountedReport d) e
HasDeadlock request e = ⊥

-- Memory was refused, a worker was lost or the source failed, and nothing was written; or the output failed, after it
-- had taken a prefix of the text.
abbrev pub HasFailed : Request → Ends → Type 0
HasFailed (Analyse plan) e = IsUnwritten e ⊎ HasStopped IsReport e
HasFailed (Trace name choices) e = IsUnwritten e ⊎ HasStopped (FitsTrace name.now choices.now) e
HasFailed (Show text) e = IsUnread e × (e.out_new.has_failed ≡ true) × ((written : ℕ)
    × (e.out_new.taken ≡ e.out_old.taken ++ take written (string_bytes text)))
HasFailed (Refused text) e = ⊥

-- the table of statuses
pub record IsOutcome (request : Request) (status : ℕ) (e : Ends) : Type 0 where
  pub free : status ≡ FREE → IsDone request e
  pub refused : status ≡ REFUSED → HasRefusedDump request e
  pub misused : status ≡ MISUSED → IsMisused request e
  pub deadlocked : status ≡ DEADLOCKED → HasDeadlock request e
  pub failed : status ≡ FAILED → HasFailed request e
  pub known : status ≤ FAILED
