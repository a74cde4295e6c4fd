use Rattle.std.proofs.Common.{◌≡◌, take}
use Rattle.std.specs.Prelude.{count_by}
use Rattle.cmh_report.specs.Records.{tells_deadlocked}
use Rattle.cmh_report.proofs.records.count_deadlocked.Given as goal

abbrev pub invariant-loop-record : goal.invariant-loop-record
invariant-loop-record _ l = l.count ≡ count_by tells_deadlocked (take l.record-index l.records)
