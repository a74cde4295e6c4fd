use Rattle.std.proofs.Common.{◌∙◌, ◌+◌, ap, arith, sym, take_all}
use Rattle.std.specs.Prelude.{count_by}
use Rattle.std.proofs.lemmas.List.Sums.{count_by_more_yes, count_by_more_no}
use Rattle.cmh_graph.specs.Verdict.{says_deadlocked}
use Rattle.cmh_report.specs.Records.{tells_deadlocked}
use Rattle.cmh_report.proofs.records.count_deadlocked.Goals as goal
use Rattle.cmh_report.proofs.records.count_deadlocked.Goals.{in-Deadlocked, in-Free}

pub loop-record-preserved : goal.loop-record-preserved
loop-record-preserved _ c =
    let rs = c.args.records.now in
    let i = c.loop-record.record-index in
    let r = c.record-item.result in
    elim c.match-record.branch [
      | in-Deadlocked w ↦
          w.count-is ∙ ap (λ n. n + 1) c.loop-record.invariant
          ∙ sym (count_by_more_yes tells_deadlocked rs i r c.loop-record-test.true
          (ap tells_deadlocked (sym c.record-item.is) ∙ ap says_deadlocked w.in-Deadlocked.is))
      | in-Free w ↦
          w.count-is ∙ c.loop-record.invariant
          ∙ sym (count_by_more_no tells_deadlocked rs i r c.loop-record-test.true
          (ap tells_deadlocked (sym c.record-item.is) ∙ ap says_deadlocked w.in-Free.is))
    ]

pub returns : goal.returns
returns _ c =
    c.loop-record.invariant
    ∙ ap (count_by tells_deadlocked) (take_all c.loop-record.record-index c.args.records.now (omega arith))
