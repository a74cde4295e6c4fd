use Rattle.cmh_run.proofs.Common.{get_or, inl, inr, take, slice_get-get_or}
use Rattle.std.proofs.lemmas.List.{take_all, take_more}
use Rattle.std.proofs.lemmas.Result.{err_from_is_err_and}
use Rattle.cmh_run.proofs.CheckLemmas.{flaw_is_fault, answer_right}
use Rattle.cmh_run.proofs.check.check_run.Goals as goal

-- what is wrong with a delivery is the first fault of the log, unless memory was refused
pub returns-in_err-deliver-clause-fault : goal.returns-in_err-deliver-clause-fault
returns-in_err-deliver-clause-fault c =
    let p = err_from_is_err_and c.from_residual-in_err-deliver.result c.from_residual-in_err-deliver.ensures.1 in
    let s = c.loop-t.invariant.0 in
    let agrees = c.loop-t.invariant.1 in
    rw (p.1, p.2) (elim c.in_err-deliver.ensures.fault [
      | inl m ↦ inl m
      | inr flaw ↦ inr (flaw_is_fault c.args.graph.now c.args.initiator c.args.log.now c.loop-t.t
          (get_or c.args.log.now c.loop-t.t _) s c.in_err-deliver.field-0.0 (record {
            idle = agrees.idle;
            there = slice_get-get_or c.args.log.now c.loop-t.t _ c.loop-t-test.true;
            before = agrees.leads;
          }) (flaw (take c.loop-t.t c.args.log.now) s agrees c.loop-t.invariant.2))
    ])

-- after each delivery what is kept agrees with the deliveries up to it
pub loop-t-preserved : goal.loop-t-preserved
loop-t-preserved c =
    rw (← take_more c.args.log.now c.loop-t.t _ c.loop-t-test.true)
    at (c.in_ok-deliver.ensures.ok (take c.loop-t.t c.args.log.now) c.loop-t.invariant)

-- an ending makes the whole log a legal run, and is right; without one the first fault is that the log is cut short
pub returns : goal.returns
returns c =
    let right = answer_right c.args.graph.now c.args.initiator c.args.log.now c.loop-t.checker
    (rw (take_all c.loop-t.t c.args.log.now c.loop-t-test.false) at c.loop-t.invariant)
    c.ending.result c.ending.ensures.some c.ending.ensures.none in
    rw c.ok_or.ensures.value (record { legal = right.0; true_verdict = right.1; fault = right.2 })
