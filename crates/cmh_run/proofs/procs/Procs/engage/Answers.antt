use Rattle.cmh_run.proofs.Common.{ap}
use Rattle.cmh_run.proofs.TouchedProcesses.{one_engaged, one_touched}
use Rattle.cmh_run.specs.Procs.{ProcsView}
use Rattle.cmh_run.proofs.procs.Procs.engage.Goals as goal
use Rattle.cmh_run.proofs.procs.Procs.engage.Goals.{then-is_last+in_ok-push, else-is_last+in_ok-push-2}

-- a process that is engaged becomes one of those that have taken part
pub invariant_of-self-2 : goal.invariant_of-self-2
invariant_of-self-2 c =
    let view_is = ap (λ (v : ProcsView). v.procs) c.self.view_is in
    elim c.if-is_last.branch [
      | then-is_last+in_ok-push w ↦ rw w.self-inside-is
          (one_engaged _ _ _ _ _ c.args.k _ c.self.invariant view_is w.in_ok-push.ensures.items c.requires)
      | else-is_last+in_ok-push-2 w ↦ rw w.self-inside-is
          (one_touched _ _ _ _ _ c.args.k _ c.self.invariant view_is w.in_ok-push-2.ensures.items c.requires)
    ]
