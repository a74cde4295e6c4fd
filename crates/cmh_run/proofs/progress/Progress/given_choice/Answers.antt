use Rattle.cmh_run.proofs.Common.{subst, sym, RunState, IsUnderWay, arith}
use Rattle.cmh_run.proofs.ProgressLemmas.{may_start}
use Rattle.cmh_run.proofs.progress.Progress.given_choice.Goals as goal

-- the initiator may start again
pub start-requires : goal.start-requires
start-requires g c =
    (may_start c.requires.0 _ c.in-Some.next.now
    (subst (λ (r : RunState). IsUnderWay c.requires.0 r) (sym c.self.view_is) c.requires.1)
    (sym c.in-Some.ensures.value) c.if-next-self.false (c.has_ended.ensures.0 c.if-has_ended.false)).0

-- the restarts can be counted
pub overflow_add-self : goal.overflow_add-self
overflow_add-self g c =
    let may = may_start c.requires.0 _ c.in-Some.next.now
    (subst (λ (r : RunState). IsUnderWay c.requires.0 r) (sym c.self.view_is) c.requires.1)
    (sym c.in-Some.ensures.value) c.if-next-self.false (c.has_ended.ensures.0 c.if-has_ended.false) in
    omega (arith, may.1)
