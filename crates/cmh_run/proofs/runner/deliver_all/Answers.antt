use Rattle.cmh_run.proofs.Common.{◌∙◌}
use Rattle.cmh_run.proofs.AskLemmas.{asks_both_until, asks_on_from, at_refusal}
use Rattle.cmh_run.proofs.ProgressLemmas.{log_falls}
use Rattle.cmh_run.proofs.runner.deliver_all.Goals as goal

-- each delivery leaves fewer to come
pub loop-smaller : goal.loop-smaller
loop-smaller g c =
    log_falls c.requires.under_way.0 c.args.progress.now.graph c.loop.progress c.deliver_next.new.self
    (c.in_ok-deliver_next.ensures.under_way c.if-branch.true c.requires.under_way.0
    (c.loop.invariant.under_way c.requires.under_way.0 c.requires.under_way.1))
    (c.in_ok-deliver_next.ensures.same.graph ∙ c.loop.invariant.same.graph)
    (c.in_ok-deliver_next.ensures.more c.if-branch.true)

-- what was asked before a refusal is what deliveries ask
pub returns-in_err-deliver_next-clause-asked_in_part : goal.returns-in_err-deliver_next-clause-asked_in_part
returns-in_err-deliver_next-clause-asked_in_part g c =
    at_refusal c.from_residual.result (λ restarts way.
    asks_both_until _ _ _ restarts c.args.progress.now c.loop.progress (g.met.H.Hints.asks_on _ _ _)
    c.loop.invariant.same (c.loop.invariant.asked restarts way)
    (c.in_err-deliver_next.ensures.asked_in_part restarts (c.loop.invariant.under_way restarts way)))

-- what was asked on the whole way is what its deliveries ask
pub returns-clause-asked : goal.returns-clause-asked
returns-clause-asked g c restarts way =
    asks_on_from _ _ _ c.args.progress.now c.loop.progress _ (g.met.H.Hints.asks_on _ _ _) c.loop.invariant.same
    (c.loop.invariant.asked restarts way)
    (c.in_ok-deliver_next.ensures.asked restarts (c.loop.invariant.under_way restarts way))
