use Rattle.cmh_run.proofs.Common.{sym, ◌∙◌, subst, true≢false, CheckState, Agrees, IsSettled}
use Rattle.cmh_run.proofs.CheckLemmas.{ended_as, rests, goes_on}
use Rattle.cmh_run.proofs.checker.Checker.ending.Goals as goal

-- where a declaration or a hint has ended the network, the run has ended so
pub returns-in-Some-clause-some : goal.returns-in-Some-clause-some
returns-in-Some-clause-some c g i log s h settled =
    ended_as g i log s (record { network = c.self.inside.network; undelivered = c.self.inside.undelivered })
    (subst (λ (a : CheckState). Agrees g i log s a) (sym c.self.view_is) h)
    c.in-Some.ending (sym c.ending.ensures ∙ c.in-Some.is)

-- where nothing is undelivered and nothing has ended the network, the run is at rest
pub returns-then-is_empty-clause-some : goal.returns-then-is_empty-clause-some
returns-then-is_empty-clause-some c g i log s h settled =
    rests g i log s (record { network = c.self.inside.network; undelivered = c.self.inside.undelivered })
    (subst (λ (a : CheckState). Agrees g i log s a) (sym c.self.view_is) h)
    (subst (λ (a : CheckState). IsSettled a) (sym c.self.view_is) settled)
    (sym c.ending.ensures ∙ c.in_default.is) (c.is_empty.ensures.0 c.if-is_empty.true)

-- where a message is undelivered and nothing has ended the network, the run hasn't ended
pub returns-clause-none : goal.returns-clause-none
returns-clause-none c g i log s h settled =
    goes_on g i log s (record { network = c.self.inside.network; undelivered = c.self.inside.undelivered })
    (subst (λ (a : CheckState). Agrees g i log s a) (sym c.self.view_is) h)
    (subst (λ (a : CheckState). IsSettled a) (sym c.self.view_is) settled)
    (sym c.ending.ensures ∙ c.in_default.is)
    (λ none. true≢false (sym (c.is_empty.ensures.1 none) ∙ c.if-is_empty.false))
