use Rattle.cmh_run.proofs.Common.{refl, subst, sym, ◌∙◌, arith, List, Delivery, HasNoHints, RunState}
use Rattle.cmh_run.proofs.AskLemmas.{asks_before, asks_next, asks_on_before, asks_until, at_refusal}
use Rattle.cmh_run.proofs.ProgressLemmas.{may_receive, room, next_under_way, no_hints_on, ready_by_choice}
use Rattle.cmh_run.proofs.progress.Progress.deliver_next.Goals as goal

-- the message that was taken may be delivered
pub deliver_asking-requires-clause-may : goal.deliver_asking-requires-clause-may
deliver_asking-requires-clause-may g c =
    let at = ready_by_choice c.requires.under_way.0 _ _ _ _ c.requires.under_way.1 c.in_ok-choice.ensures
    c.self.view_is in
    let taken = rw (c.in-Some.is, at.1) at c.in_ok-taken.ensures.taken in
    may_receive c.requires.under_way.0 _ at.0 c.in-Some.message _ (c.has_ended.ensures.0 c.if-has_ended.false) taken.0
    taken.1

-- the deliveries can be counted
pub overflow_add-self : goal.overflow_add-self
overflow_add-self g c =
    let few = room c.requires.under_way.0 _ (ready_by_choice c.requires.under_way.0 _ _ _ _ c.requires.under_way.1
    c.in_ok-choice.ensures c.self.view_is).0 in
    omega (arith, few)

-- the run is still under way
pub returns-clause-under_way : goal.returns-clause-under_way
returns-clause-under_way g c more restarts way =
    let at = ready_by_choice restarts _ _ _ _ way c.in_ok-choice.ensures c.self.view_is in
    let taken = rw (c.in-Some.is, at.1) at c.in_ok-taken.ensures.taken in
    next_under_way restarts _ at.0 c.in-Some.message _ (c.has_ended.ensures.0 c.if-has_ended.false) taken.0 taken.1
    c.in_ok-hint.hint c.in_ok-hint.ensures.fit _ c.in_ok-hint.ensures.ok _ c.in_ok-add.ensures _ refl

-- where hints never answer, no hint stands in the log
pub returns-clause-silent : goal.returns-clause-silent
returns-clause-silent g c q none =
    subst (λ (log : List Delivery). HasNoHints log) (sym c.in_ok-add.ensures)
    (no_hints_on _ (record { message = c.in-Some.message; hint = c.in_ok-hint.hint })
    (subst (λ (r : RunState). HasNoHints r.log) (sym (c.self.view_is ∙ c.in_ok-choice.ensures.ready)) none)
    (c.in_ok-hint.ensures.silent q))

-- what was asked before a refusal is what deliveries ask
pub returns-in_err-hint-clause-asked_in_part : goal.returns-in_err-hint-clause-asked_in_part
returns-in_err-hint-clause-asked_in_part g c =
    at_refusal c.from_residual-in_err-hint.result (λ restarts way.
    let at = ready_by_choice restarts _ _ _ _ way c.in_ok-choice.ensures c.self.view_is in
    let taken = rw (c.in-Some.is, at.1) at c.in_ok-taken.ensures.taken in
    let asked = c.in_err-hint.ensures.asked_in_part in
    asks_before _ restarts _ _ _ (c.self.view_is ∙ c.in_ok-choice.ensures.ready)
    (asks_until restarts _ at.0 _ c.in-Some.message (c.has_ended.ensures.0 c.if-has_ended.false) taken.0 _ _ taken.1
    asked.hint asked.asked asked.fit refl))

-- where the log takes no more, what was asked is what deliveries ask
pub returns-in_err-add-clause-asked_in_part : goal.returns-in_err-add-clause-asked_in_part
returns-in_err-add-clause-asked_in_part g c =
    at_refusal c.from_residual-in_err-add.result (λ restarts way.
    let at = ready_by_choice restarts _ _ _ _ way c.in_ok-choice.ensures c.self.view_is in
    let taken = rw (c.in-Some.is, at.1) at c.in_ok-taken.ensures.taken in
    asks_before _ restarts _ _ _ (c.self.view_is ∙ c.in_ok-choice.ensures.ready)
    (asks_until restarts _ at.0 _ c.in-Some.message (c.has_ended.ensures.0 c.if-has_ended.false) taken.0 _ _ taken.1
    c.in_ok-hint.hint c.in_ok-hint.ensures.asked c.in_ok-hint.ensures.fit refl))

-- what was asked is what the delivery asks
pub returns-clause-asked : goal.returns-clause-asked
returns-clause-asked g c restarts way =
    let at = ready_by_choice restarts _ _ _ _ way c.in_ok-choice.ensures c.self.view_is in
    let taken = rw (c.in-Some.is, at.1) at c.in_ok-taken.ensures.taken in
    asks_on_before _ c.args.self.now _ _ _ (c.self.view_is ∙ c.in_ok-choice.ensures.ready)
    (asks_next restarts _ at.0 _ c.in-Some.message (c.has_ended.ensures.0 c.if-has_ended.false) taken.0 _ _ taken.1
    c.in_ok-hint.hint c.in_ok-hint.ensures.asked _ c.in_ok-add.ensures)
