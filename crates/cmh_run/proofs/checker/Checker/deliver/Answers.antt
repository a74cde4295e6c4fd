use Rattle.cmh_run.proofs.Common.{◌≡◌, ◌∷◌, [], ◌++◌, refl, sym, ◌∙◌, ap, subst, inr, cond, true≢false, is_awake, after_message, going_after, CheckState}
use Rattle.cmh_run.proofs.CheckLemmas.{awaited, where_none, is_there, has_receiver, after_delivery}
use Rattle.cmh_run.proofs.checker.Checker.deliver.Goals as goal

-- the message isn't awaited, so it isn't undelivered
pub returns-then-not-take-clause-fault : goal.returns-then-not-take-clause-fault
returns-then-not-take-clause-fault c = inr (λ log s h settled. (
  refl,
  where_none c.ending.result _ c.if-is_some.ensures c.ending.ensures.none c.args.graph.now c.args.initiator log s h
      settled,
  λ u. true≢false
      (sym (c.if-not-take.ensures.found.1
      (awaited c.args.graph.now c.args.initiator log s c.args.self.now h settled c.args.delivery.message u))),
))

-- when a hint is checked, the network has the receiver, and hasn't ended
pub is_fit-requires-clause-process : goal.is_fit-requires-clause-process
is_fit-requires-clause-process c =
    has_receiver c.args.graph.now c.args.initiator c.requires.checked.0 c.requires.checked.1.0 c.args.self.now
    c.args.delivery c.requires.checked.1.1 c.requires.checked.1.2
    (where_none c.ending.result _ c.if-is_some.ensures c.ending.ensures.none c.args.graph.now c.args.initiator
    c.requires.checked.0 c.requires.checked.1.0 c.requires.checked.1.1 c.requires.checked.1.2)
    (c.if-not-take.ensures.found.0 refl) c.take.new.self.network c.if-not-take.ensures.network

-- and so it is when the message is delivered
pub deliver-requires : goal.deliver-requires
deliver-requires c =
    has_receiver c.args.graph.now c.args.initiator c.requires.checked.0 c.requires.checked.1.0 c.args.self.now
    c.args.delivery c.requires.checked.1.1 c.requires.checked.1.2
    (where_none c.ending.result _ c.if-is_some.ensures c.ending.ensures.none c.args.graph.now c.args.initiator
    c.requires.checked.0 c.requires.checked.1.0 c.requires.checked.1.1 c.requires.checked.1.2)
    (c.if-not-take.ensures.found.0 refl) c.self.inside.network
    (ap (λ (a : CheckState). a.network) c.self.view_is ∙ c.if-not-take.ensures.network)

-- what is kept agrees with the run that is one delivery longer
pub returns-clause-ok : goal.returns-clause-ok
returns-clause-ok c = λ log checked.
    let no_end =
    where_none c.ending.result _ c.if-is_some.ensures c.ending.ensures.none c.args.graph.now c.args.initiator log
    checked.0 checked.1 checked.2 in
    let aw = c.if-not-take.ensures.found.0 refl in (
      going_after c.args.graph.now c.args.initiator checked.0
          (is_there c.args.graph.now c.args.initiator log checked.0 c.args.self.now c.args.delivery checked.1 checked.2
          no_end aw).0 c.args.delivery,
      c.in_ok-settle.ensures.ok c.args.graph.now c.args.initiator (log ++ c.args.delivery ∷ [])
          (going_after c.args.graph.now c.args.initiator checked.0
          (is_there c.args.graph.now c.args.initiator log checked.0 c.args.self.now c.args.delivery checked.1
          checked.2 no_end aw).0 c.args.delivery)
          (after_delivery c.args.graph.now c.args.initiator log checked.0 c.args.self.now c.args.delivery checked.1
          checked.2 no_end aw
          c.take.new.self (record { network = c.deliver.new.self; undelivered = c.self.inside.undelivered })
          c.if-not-take.ensures.network (c.if-not-take.ensures.rest refl) (c.if-not-is_fit.ensures.0 refl)
          (subst (λ (a : CheckState). c.deliver.new.self
          ≡ cond (is_awake c.args.graph.now c.args.delivery.message.to) a.network
          (after_message c.args.graph.now c.args.initiator a.network c.args.delivery.message
          c.args.delivery.message.kind c.args.delivery.hint))
          c.self.view_is c.in_ok-deliver.ensures.ok)
          (ap (λ (a : CheckState). a.undelivered) c.self.view_is)),
      c.in_ok-settle.ensures.settled,
    )
