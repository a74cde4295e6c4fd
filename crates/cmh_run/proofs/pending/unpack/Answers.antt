use Rattle.cmh_run.proofs.Common.{◌++◌, ◌∷◌, [], ap, ◌∙◌, Message}
use Rattle.cmh_run.proofs.PendingLemmas.{each_but_first, moved}
use Rattle.cmh_run.proofs.pending.unpack.Goals as goal

-- once a reply is in the bag, what is left in the queue are the other messages
pub loop-sent-preserved-in-Continue-1 : goal.loop-sent-preserved-in-Continue-1
loop-sent-preserved-in-Continue-1 c = record {
  all = moved c.loop-sent.bag c.add.new.self _ c.in-Some.sent _ _
      (rw c.in-Reply.is (c.in_ok-add-in-Reply.ensures.ok
      ∙ ap (λ (m : Message). c.loop-sent.bag ++ m ∷ []) c.message.ensures))
      c.in-Some.ensures.items c.loop-sent.invariant.all;
  each = λ old. each_but_first _ _ c.pop_front.ensures.rest (c.loop-sent.invariant.each old);
}

-- and so it is once queries are in the bag
pub loop-sent-preserved : goal.loop-sent-preserved
loop-sent-preserved c = record {
  all = moved c.loop-sent.bag c.add_queries.new.self _ c.in-Some.sent _ _
      (rw c.in-Queries.is c.in_ok-add_queries-in-Queries.ensures.ok) c.in-Some.ensures.items c.loop-sent.invariant.all;
  each = λ old. each_but_first _ _ c.pop_front.ensures.rest (c.loop-sent.invariant.each old);
}

-- where memory is refused, what is left in the queue sends messages still
pub returns-in_err-add-in-Reply-clause-each : goal.returns-in_err-add-in-Reply-clause-each
returns-in_err-add-in-Reply-clause-each c old =
    each_but_first _ _ c.pop_front.ensures.rest (c.loop-sent.invariant.each old)

-- and so it does where it is refused for queries
pub returns-in_err-add_queries-in-Queries-clause-each :
    goal.returns-in_err-add_queries-in-Queries-clause-each
returns-in_err-add_queries-in-Queries-clause-each c old =
    each_but_first _ _ c.pop_front.ensures.rest (c.loop-sent.invariant.each old)
