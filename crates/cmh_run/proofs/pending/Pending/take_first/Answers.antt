use Rattle.cmh_run.proofs.Common.{refl}
use Rattle.cmh_run.proofs.PendingLemmas.{each_but_first}
use Rattle.cmh_run.proofs.pending.Pending.take_first.Goals as goal

-- what is left in the queue sends messages
pub invariant_of-self-in-Reply : goal.invariant_of-self-in-Reply
invariant_of-self-in-Reply c =
    (c.self.invariant.0, each_but_first _ _ c.pop_front.ensures.rest c.self.invariant.1)

-- and no message stands by itself
pub invariant_of-self-in-Queries : goal.invariant_of-self-in-Queries
invariant_of-self-in-Queries c =
    (λ more. c.if-not-is_empty.ensures.0 refl, each_but_first _ _ c.pop_front.ensures.rest c.self.invariant.1)
