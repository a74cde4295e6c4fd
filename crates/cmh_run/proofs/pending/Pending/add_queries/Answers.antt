use Rattle.cmh_run.proofs.PendingLemmas.{some_queries}
use Rattle.cmh_run.proofs.pending.Pending.add_queries.Goals as goal

-- where there is a receiver there is a query
pub invariant_of-self-2 : goal.invariant_of-self-2
invariant_of-self-2 c = (
  c.self.invariant.0,
  c.add_sent.ensures.each
      (some_queries c.args.sender c.args.receivers.now c.is_empty-2.result c.is_empty-2.ensures c.if-is_empty-4.false)
      c.self.invariant.1,
)
