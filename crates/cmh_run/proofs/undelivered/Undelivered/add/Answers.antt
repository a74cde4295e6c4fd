use Rattle.cmh_run.proofs.Common.{Query, Reply}
use Rattle.cmh_run.proofs.UndeliveredLemmas.{added}
use Rattle.cmh_run.proofs.undelivered.Undelivered.add.Goals as goal

-- once a query is added, it is among the queries
pub returns-in_ok-insert-in-Query : goal.returns-in_ok-insert-in-Query
returns-in_ok-insert-in-Query c = record {
  ok = added Query _ _ _ c.args.message _ c.self.view_is c.in-Query.is c.in_ok-insert-in-Query.ensures.updates.0;
}

-- once a reply is added, it is among the replies
pub returns-in_ok-insert-in-Reply : goal.returns-in_ok-insert-in-Reply
returns-in_ok-insert-in-Reply c = record {
  ok = added Reply _ _ _ c.args.message _ c.self.view_is c.in-Reply.is c.in_ok-insert-in-Reply.ensures.updates.0;
}
