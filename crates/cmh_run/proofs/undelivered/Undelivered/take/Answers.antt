use Rattle.cmh_run.proofs.Common.{Query, Reply}
use Rattle.cmh_run.proofs.UndeliveredLemmas.{taken}
use Rattle.cmh_run.proofs.undelivered.Undelivered.take.Goals as goal

-- once a query is taken, it isn't among the queries
pub returns-in-Query-clause-rest : goal.returns-in-Query-clause-rest
returns-in-Query-clause-rest c =
    taken Query _ _ _ c.args.message _ c.self.view_is c.in-Query.is c.remove.ensures.updates.0

-- once a reply is taken, it isn't among the replies
pub returns-in-Reply-clause-rest : goal.returns-in-Reply-clause-rest
returns-in-Reply-clause-rest c =
    taken Reply _ _ _ c.args.message _ c.self.view_is c.in-Reply.is c.remove-in-Reply.ensures.updates.0
