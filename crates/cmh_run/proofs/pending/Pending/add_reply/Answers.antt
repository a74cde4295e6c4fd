use Rattle.cmh_run.proofs.Common.{arith}
use Rattle.cmh_run.proofs.pending.Pending.add_reply.Goals as goal

-- a reply is a message
pub invariant_of-self : goal.invariant_of-self
invariant_of-self c = (c.self.invariant.0, c.add_sent.ensures.each (omega arith) c.self.invariant.1)
