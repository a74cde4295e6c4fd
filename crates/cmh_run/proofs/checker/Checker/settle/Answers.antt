use Rattle.cmh_run.proofs.CheckStateLemmas.{agrees_on}
use Rattle.cmh_run.proofs.checker.Checker.settle.Goals as goal

-- once a message that was just sent is added to the awaited ones, what is kept still agrees with the run
pub loop-message-preserved : goal.loop-message-preserved
loop-message-preserved c g i log s h =
    agrees_on g i log s
    (record { network = c.loop-message.self-inside.network; undelivered = c.loop-message.self-inside.undelivered })
    (record { network = c.take_first.new.self; undelivered = c.add.new.self }) (c.loop-message.invariant g i log s h)
    0 c.in-Some.message c.in-Some.ensures.taken.0
    c.in-Some.ensures.taken.1
    c.in_ok-add.ensures.ok
