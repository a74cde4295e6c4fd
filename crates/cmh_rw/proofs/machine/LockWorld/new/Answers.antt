use Rattle.std.proofs.Common.{arith}
use Rattle.cmh_rw.proofs.Lawful.{new-lawful}
use Rattle.cmh_rw.proofs.machine.LockWorld.new.Goals as goal

pub invariant_of-result : goal.invariant_of-result
invariant_of-result c = rw c.loop.invariant (new-lawful _ (omega arith))
