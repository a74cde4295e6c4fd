use Rattle.std.proofs.Common.{take}
use Rattle.cmh_work.specs.Leaders.{LeadsEach}
use Rattle.cmh_work.proofs.leaders.assign_leader.Given as goal

abbrev pub invariant-loop-p : goal.invariant-loop-p
invariant-loop-p l = LeadsEach l.leader (take l.p-index l.members) l.initial.leaders l.leaders
