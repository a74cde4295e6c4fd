use Rattle.std.proofs.Common.{◌-◌, length}
use Rattle.cmh_text.proofs.Summaries.{IsWalked}
use Rattle.cmh_text.proofs.paths.LastPath.path_of.Given as goal

abbrev pub invariant-loop-self : goal.invariant-loop-self
invariant-loop-self l = IsWalked l.self.graph l.p l.path.items l.next

abbrev pub decreases-loop-self : goal.decreases-loop-self
decreases-loop-self l = l.count - length l.path.items
