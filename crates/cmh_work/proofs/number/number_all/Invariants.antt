use Rattle.std.proofs.Common.{◌≡◌}
use Rattle.std.specs.Prelude.{All, Some}
use Rattle.cmh_rw.specs.History.{fold_at}
use Rattle.cmh_work.specs.Numbering.{AreNumbered}
use Rattle.cmh_work.proofs.number.number_all.Given as goal

abbrev pub invariant-loop-finding : goal.invariant-loop-finding
invariant-loop-finding g l = record {
  numbered : AreNumbered l.history l.yielded l.records.items;
  left : All (λ f. fold_at l.history f.initiator ≡ Some f.verdict) l.finding-iterator.rest.items;
}
