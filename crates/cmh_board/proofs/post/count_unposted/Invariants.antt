use Rattle.std.proofs.Common.{◌≡◌, take, length}
use Rattle.cmh_rw.specs.Seats.{rw_view, IsSeatOf}
use Rattle.cmh_board.specs.Board.{unposted_in}
use Rattle.cmh_board.specs.Adding.{OnlyLoads}
use Rattle.cmh_board.proofs.post.count_unposted.Given as goal

abbrev pub invariant-loop-p : goal.invariant-loop-p
invariant-loop-p l =
    IsSeatOf l.words l.seat × OnlyLoads l.p-index (rw_view l.fn.seat) (rw_view l.seat)
    × (l.count ≡ length (unposted_in (rw_view l.fn.seat).seen (take l.p-index l.processes)))
