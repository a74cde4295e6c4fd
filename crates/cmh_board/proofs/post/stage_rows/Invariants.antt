use Rattle.cmh_rw.specs.Seats.{rw_view, IsSeatOf}
use Rattle.cmh_board.proofs.StagedRows.{Staging}
use Rattle.cmh_board.proofs.post.stage_rows.Given as goal

abbrev pub invariant-loop-p : goal.invariant-loop-p
invariant-loop-p l =
    IsSeatOf l.words l.seat × Staging (rw_view l.fn.seat) l.verdict l.processes l.p-index (rw_view l.seat) l.n
