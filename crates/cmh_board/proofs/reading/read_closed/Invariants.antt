use Rattle.std.proofs.Common.{◌≡◌, ◌≤◌, List, take, length, vec_capacity}
use Rattle.cmh_rw.specs.declared.row.Row.{Row}
use Rattle.cmh_rw.specs.Seats.{words_of}
use Rattle.cmh_board.specs.Closing.{ShowsRows}
use Rattle.cmh_board.proofs.reading.read_closed.Given as goal

abbrev pub invariant-loop-n : goal.invariant-loop-n
invariant-loop-n l =
    ((list : List Row) → ShowsRows (words_of l.closed) list → l.rows.items ≡ take l.n list)
    × ((list : List Row) × ShowsRows (words_of l.closed) list × (length list ≤ vec_capacity l.rows))
