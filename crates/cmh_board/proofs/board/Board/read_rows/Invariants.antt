use Rattle.std.proofs.Common.{◌≡◌, ◌+◌, ◌≤◌, take, length, vec_capacity}
use Rattle.cmh_graph.specs.Graph.{process_count}
use Rattle.cmh_board.specs.Board.{board_view, board_graph}
use Rattle.cmh_board.proofs.Holds.{Held}
use Rattle.cmh_board.proofs.board.Board.read_rows.Given as goal

abbrev pub invariant-loop-n : goal.invariant-loop-n
invariant-loop-n l =
    Held (1 + l.n) l.self l.fn.seat l.seat × (l.count ≡ length (board_view l.seat).seen)
    × (l.rows.items ≡ take l.n (board_view l.seat).seen)
    × (process_count (board_graph l.self) ≤ vec_capacity l.rows)
