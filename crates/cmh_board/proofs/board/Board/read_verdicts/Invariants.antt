use Rattle.std.proofs.Common.{◌≡◌, ◌+◌, ◌≤◌, map, vec_capacity}
use Rattle.std.specs.List.{range_with_len}
use Rattle.cmh_graph.specs.Graph.{process_count}
use Rattle.cmh_rw.specs.History.{fold_at}
use Rattle.cmh_board.specs.Board.{board_view, board_graph}
use Rattle.cmh_board.proofs.Holds.{Held}
use Rattle.cmh_board.proofs.board.Board.read_verdicts.Given as goal

abbrev pub invariant-loop-p : goal.invariant-loop-p
invariant-loop-p l =
    Held (1 + l.p) l.self l.fn.seat l.seat
    × (l.verdicts.items ≡ map (fold_at (board_view l.seat).seen) (range_with_len 0 l.p))
    × (process_count (board_graph l.self) ≤ vec_capacity l.verdicts)
