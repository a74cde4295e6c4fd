use Rattle.cmh_board.specs.Board.{board_view, SitsAt, IsAway}
use Rattle.cmh_board.proofs.AddingLemmas.{IsUntouched}
use Rattle.cmh_board.proofs.board.Board.post.Given as goal

abbrev pub invariant-loop : goal.invariant-loop
invariant-loop g l =
    (goal.iterator-loop g).can_next l.iterator' × (goal.iterator-loop g).is_finite l.iterator'
    × SitsAt l.self l.seat × IsAway l.seat × IsUntouched (board_view l.fn.seat) (board_view l.seat)
