use Rattle.cmh_board.specs.Board.{SitsAt, IsAway}
use Rattle.cmh_tests.proofs.board.load.take_turns.Given as goal

abbrev pub invariant-loop-turn : goal.invariant-loop-turn
invariant-loop-turn g l = SitsAt l.board l.seat × IsAway l.seat
