use Rattle.cmh_board.specs.Board.{SitsAt, IsAway}
use Rattle.cmh_tests.proofs.board.threads.sees_whole_postings.Given as goal

abbrev pub invariant-loop : goal.invariant-loop
invariant-loop l = SitsAt l.board l.seat × IsAway l.seat
