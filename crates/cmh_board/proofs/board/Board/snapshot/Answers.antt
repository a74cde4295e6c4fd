use Rattle.cmh_board.specs.Board.{board_view, board_graph}
use Rattle.cmh_board.proofs.RowWords.{snap_true}
use Rattle.cmh_board.proofs.board.Board.snapshot.Goals as goal

pub returns-clause-true_verdicts : goal.returns-clause-true_verdicts
returns-clause-true_verdicts c =
    snap_true (board_graph c.args.self.now) (board_view c.read_verdicts.new.seat).seen
    c.read_verdicts.new.verdicts.items
    c.args.self.now.within c.read_verdicts.ensures.sits.true_of c.read_verdicts.ensures.shows
