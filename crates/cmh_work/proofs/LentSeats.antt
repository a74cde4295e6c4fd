-- A seat that was lent to the hints of a run.
use Rattle.std.proofs.Common.{◌≡◌, sym, subst, ◌∙◌}
use Rattle.cmh_board.specs.declared.board.Board.{Board}
use Rattle.cmh_board.specs.declared.hints.BoardHints.{BoardHints}
use Rattle.cmh_board.specs.Board.{board_graph, SitsAt, IsAway}
use Rattle.cmh_board.specs.Hints.{SpeaksOf, Keeps}

-- a seat that was lent to hints sits at the board afterwards, and holds nothing
pub still_sits : (b : Board) (h after : BoardHints) → h.board.now ≡ b → SpeaksOf h (board_graph b) → Keeps h after
    → SitsAt b after.seat.now × IsAway after.seat.now
still_sits b h after is s k =
    let t = (k.speaks (board_graph b)).0 s in
    (subst (λ x. SitsAt x after.seat.now) (sym k.board ∙ is) t.sits, t.away)
