use Rattle.std.proofs.Common.{subst, sym, ◌∙◌, rules}
use Rattle.cmh_board.specs.Board.{board_graph, SitsAt, IsAway}
use Rattle.cmh_tests.proofs.board.runs.run_with_hints.Goals as goal

pub returns-clause-sits : goal.returns-clause-sits
returns-clause-sits c =
    let kept = c.run.ensures.kept in
    let after = (kept.speaks (board_graph c.args.board.now)).0 c.new-hints.ensures.speaks in
    let sits : SitsAt c.args.board.now c.run.new.hints.seat.now =
    subst (λ b. SitsAt b c.run.new.hints.seat.now) (sym kept.board ∙ c.new-hints.ensures.board) after.sits in
    let away : IsAway c.run.new.hints.seat.now = after.away in
    search rules
