use Rattle.std.proofs.Common.{◌≡◌, arith, subst}
use Rattle.std.proofs.lemmas.Grind.{common_steps}
use Rattle.cmh_rw.specs.History.{fold_at, IsTrueOf}
use Rattle.cmh_rw.specs.Seats.{rw_view}
use Rattle.cmh_board.specs.Board.{board_graph}
use Rattle.cmh_board.proofs.Histories.{truth_in}
use Rattle.cmh_board.proofs.board.Board.held_verdict.Goals as goal

pub returns-clause-true_verdict : goal.returns-clause-true_verdict
returns-clause-true_verdict c =
    let seen = (rw_view c.load-code.new.seat).seen in
    let says : c.verdict_from_code.result ≡ fold_at seen c.args.p = grind (arith, common_steps) in
    truth_in (board_graph c.args.self.now) seen c.args.p c.verdict_from_code.result c.args.self.now.within
    (subst (λ g. IsTrueOf g seen) c.requires.sits.graph c.load-code.ensures.loaded.true_of) says
