use Rattle.std.proofs.Common.{◌<◌, ◌≤◌, arith, subst, ap, ◌∙◌, sym, length, refl, Some}
use Rattle.cmh_graph.specs.declared.TheConstants.{MAX_PROCESSES}
use Rattle.cmh_rw.specs.History.{IsTrueOf}
use Rattle.cmh_rw.specs.Seats.{rw_view}
use Rattle.cmh_board.specs.Board.{board_view, board_graph}
use Rattle.cmh_board.proofs.RowWords.{row_within, codes_small, row_back}
use Rattle.cmh_board.proofs.board.Board.held_row.Goals as goal

pub overflow_add-n : goal.overflow_add-n
overflow_add-n c =
    let there =
    row_within (board_graph c.args.self.now)
    (board_view c.args.seat.now).seen c.args.n c.requires.sits.true_of c.requires.there in
    let counted = c.args.self.now.counted in
    let small = c.args.self.now.small in
    omega arith

pub load-code-requires-clause-within : goal.load-code-requires-clause-within
load-code-requires-clause-within c =
    let there =
    row_within (board_graph c.args.self.now)
    (board_view c.args.seat.now).seen c.args.n c.requires.sits.true_of c.requires.there in
    let counted = c.args.self.now.counted in
    let small = c.args.self.now.small in
    omega arith

pub from_code-requires : goal.from_code-requires
from_code-requires c =
    let told = c.load-code.ensures.loaded in
    let seen = (rw_view c.load-code.new.seat).seen in
    let same = told.same c.requires.loaded in
    let there : c.args.n < length seen = subst (λ l. c.args.n < length l) (sym same) c.requires.there in
    let true_of = subst (λ g. IsTrueOf g seen) c.requires.sits.graph told.true_of in
    let code = told.row c.args.n refl there in
    let small =
    codes_small (board_graph c.args.self.now) seen c.args.n
    (subst (λ n. n ≤ MAX_PROCESSES) c.args.self.now.counted c.args.self.now.small) true_of there in
    omega arith

pub returns-clause-row : goal.returns-clause-row
returns-clause-row c =
    let told = c.load-code.ensures.loaded in
    let seen = (rw_view c.load-code.new.seat).seen in
    let same = told.same c.requires.loaded in
    let there : c.args.n < length seen = subst (λ l. c.args.n < length l) (sym same) c.requires.there in
    row_back seen c.args.n c.load-code.result there (told.row c.args.n refl there)
    ∙ ap (λ r. Some r) (sym c.from_code.ensures)
