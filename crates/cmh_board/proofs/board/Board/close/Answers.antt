use Rattle.std.proofs.Common.{◌≤◌, arith, subst, sym, refl}
use Rattle.cmh_graph.specs.declared.TheConstants.{MAX_PROCESSES}
use Rattle.cmh_rw.specs.History.{rows_in, StartsWith, IsHistory, IsTrueOf}
use Rattle.cmh_rw.specs.Seats.{words_of}
use Rattle.cmh_rw.proofs.Folds.{true-few}
use Rattle.cmh_rw.proofs.Postings.{seen-prefix}
use Rattle.cmh_board.specs.Board.{board_view, board_graph, IsMadeOf}
use Rattle.cmh_board.proofs.Closings.{shows_history, made_of}
use Rattle.cmh_board.proofs.board.Board.close.Goals as goal

pub read_closed-requires-clause-room : goal.read_closed-requires-clause-room
read_closed-requires-clause-room c =
    let h = c.close_with-closed.ensures.history in
    let key = board_graph c.args.self in
    let small = subst (λ n. n ≤ MAX_PROCESSES) c.args.self.counted c.args.self.small in
    let few = true-few key (rows_in h.postings) h.true_of in
    let room = c.in_ok-rows.ensures.capacity in
    let counted = c.args.self.counted in (
      rows_in h.postings,
      shows_history key (board_view c.args.seat) (words_of c.close_with-closed.result) h small,
      omega arith,
    )

pub returns-clause-begins : goal.returns-clause-begins
returns-clause-begins c =
    let h = c.close_with-closed.ensures.history in
    let key = board_graph c.args.self in
    let small = subst (λ n. n ≤ MAX_PROCESSES) c.args.self.counted c.args.self.small in
    let shown = shows_history key (board_view c.args.seat) (words_of c.close_with-closed.result) h small in
    let read = c.read_closed.ensures (rows_in h.postings) shown in
    subst (λ l. StartsWith l (board_view c.args.seat).seen) (sym read)
    (seen-prefix (board_view c.args.seat).seen h.postings h.seen)

pub returns-clause-whole : goal.returns-clause-whole
returns-clause-whole c =
    let h = c.close_with-closed.ensures.history in
    let key = board_graph c.args.self in
    let small = subst (λ n. n ≤ MAX_PROCESSES) c.args.self.counted c.args.self.small in
    let shown = shows_history key (board_view c.args.seat) (words_of c.close_with-closed.result) h small in
    let read = c.read_closed.ensures (rows_in h.postings) shown in
    subst IsHistory (sym read) (h.postings, refl, h.whole)

pub returns-clause-true_of : goal.returns-clause-true_of
returns-clause-true_of c =
    let h = c.close_with-closed.ensures.history in
    let key = board_graph c.args.self in
    let small = subst (λ n. n ≤ MAX_PROCESSES) c.args.self.counted c.args.self.small in
    let shown = shows_history key (board_view c.args.seat) (words_of c.close_with-closed.result) h small in
    let read = c.read_closed.ensures (rows_in h.postings) shown in
    subst (IsTrueOf key) (sym read) h.true_of

pub returns-clause-own : goal.returns-clause-own
returns-clause-own c = λ whole.
    let h = c.close_with-closed.ensures.history in
    let key = board_graph c.args.self in
    let small = subst (λ n. n ≤ MAX_PROCESSES) c.args.self.counted c.args.self.small in
    let shown = shows_history key (board_view c.args.seat) (words_of c.close_with-closed.result) h small in
    let read = c.read_closed.ensures (rows_in h.postings) shown in
    subst (IsMadeOf (board_view c.args.seat).mine) (sym read)
    (made_of key (board_view c.args.seat) (words_of c.close_with-closed.result) h whole)
