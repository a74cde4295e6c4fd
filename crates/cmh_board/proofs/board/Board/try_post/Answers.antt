use Rattle.std.proofs.Common.{ap, refl, subst, sym, ◌∙◌}
use Rattle.cmh_rw.specs.declared.view.View.{View}
use Rattle.cmh_rw.specs.Seats.{rw_view}
use Rattle.cmh_board.specs.Board.{board_view, board_graph}
use Rattle.cmh_board.specs.Adding.{CanPost}
use Rattle.cmh_board.proofs.AddingLemmas.{can_post, posts_from}
use Rattle.cmh_board.proofs.board.Board.try_post.Goals as goal

pub add_posting-requires-clause-can : goal.add_posting-requires-clause-can
add_posting-requires-clause-can c =
    let told = c.args.posting.now in
    let graph = ap (λ (v : View). v.lock.graph) (c.in-Held.ensures.held refl).0 ∙ c.requires.sits.graph in
    subst (λ g. CanPost g told.verdict told.processes) (sym graph)
    (can_post (board_graph c.args.self.now) told c.args.self.now.within c.requires.truth)

pub returns-in-Held-clause-written : goal.returns-in-Held-clause-written
returns-in-Held-clause-written c is =
    let whole = posts_from c.args.posting.now (board_view c.args.seat.now) (rw_view c.try_write.new.seat)
    (rw_view c.add_posting.new.seat) (rw_view c.end_write.new.seat)
    (c.in-Held.ensures.held refl).0 c.add_posting.ensures.adds c.end_write.ensures.ended in
    (whole.0, whole.1)

pub returns-in-Held-clause-posts : goal.returns-in-Held-clause-posts
returns-in-Held-clause-posts c is =
    (posts_from c.args.posting.now (board_view c.args.seat.now) (rw_view c.try_write.new.seat)
    (rw_view c.add_posting.new.seat) (rw_view c.end_write.new.seat)
    (c.in-Held.ensures.held refl).0 c.add_posting.ensures.adds c.end_write.ensures.ended).2
