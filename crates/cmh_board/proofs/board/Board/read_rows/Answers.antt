use Rattle.std.proofs.Common.{◌≡◌, ◌<◌, arith, sym, ap, ◌∙◌, ◌++◌, ◌∷◌, [], take, length}
use Rattle.std.proofs.lemmas.List.{length-take-le}
use Rattle.cmh_board.specs.Board.{board_view, board_graph}
use Rattle.cmh_board.proofs.Holds.{held_on}
use Rattle.cmh_board.proofs.RowWords.{row_within, take_got}
use Rattle.cmh_board.proofs.board.Board.read_rows.Goals as goal

pub push_reserved-requires : goal.push_reserved-requires
push_reserved-requires c =
    let held = c.loop-n.invariant.0 in
    let seen = (board_view c.loop-n.seat).seen in
    let count = c.loop-n.invariant.1 in
    let below : c.loop-n.n < length seen = omega (arith, c.loop-n-test.true) in
    let within = row_within (board_graph c.args.self.now) seen c.loop-n.n held.sits.true_of below in
    let read = ap length c.loop-n.invariant.2 ∙ length-take-le c.loop-n.n seen (omega arith) in
    let room = c.loop-n.invariant.3 in
    omega arith

pub loop-n-preserved : goal.loop-n-preserved
loop-n-preserved c =
    let held = c.loop-n.invariant.0 in
    let row = c.held_row-row.ensures in
    let old = (board_view c.loop-n.seat).seen in
    let new = (board_view c.held_row-row.new.seat).seen in
    let same : new ≡ old = row.reads.same held.reads.loaded in (
      held_on _ _ c.args.self.now c.args.seat.now c.loop-n.seat c.held_row-row.new.seat (omega arith) held row.sits
          row.sees row.reads,
      c.loop-n.invariant.1 ∙ ap length (sym same),
      c.push_reserved.ensures.items
          ∙ ap (λ l. l ++ c.held_row-row.result ∷ []) (c.loop-n.invariant.2 ∙ ap (take c.loop-n.n) (sym same))
          ∙ sym (take_got new c.loop-n.n c.held_row-row.result row.row),
      (let room = c.loop-n.invariant.3 in let kept = c.push_reserved.ensures.capacity in omega arith),
    )
