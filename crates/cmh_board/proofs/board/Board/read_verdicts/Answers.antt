use Rattle.std.proofs.Common.{◌≡◌, arith, sym, ap, ◌∙◌, ◌++◌, ◌∷◌, [], map, length}
use Rattle.std.specs.List.{range_with_len}
use Rattle.std.proofs.lemmas.List.{length-map}
use Rattle.std.proofs.lemmas.List.FromFn.{length-range_with_len}
use Rattle.cmh_rw.specs.History.{fold_at}
use Rattle.cmh_board.specs.Board.{board_view, board_graph}
use Rattle.cmh_board.proofs.Holds.{held_on}
use Rattle.cmh_board.proofs.RowWords.{verdicts_more, shows_all}
use Rattle.cmh_board.proofs.board.Board.read_verdicts.Goals as goal

pub push_reserved-requires : goal.push_reserved-requires
push_reserved-requires c =
    let seen = (board_view c.loop-p.seat).seen in
    let read = ap length c.loop-p.invariant.1 ∙ length-map (range_with_len 0 c.loop-p.p) (fold_at seen)
    ∙ length-range_with_len 0 c.loop-p.p in
    let room = c.loop-p.invariant.2 in
    let counted = c.args.self.now.counted in
    omega (arith, c.loop-p-test.true)

pub loop-p-preserved : goal.loop-p-preserved
loop-p-preserved c =
    let held = c.loop-p.invariant.0 in
    let look = c.held_verdict.ensures in
    let old = (board_view c.loop-p.seat).seen in
    let new = (board_view c.held_verdict.new.seat).seen in
    let same : new ≡ old = look.reads.same held.reads.loaded in (
      held_on _ _ c.args.self.now c.args.seat.now c.loop-p.seat c.held_verdict.new.seat (omega arith) held look.sits
          look.sees look.reads,
      c.push_reserved.ensures.items ∙ ap (λ v. c.loop-p.verdicts.items ++ v ∷ []) look.answer
          ∙ verdicts_more new c.loop-p.verdicts.items c.loop-p.p
          (c.loop-p.invariant.1 ∙ ap (λ l. map (fold_at l) (range_with_len 0 c.loop-p.p)) (sym same)),
      (let room = c.loop-p.invariant.2 in let kept = c.push_reserved.ensures.capacity in omega arith),
    )

pub returns-clause-shows : goal.returns-clause-shows
returns-clause-shows c =
    let held = c.loop-p.invariant.0 in
    let seen = (board_view c.loop-p.seat).seen in
    shows_all (board_graph c.args.self.now) seen c.loop-p.verdicts.items held.sits.true_of
    (c.loop-p.invariant.1
    ∙ ap (λ n. map (fold_at seen) (range_with_len 0 n))
    (let last = c.loop-p-test.false in let end = c.loop-p.auto.p-end in let counted = c.args.self.now.counted in
    omega arith))
