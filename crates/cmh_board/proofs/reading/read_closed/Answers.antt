use Rattle.std.proofs.Common.{◌<◌, arith, sym, ap, ◌∙◌, ◌++◌, ◌∷◌, [], length, Some, List}
use Rattle.cmh_rw.specs.declared.row.Row.{Row}
use Rattle.cmh_rw.specs.Seats.{words_of}
use Rattle.cmh_board.specs.Closing.{ShowsRows}
use Rattle.cmh_board.proofs.RowWords.{row_back, take_got}
use Rattle.cmh_board.proofs.reading.read_closed.Goals as goal

pub loop-n-preserved : goal.loop-n-preserved
loop-n-preserved c = (
  λ (list : List Row) (shows : ShowsRows (words_of c.args.closed.now) list).
      let below : c.loop-n.n < length list = omega (arith, c.loop-n-test.true, c.word_of-count.ensures, shows.count) in
      let code = c.word_of-code.ensures ∙ shows.row c.loop-n.n below in
      let row = row_back list c.loop-n.n c.word_of-code.result below code
      ∙ ap (λ r. Some r) (sym c.from_code.ensures) in
      c.push_reserved.ensures.items ∙ ap (λ l. l ++ c.from_code.result ∷ []) (c.loop-n.invariant.0 list shows)
      ∙ sym (take_got list c.loop-n.n c.from_code.result row),
  (
    c.loop-n.invariant.1.0,
    c.loop-n.invariant.1.1,
    (let room = c.loop-n.invariant.1.2 in let kept = c.push_reserved.ensures.capacity in omega arith),
  ),
)
