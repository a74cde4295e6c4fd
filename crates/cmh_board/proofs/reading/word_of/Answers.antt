use Rattle.std.proofs.Common.{◌∙◌, ap}
use Rattle.std.specs.Prelude.{unwrap_or}
use Rattle.std.proofs.lemmas.Option.{unwrap_or-slice_get}
use Rattle.cmh_rw.specs.Seats.{words_of}
use Rattle.cmh_board.proofs.reading.word_of.Goals as goal

pub returns : goal.returns
returns c =
    c.unwrap_or.ensures ∙ ap (λ o. unwrap_or o 0) c.word.ensures
    ∙ unwrap_or-slice_get (words_of c.args.closed.now) c.args.n 0
