use Rattle.std.proofs.Common.{refl, ap, ◌∙◌, ◌++◌, eqb}
use Rattle.std.specs.Prelude.{is_none}
use Rattle.cmh_rw.specs.History.{fold_at}
use Rattle.cmh_rw.specs.Seats.{rw_view}
use Rattle.cmh_board.proofs.StagedRows.{only_load, code_none}
use Rattle.cmh_board.proofs.post.is_unposted.Goals as goal

pub returns-clause-loads : goal.returns-clause-loads
returns-clause-loads c =
    only_load (rw_view c.args.seat.now) _ c.load.result
    (rw_view c.load.new.seat) c.requires.loaded c.load.ensures.loaded

pub returns-clause-answer : goal.returns-clause-answer
returns-clause-answer c =
    let told = c.load.ensures.loaded in
    let p = c.args.p in
    ap (λ n. eqb n 0) (told.verdict p refl c.requires.process)
    ∙ code_none (fold_at ((rw_view c.load.new.seat).seen ++ (rw_view c.args.seat.now).told) p)
    ∙ ap (λ l. is_none (fold_at (l ++ (rw_view c.args.seat.now).told) p)) (told.same c.requires.loaded)
