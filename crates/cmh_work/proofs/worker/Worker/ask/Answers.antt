use Rattle.std.proofs.Common.{◌<◌, ◌∙◌, ap, subst, sym}
use Rattle.std.specs.Prelude.{Some}
use Rattle.cmh_board.specs.Board.{board_view, Posts}
use Rattle.cmh_board.specs.Hints.{IsLook, Looks}
use Rattle.cmh_run.specs.Asks.{asks_of}
use Rattle.cmh_run.specs.Run.{verdict_of, TellsTruth}
use Rattle.cmh_work.specs.Finding.{IsAnswered}
use Rattle.cmh_work.specs.Record.{IsRunFor}
use Rattle.cmh_work.specs.Work.{Work}
use Rattle.cmh_work.proofs.AccountsLemmas.{run_answers}
use Rattle.cmh_work.proofs.worker.Worker.ask.Goals as goal

pub returns : goal.returns
returns g c =
    let old = c.args.self.now in
    let gr = old.job.graph.now in
    let choices = old.job.plan.now.choices in
    let p = c.args.initiator in
    let run = c.in_ok-run.run' in
    let v = board_view old.seats.board in
    let w = board_view c.post.new.seat in
    let told = c.in_ok-run.ensures in
    let looked = c.look.ensures in
    let after = c.self-2.view_is in
    let job = looked.on.job in
    let look = subst (IsLook v (board_view c.look.new.self.seats.board) p) c.in_default.is looked.look in
    let ran = subst (λ j. IsRunFor j.graph.now j.plan.now.choices p (verdict_of run.ending) run) job told.run in
    let truth = subst (λ j. TellsTruth j.graph.now run) job told.truth in
    let looks = subst (λ j. Looks (board_view c.look.new.self.seats.board) (board_view c.run_of.new.self.seats.board)
    (asks_of j.graph.now p run.log)) job told.looks in
    let posts = subst (λ (k : Work). Posts c.of_run.result (board_view k.seats.board) w) after c.post.ensures.posts in
    let whole = subst (λ t. Posts t (board_view c.run_of.new.self.seats.board) w) c.of_run.ensures.whole posts in
    let tried = subst (λ (k : Work). (board_view k.seats.board).lock.tries < w.lock.tries) after c.post.ensures.tried in
    let answered =
    subst (λ verdict. IsAnswered gr choices p v w record { verdict = verdict; run = Some run })
    (sym c.verdict.ensures)
    (run_answers gr choices p v (board_view c.look.new.self.seats.board) (board_view c.run_of.new.self.seats.board) w
    run looked.look.sees told.sees ran truth whole look looks tried c.post.ensures.found) in
    record {
      on = record {
        job = ap (λ (k : Work). k.job) after ∙ told.on.job ∙ job;
        tickets = ap (λ (k : Work). k.seats.tickets) after ∙ told.on.tickets ∙ looked.on.tickets;
        share = c.post.ensures.posts.share
            ∙ ap (λ (k : Work). (board_view k.seats.board).lock.share) after
            ∙ told.on.share
            ∙ looked.on.share;
      };
      answered =
          subst (λ kept. IsAnswered gr choices p v w record { verdict = c.verdict.result; run = Some kept })
          (sym c.with_list.ensures) answered;
    }
