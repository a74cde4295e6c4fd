use Rattle.std.proofs.Common.{◌∙◌}
use Rattle.cmh_work.proofs.LentSeats.{still_sits}
use Rattle.cmh_work.proofs.worker.Worker.run_of.Goals as goal

pub invariant_of-self : goal.invariant_of-self
invariant_of-self g c =
    let known = c.self.invariant in
    let t = still_sits c.self.inside.job.now.shared.now.board c.new-hints.result c.run.new.hints
    c.new-hints.ensures.board c.new-hints.ensures.speaks c.run.ensures.kept in
    record {
      shapes = known.shapes;
      runner = c.run.ensures.same ∙ known.runner;
      leaders = known.leaders;
      seats = record { board = record { sits = t.0; away = t.1 }; tickets = known.seats.tickets };
    }
