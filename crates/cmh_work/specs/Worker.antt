-- What a worker keeps from one initiator to the next.
use Rattle.std.specs.Prelude.{◌≡◌}
use Rattle.cmh_work.specs.Leaders.{KnowsLeaders}
use Rattle.cmh_work.specs.Shape.{AreShapesOf}
use Rattle.cmh_work.specs.Working.{AreSeated}
use Rattle.cmh_work.specs.declared.worker.Worker.TheInside.{Inside}

-- all that the worker has is of the graph of its job, and its seats belong to what it shares
pub record IsReady (w : Inside) : Type 0 where
  pub shapes : AreShapesOf w.job.now.graph.now w.job.now.shared.now.shapes
  pub runner : w.runner ≡ w.job.now.graph.now
  pub leaders : KnowsLeaders w.job.now.graph.now w.leaders.items
  pub seats : AreSeated w.job.now.shared.now w.seats
