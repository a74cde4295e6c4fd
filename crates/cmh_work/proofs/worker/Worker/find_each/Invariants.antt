use Rattle.std.proofs.Common.{◌≡◌, ◌++◌, map, take}
use Rattle.cmh_board.specs.Board.{board_view}
use Rattle.cmh_work.specs.Finding.{finding_initiator, Accounts}
use Rattle.cmh_work.specs.Work.{GoesOn}
use Rattle.cmh_work.proofs.worker.Worker.find_each.Given as goal

abbrev pub invariant-loop-initiator : goal.invariant-loop-initiator
invariant-loop-initiator g l = record {
  on : GoesOn l.fn.self l.self;
  accounts : Accounts g.P.ProcessList.processes l.fn.self.job.graph.now l.fn.self.job.plan.now.choices
      (board_view l.self.seats.board) l.found.items;
  order : map finding_initiator l.found.items
      ≡ map finding_initiator l.fn.found.items ++ take l.initiator-index l.chunk;
}
