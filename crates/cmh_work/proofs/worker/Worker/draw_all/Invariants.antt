use Rattle.std.proofs.Common.{◌≡◌, ◌-◌, length, map}
use Rattle.cmh_plan.specs.TicketSeats.{ticket_view, chunk_count}
use Rattle.cmh_board.specs.Board.{board_view}
use Rattle.cmh_work.specs.Cutting.{chunks_of, concat_chunks}
use Rattle.cmh_work.specs.Finding.{finding_initiator, Accounts}
use Rattle.cmh_work.specs.Work.{ComesBack}
use Rattle.cmh_work.proofs.worker.Worker.draw_all.Given as goal

abbrev pub invariant-loop-number : goal.invariant-loop-number
invariant-loop-number g l =
    let j = l.fn.self.job in record {
      back : ComesBack l.fn.self l.self;
      accounts : Accounts g.P.ProcessList.processes j.graph.now j.plan.now.choices
          (board_view l.self.seats.board) l.found.items;
      order : map finding_initiator l.found.items
          ≡ concat_chunks (chunks_of j.plan.now.cuts j.shared.now.idle.items) (ticket_view l.self.seats.tickets).drawn;
    }

abbrev pub decreases-loop-number : goal.decreases-loop-number
decreases-loop-number g l =
    chunk_count l.fn.self.job.shared.now.tickets - length (ticket_view l.self.seats.tickets).drawn
