-- What workers share, what each is given, and what it gives back.
use Rattle.std.specs.Prelude.{◌≡◌, ℕ, ◌+◌, List, [], length, map, true}
use Rattle.cmh_graph.specs.Graph.{Graph, idle_list}
use Rattle.cmh_board.specs.declared.board.BoardSeat.{BoardSeat}
use Rattle.cmh_board.specs.Board.{board_view, board_graph, SitsAt, IsAway}
use Rattle.cmh_run.specs.Run.{Run}
use Rattle.cmh_plan.specs.Plan.{PlanValue}
use Rattle.cmh_plan.specs.TicketSeats.{ticket_view, IsTicketSeatOf, chunk_count}
use Rattle.cmh_work.specs.declared.finding.Finding.{Finding}
use Rattle.cmh_work.specs.declared.job.Shared.{Shared}
use Rattle.cmh_work.specs.declared.job.Seats.{Seats}
use Rattle.cmh_work.specs.Cutting.{chunks_of, bounds_of, concat_chunks}
use Rattle.cmh_work.specs.Shape.{AreShapesOf}
use Rattle.cmh_work.specs.Finding.{finding_initiator, Accounts}

-- what the workers share was made for this graph and this plan
pub record IsMadeFor (g : Graph) (plan : PlanValue) (s : Shared) : Type 0 where
  pub idle : s.idle.items ≡ idle_list g
  pub bounds : s.bounds.items ≡ bounds_of plan.cuts (length s.idle.items)
  pub shapes : AreShapesOf g s.shapes
  pub board : board_graph s.board ≡ g
  pub tickets : chunk_count s.tickets ≡ length plan.cuts + 1

-- a seat of the shared board, which holds nothing
pub record SitsIn (s : Shared) (seat : BoardSeat) : Type 0 where
  pub sits : SitsAt s.board seat
  pub away : IsAway seat

-- both seats of a worker belong to what the workers share
pub record AreSeated (s : Shared) (seats : Seats) : Type 0 where
  pub board : SitsIn s seats.board
  pub tickets : IsTicketSeatOf s.tickets seats.tickets

-- the seats have drawn nothing and added nothing yet
pub record AreNew (seats : Seats) : Type 0 where
  pub drawn : (ticket_view seats.tickets).drawn ≡ []
  pub mine : (board_view seats.board).mine ≡ []

-- the seats are in their places afterwards, with the shares that they had
pub record AreBack (s : Shared) (old new : Seats) : Type 0 where
  pub sit : AreSeated s new
  pub tickets : (ticket_view new.tickets).share ≡ (ticket_view old.tickets).share
  pub board : (board_view new.board).lock.share ≡ (board_view old.board).lock.share

-- what was found is of the chunks that the seat drew, in order, and explains what the seat added, and no chunk is left
pub record IsWorked {L : Type 0} (listed : L → List ℕ) (g : Graph) (plan : PlanValue) (s : Shared) (seats : Seats)
    (found : List (Finding Run L))
    : Type 0 where
  pub accounts : Accounts listed g plan.choices (board_view seats.board) found
  pub order : map finding_initiator found
      ≡ concat_chunks (chunks_of plan.cuts s.idle.items) (ticket_view seats.tickets).drawn
  pub done : (ticket_view seats.tickets).done ≡ true
