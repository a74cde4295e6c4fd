-- What a worker has to do, and where it sits.
use Rattle.std.specs.Prelude.{◌≡◌}
use Rattle.cmh_board.specs.Board.{board_view}
use Rattle.cmh_plan.specs.TicketSeats.{ticket_view}
use Rattle.cmh_work.specs.declared.job.Job.{Job}
use Rattle.cmh_work.specs.declared.job.Seats.{Seats}

-- its job, and its seats at what it shares with others
pub record Work : Type 0 where
  pub job : Job
  pub seats : Seats

-- the job, the tickets and the share are as before
pub record GoesOn (old new : Work) : Type 0 where
  pub job : new.job ≡ old.job
  pub tickets : new.seats.tickets ≡ old.seats.tickets
  pub share : (board_view new.seats.board).lock.share ≡ (board_view old.seats.board).lock.share

-- the job and the shares are as before
pub record ComesBack (old new : Work) : Type 0 where
  pub job : new.job ≡ old.job
  pub tickets : (ticket_view new.seats.tickets).share ≡ (ticket_view old.seats.tickets).share
  pub board : (board_view new.seats.board).lock.share ≡ (board_view old.seats.board).lock.share
