-- The lock as a machine: one word beside the states of all seats, and what one event does.
use Rattle.std.specs.Prelude.{◌≡◌, ◌⊎◌, ℕ, ◌+◌, ◌-◌, ◌*◌, ◌<◌, ◌≤◌, ◌==◌, nat_lt, if◌then◌else◌, List, [], ◌∷◌, length, replicate, slice_index_or, slice_set}
use mathlib.Core.Option.{some}
use lib.ListN.{get_elem?}
use Rattle.cmh_rw.specs.declared.TheConstants.{WRITER, MAX_SEATS}
use Rattle.cmh_rw.specs.declared.machine.SeatState.{SeatState}
use Rattle.cmh_rw.specs.declared.machine.SeatState.TheVariants.{Away, Retreating, Reading, Writing, Spent}
use Rattle.cmh_rw.specs.declared.machine.Event.{Event}
use Rattle.cmh_rw.specs.declared.machine.Event.TheVariants.{Admit, Leave, TryWrite, EndWrite}

-- the lock word, and the state of each seat
pub record World : Type 0 where
  pub word : ℕ
  pub seats : List SeatState

-- a world by its parts
abbrev pub world : ℕ → List SeatState → World
world word seats = record { word = word; seats = seats }

-- f of each item of a list, added up
abbrev pub total : {A : Type 0} → (A → ℕ) → List A → ℕ
total f [] = 0
total f (x ∷ xs) = f x + total f xs

-- of the seats with these views, seat i has this one
abbrev pub IsSeat : {V : Type 0} → List V → ℕ → V → Type 0
IsSeat views i view = get_elem? views i ≡ some view

-- whether a seat writes, as a number
abbrev pub writes : SeatState → ℕ
writes Writing = 1
writes _ = 0

-- whether a seat reads, as a number
abbrev pub reads : SeatState → ℕ
reads Reading = 1
reads _ = 0

-- whether a seat retreats, as a number
abbrev pub retreats : SeatState → ℕ
retreats Retreating = 1
retreats _ = 0

-- The word counts the writers, the readers and the retreaters; there is at most one writer, and no reader beside a
-- writer.
pub record IsLawful (w : World) : Type 0 where
  pub word : w.word ≡ WRITER * total writes w.seats + total reads w.seats + total retreats w.seats
  pub one_writer : total writes w.seats ≤ 1
  pub alone : 0 < total writes w.seats → total reads w.seats ≡ 0

-- a lawful world with few enough seats
pub record IsLock (w : World) : Type 0 where
  pub lawful : IsLawful w
  pub few : length w.seats ≤ MAX_SEATS

-- a lock can't have this number of seats
abbrev pub IsBadCount : ℕ → Type 0
IsBadCount seats = (seats ≡ 0) ⊎ (MAX_SEATS < seats)

-- the word and the state of a seat after an event of this seat
abbrev pub turn : Event → ℕ → SeatState → ℕ × SeatState
turn (Admit n) word Away = (word + 1, if nat_lt word WRITER then Reading else Retreating)
turn (Leave n) word Reading = (word - 1, Away)
turn (Leave n) word Retreating = (word - 1, Away)
turn (TryWrite n) word Away = if word == 0 then (WRITER, Writing) else (word, Away)
turn (EndWrite n) word Writing = (word - WRITER, Away)
turn e word state = (word, state)

-- the seat of the event
abbrev pub seat_of : Event → ℕ
seat_of (Admit n) = n
seat_of (Leave n) = n
seat_of (TryWrite n) = n
seat_of (EndWrite n) = n

-- a world after one event; an event on no seat changes nothing, as on a spent one
abbrev pub step_of : World → Event → World
step_of w e =
    let after = turn e w.word (slice_index_or w.seats (seat_of e) Spent) in
    world after.0 (slice_set w.seats (seat_of e) after.1)

-- a world after these events, one after the other
abbrev pub run_from : World → List Event → World
run_from w [] = w
run_from w (e ∷ es) = run_from (step_of w e) es

-- a world with this number of seats, all away
abbrev pub new_world : ℕ → World
new_world seats = world 0 (replicate seats Away)
