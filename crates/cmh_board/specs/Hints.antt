-- The board as hints.
use Rattle.std.specs.Prelude.{◌≡◌, ◌↔◌, ℕ, ◌+◌, ◌<◌, ◌≤◌, List, [], ◌∷◌, Option, None}
use Rattle.cmh_graph.specs.declared.verdict.Verdict.{Verdict}
use Rattle.cmh_graph.specs.Graph.{Graph}
use Rattle.cmh_run.specs.Asks.{Ask}
use Rattle.cmh_rw.specs.declared.TheConstants.{WRITER}
use Rattle.cmh_rw.specs.declared.view.View.{View}
use Rattle.cmh_rw.specs.History.{fold_at}
use Rattle.cmh_board.specs.declared.hints.BoardHints.{BoardHints}
use Rattle.cmh_board.specs.Board.{board_view, board_graph, SitsAt, IsAway, SeesMore, TriesOnce}

-- the hints speak of the board's graph, with a seat of the board that holds nothing
pub record SpeaksOf (h : BoardHints) (g : Graph) : Type 0 where
  pub graph : board_graph h.board.now ≡ g
  pub sits : SitsAt h.board.now h.seat.now
  pub away : IsAway h.seat.now

-- One look at p, by a seat that knew v before and w after, with this answer. It is what the seat has seen, and for that
-- one word was loaded; or a writer was found, and nothing was seen.
pub record IsLook (v w : View) (p : ℕ) (answer : Option Verdict) : Type 0 where
  pub sees : SeesMore v w
  pub tried : TriesOnce v w
  pub read : w.lock.found < WRITER → (w.loads ≡ v.loads + 1) × (answer ≡ fold_at w.seen p)
  pub busy : WRITER ≤ w.lock.found → (w.loads ≡ v.loads) × (w.seen ≡ v.seen) × (answer ≡ None)

-- a seat that knew v before and w after has looked at just these processes, in this order, with these answers
abbrev pub Looks : View → View → List Ask → Type 0
Looks v w [] = v ≡ w
Looks v w (ask ∷ asks) = (u : View) × IsLook v u ask.0 ask.1 × Looks u w asks

-- the hints have the same board and seat as before, and may have seen more
pub record Keeps (a b : BoardHints) : Type 0 where
  pub board : a.board.now ≡ b.board.now
  pub seat : a.seat.ghost_name ≡ b.seat.ghost_name
  pub sees : SeesMore (board_view a.seat.now) (board_view b.seat.now)
  pub state : (board_view a.seat.now).lock.state ≡ (board_view b.seat.now).lock.state
  pub speaks : (g : Graph) → SpeaksOf a g ↔ SpeaksOf b g
