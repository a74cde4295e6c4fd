-- The rule of the words: what holds between any two steps, of the words and the views of all seats.
use Rattle.std.specs.Prelude.{◌≡◌, ◌≢◌, ◌⊎◌, ℕ, ◌+◌, ◌<◌, ◌≤◌, true, List, [], ◌++◌, map, length, slice_index, None}
use Rattle.atomic_table.specs.Table.{State}
use Rattle.cmh_graph.specs.declared.TheConstants.{MAX_PROCESSES}
use Rattle.cmh_graph.specs.Graph.{Graph, process_count}
use Rattle.cmh_rw.specs.declared.TheConstants.{MAX_SEATS, ROW_COUNT, FIRST_ROW, FIRST_VERDICT, BOARD_WORDS}
use Rattle.cmh_rw.specs.declared.machine.SeatState.{SeatState}
use Rattle.cmh_rw.specs.declared.machine.SeatState.TheVariants.{Writing, Spent}
use Rattle.cmh_rw.specs.declared.row.Row.{Row}
use Rattle.cmh_rw.specs.declared.view.LockView.{LockView}
use Rattle.cmh_rw.specs.declared.view.View.{View}
use Rattle.cmh_rw.specs.Machine.{IsSeat, world, total, writes, IsLawful}
use Rattle.cmh_rw.specs.History.{row_code, verdict_code, fold_at, rows_in, IsOpen, IsPosting, ArePostings, IsTrueOf, IsSeen}
use Rattle.cmh_rw.specs.View.{IsHeld}

-- the words, and the views of all seats, between two steps
abbrev pub Moment : Type 0
Moment = State (Unit {0}) View

-- the words, and what all seats know of the lock alone, between two steps
abbrev pub LockMoment : Type 0
LockMoment = State (Unit {0}) LockView

-- what a seat knows of the lock
abbrev pub lock_of : View → LockView
lock_of v = v.lock

-- a moment of the words, as the lock sees it
abbrev pub lock_moment : Moment → LockMoment
lock_moment s = record { words = s.words; homes = s.homes; views = map lock_of s.views }

-- how a seat stands to the lock
abbrev pub state_of : LockView → SeatState
state_of l = l.state

-- how much of the whole share a seat has
abbrev pub share_of : LockView → ℕ
share_of l = l.share

-- a spent view has no share; each other one has some, and names the graph of the table
abbrev pub HasShare : Graph → Graph → ℕ → SeatState → Type 0
HasShare key graph share Spent = share ≡ 0
HasShare key graph share _ = (0 < share) × (graph ≡ key)

-- a spent seat has no share of the lock; each other one has some, and names the graph of the table
abbrev pub HasLockShare : Graph → LockView → Type 0
HasLockShare key l = HasShare key l.graph l.share l.state

-- The lock's part of the rule. Word 0 is the lock word of all views, which are lawful. Each unspent view has a share,
-- and all shares add up to no more than the whole.
pub record LockRule (key : Graph) (s : LockMoment) : Type 0 where
  pub wide : length s.words ≡ BOARD_WORDS
  pub lock : IsLawful (world (slice_index s.words 0) (map state_of s.views))
  pub shares : total share_of s.views ≤ MAX_SEATS
  pub each : (i : ℕ) (l : LockView) → IsSeat s.views i l → HasLockShare key l

-- What one seat knows, where these are the postings of the history, and these the rows and the verdicts that the writer
-- has stored since.
pub record SeatRule (postings : List (List Row)) (staged told : List Row) (v : View) : Type 0 where
  -- only a writer has staged rows or stored verdicts
  pub writing : v.lock.state ≡ Writing → (v.staged ≡ staged) × (v.told ≡ told)
  pub bare : v.lock.state ≢ Writing → (v.staged ≡ []) × (v.told ≡ [])
  -- a seat with staged rows has loaded a word in this hold
  pub ready : (v.staged ≡ []) ⊎ (v.loaded ≡ true)
  -- what a seat has seen is a prefix of whole postings
  pub seen : IsSeen v.seen postings
  pub other : IsSeen v.other postings
  -- from the first load of a hold on, a seat has seen the whole history
  pub fresh : v.loaded ≡ true → IsHeld v.lock.state × (v.seen ≡ rows_in postings)
  -- a spent view has no postings
  pub gone : v.lock.state ≡ Spent → v.mine ≡ []

-- The whole rule. The history is the postings laid end to end.
pub record WordsRule (key : Graph) (s : Moment) : Type 0 where
  pub postings : List (List Row)
  pub staged : List Row
  pub told : List Row
  pub small : process_count key ≤ MAX_PROCESSES
  pub lock : LockRule key (lock_moment s)
  -- one word counts the rows of the history
  pub count : slice_index s.words ROW_COUNT ≡ length (rows_in postings)
  -- the row words are the history, then the staged rows, then 0
  pub rows : (n : ℕ) → n < MAX_PROCESSES →
      slice_index s.words (FIRST_ROW + n) ≡ slice_index (map row_code (rows_in postings ++ staged)) n
  -- a verdict word is what the history says of its process, or the writer's stored verdicts
  pub verdicts : (p : ℕ) → p < MAX_PROCESSES →
      slice_index s.words (FIRST_VERDICT + p) ≡ verdict_code (fold_at (rows_in postings ++ told) p)
  pub whole : ArePostings postings
  -- history and staged rows are true for the graph
  pub true_of : IsTrueOf key (rows_in postings ++ staged)
  -- no staged row before the last one has `last`
  pub part : IsOpen staged ⊎ IsPosting staged
  -- a stored verdict is that of its row
  pub told_of : (p : ℕ) → (fold_at told p ≡ None) ⊎ (fold_at told p ≡ fold_at staged p)
  -- without a writer no row is staged, and no verdict stored
  pub idle : total writes (map state_of (map lock_of s.views)) ≡ 0 → (staged ≡ []) × (told ≡ [])
  pub each : (i : ℕ) (v : View) → IsSeat s.views i v → SeatRule postings staged told v
  -- each posting stands in the `mine` of exactly one view, and nothing else does: the sums are equal, whatever a
  -- posting weighs
  pub owners : (h : List Row → ℕ) → total (λ v. total h v.mine) s.views ≡ total h postings
