-- What contracts say of the words, of a seat, and of the words once they are closed.
use Rattle.std.specs.Prelude.{◌≡◌, ℕ, ◌+◌, ◌<◌, ◌≤◌, List, map, length, slice_index}
use Rattle.std.specs.Slots.{slots_items}
use Rattle.cmh_graph.specs.declared.TheConstants.{MAX_PROCESSES}
use Rattle.cmh_graph.specs.Graph.{Graph}
use Rattle.cmh_rw.specs.declared.TheConstants.{MAX_SEATS, ROW_COUNT, FIRST_ROW, FIRST_VERDICT}
use Rattle.cmh_rw.specs.declared.machine.SeatState.TheVariants.{Away}
use Rattle.cmh_rw.specs.declared.row.Row.{Row}
use Rattle.cmh_rw.specs.declared.view.View.{View}
use Rattle.cmh_rw.specs.declared.words.RwWords.{RwWords}
use Rattle.cmh_rw.specs.declared.words.RwSeat.{RwSeat}
use Rattle.cmh_rw.specs.declared.words.Closed.{Closed}
use Rattle.cmh_rw.specs.History.{row_code, verdict_code, fold_at, rows_in, ArePostings, IsTrueOf, IsSeen}
use Rattle.cmh_rw.specs.Machine.{total}

-- what the seat knows
abbrev pub rw_view : RwSeat → View
rw_view s = s.seat.me.0

-- the seat is one of these words
abbrev pub IsSeatOf : RwWords → RwSeat → Type 0
IsSeatOf w s = s.seat.table_id ≡ w.table.shared.table_id

-- the seat holds nothing
abbrev pub IsRwSeatAway : RwSeat → Type 0
IsRwSeatAway s = (rw_view s).lock.state ≡ Away

-- the graph of the verdicts that the words hold
abbrev pub words_graph : RwWords → Graph
words_graph w = w.table.shared.key

-- the values of the closed words
abbrev pub words_of : Closed → List ℕ
words_of c = slots_items c.inner.words

-- No seat holds the lock, and nothing is staged. Past the history the row words are 0, and the verdict words are what
-- it says. All postings are the seat's own: the sums are equal, whatever a posting weighs.
pub record IsWhole (v : View) (postings : List (List Row)) (words : List ℕ) : Type 0 where
  pub free : slice_index words 0 ≡ 0
  pub rows : (n : ℕ) → n < MAX_PROCESSES →
      slice_index words (FIRST_ROW + n) ≡ slice_index (map row_code (rows_in postings)) n
  pub verdicts : (p : ℕ) → p < MAX_PROCESSES →
      slice_index words (FIRST_VERDICT + p) ≡ verdict_code (fold_at (rows_in postings) p)
  pub mine : (h : List Row → ℕ) → total h v.mine ≡ total h postings

-- The history that the words show: the number of its rows, and each row. It is true for the graph and begins with what
-- the seat had seen.
pub record ClosedHistory (key : Graph) (v : View) (words : List ℕ) : Type 0 where
  pub postings : List (List Row)
  pub whole : ArePostings postings
  pub true_of : IsTrueOf key (rows_in postings)
  pub seen : IsSeen v.seen postings
  pub count : slice_index words ROW_COUNT ≡ length (rows_in postings)
  pub few : length (rows_in postings) ≤ MAX_PROCESSES
  pub row : (n : ℕ) → n < length (rows_in postings) →
      slice_index words (FIRST_ROW + n) ≡ slice_index (map row_code (rows_in postings)) n
  pub with_each_share : v.lock.share ≡ MAX_SEATS → IsWhole v postings words
