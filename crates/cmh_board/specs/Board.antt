-- What contracts say of the board and of a seat, and of its calls.
use Rattle.std.specs.Prelude.{◌≡◌, ◌↔◌, ℕ, ◌+◌, ◌<◌, ◌≤◌, ◌==◌, Bool, true, false, is_none, List, [], ◌∷◌, ◌++◌, filter, length, count_by, Contains, Some}
use Rattle.cmh_graph.specs.declared.verdict.Verdict.{Verdict}
use Rattle.cmh_graph.specs.Graph.{Graph}
use Rattle.cmh_rw.specs.declared.TheConstants.{WRITER}
use Rattle.cmh_rw.specs.declared.machine.SeatState.TheVariants.{Away, Reading}
use Rattle.cmh_rw.specs.declared.row.Row.{Row}
use Rattle.cmh_rw.specs.declared.view.View.{View}
use Rattle.cmh_rw.specs.History.{fold_at, rows_in, IsHistory, ArePostings, IsTrueOf, StartsWith}
use Rattle.cmh_rw.specs.Machine.{total}
use Rattle.cmh_rw.specs.View.{row}
use Rattle.cmh_rw.specs.Seats as words
use Rattle.cmh_board.specs.declared.board.Board.{Board}
use Rattle.cmh_board.specs.declared.board.BoardSeat.{BoardSeat}
use Rattle.cmh_board.specs.declared.fault.BoardFault.{BoardFault}
use Rattle.cmh_board.specs.declared.fault.BoardFault.TheVariants as fault
use Rattle.cmh_board.specs.Posting.{PostingValue}

-- what the seat knows
abbrev pub board_view : BoardSeat → View
board_view s = words.rw_view s.seat

-- the graph of the verdicts that the board holds
abbrev pub board_graph : Board → Graph
board_graph b = words.words_graph b.words

-- The seat is one of this board: it names the board's graph, and what it has seen is a history that is true for the
-- graph.
pub record SitsAt (b : Board) (s : BoardSeat) : Type 0 where
  pub own : words.IsSeatOf b.words s.seat
  pub graph : (board_view s).lock.graph ≡ board_graph b
  pub whole : IsHistory (board_view s).seen
  pub true_of : IsTrueOf (board_graph b) (board_view s).seen

-- the seat holds nothing
abbrev pub IsAway : BoardSeat → Type 0
IsAway s = (board_view s).lock.state ≡ Away

-- the seat holds the board for reading
abbrev pub IsHolding : BoardSeat → Type 0
IsHolding s = (board_view s).lock.state ≡ Reading

-- The seat may have seen more. Its graph, its share and the postings that it added are the same.
pub record SeesMore (v w : View) : Type 0 where
  pub seen : StartsWith w.seen v.seen
  pub mine : w.mine ≡ v.mine
  pub share : w.lock.share ≡ v.lock.share
  pub graph : w.lock.graph ≡ v.lock.graph

-- the seat has tried the lock once
abbrev pub TriesOnce : View → View → Type 0
TriesOnce v w = w.lock.tries ≡ v.lock.tries + 1

-- no writer was found, and this number of words was loaded
pub record IsRead (count : ℕ) (v w : View) : Type 0 where
  pub found : w.lock.found < WRITER
  pub loads : w.loads ≡ v.loads + count

-- a writer was found, by this lock word, and nothing was seen
pub record IsTurnedAway (n : ℕ) (v w : View) : Type 0 where
  pub found : n ≡ w.lock.found
  pub cause : WRITER ≤ n
  pub seen : w.seen ≡ v.seen
  pub staged : w.staged ≡ v.staged
  pub loads : w.loads ≡ v.loads

-- this number of words of the history is loaded in one hold, and the history is the same at each later load
pub record ReadsHistory (count : ℕ) (v w : View) : Type 0 where
  pub lock : w.lock ≡ v.lock
  pub loaded : w.loaded ≡ true
  pub same : v.loaded ≡ true → w.seen ≡ v.seen
  pub loads : w.loads ≡ v.loads + count

-- why the whole board wasn't read: a writer was found, or memory was refused before any try
abbrev pub ExplainsReadFault : View → View → BoardFault → Type 0
ExplainsReadFault v w (fault.Busy n) = TriesOnce v w × IsTurnedAway n v w
ExplainsReadFault v w fault.Memory = w ≡ v

-- those of the processes that stand in no row, in order
abbrev pub unposted_in : List Row → List ℕ → List ℕ
unposted_in rows processes = filter (λ p. is_none (fold_at rows p)) processes

-- the list has no process
abbrev pub is_empty : List ℕ → Bool
is_empty [] = true
is_empty (p ∷ ps) = false

-- a row for each of the processes, all with one verdict; the last row, and no other, has `last`
abbrev pub rows_of : Verdict → List ℕ → List Row
rows_of verdict [] = []
rows_of verdict (p ∷ ps) = row p verdict (is_empty ps) ∷ rows_of verdict ps

-- the postings and this one, if it has rows
abbrev pub with_posting : List (List Row) → List Row → List (List Row)
with_posting postings [] = postings
with_posting postings (r ∷ rs) = postings ++ (r ∷ rs) ∷ []

-- how often p stands in the rows
abbrev pub row_times : ℕ → List Row → ℕ
row_times p rows = count_by (λ r. r.process == p) rows

-- How many words a seat loads to add a posting with these new rows: the number of rows, and the verdict of each
-- process, which is loaded again where rows are new.
abbrev pub loads_to_add : PostingValue → List Row → ℕ
loads_to_add t [] = 1 + length t.processes
loads_to_add t (r ∷ rs) = 1 + length t.processes + length t.processes

-- Beside what others had added, the rows that came are those of the posting's processes that stood in no row. They are
-- the seat's next posting, if there are any, and each process stands in one row now. It was added once.
pub record AddsPosting (t : PostingValue) (v w : View) : Type 0 where
  pub between : List Row
  pub rows : List Row
  pub new : rows ≡ rows_of t.verdict (unposted_in (v.seen ++ between) t.processes)
  pub seen : w.seen ≡ (v.seen ++ between) ++ rows
  pub mine : w.mine ≡ with_posting v.mine rows
  pub loads : w.loads ≡ v.loads + loads_to_add t rows
  pub once : (p : ℕ) → Contains t.processes p → row_times p w.seen ≡ 1
  pub says : (p : ℕ) → Contains t.processes p → fold_at w.seen p ≡ Some t.verdict

-- the posting is on the board, and the seat's share and graph are the same
pub record Posts (t : PostingValue) (v w : View) : Type 0 where
  pub added : AddsPosting t v w
  pub share : w.lock.share ≡ v.lock.share
  pub graph : w.lock.graph ≡ v.lock.graph

-- the rows are whole postings, which are just the given ones: the sums are equal, whatever a posting weighs
pub record IsMadeOf (mine : List (List Row)) (rows : List Row) : Type 0 where
  pub postings : List (List Row)
  pub is_laid : rows ≡ rows_in postings
  pub whole : ArePostings postings
  pub weights : (h : List Row → ℕ) → total h mine ≡ total h postings
  pub same : (posting : List Row) → Contains postings posting ↔ Contains mine posting
