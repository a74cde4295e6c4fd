-- What a writer does to add a posting.
use Rattle.std.specs.Prelude.{◌≡◌, ℕ, nat_eq, ◌+◌, ◌≤◌, IsTrue, true, List, [], length, map, Contains}
use Rattle.std.specs.List.{IsDistinct}
use Rattle.cmh_graph.specs.declared.TheConstants.{MAX_PROCESSES}
use Rattle.cmh_graph.specs.declared.verdict.Verdict.{Verdict}
use Rattle.cmh_graph.specs.Graph.{Graph, process_count, is_idle}
use Rattle.cmh_graph.specs.Verdict.{verdict}
use Rattle.cmh_rw.specs.declared.machine.SeatState.TheVariants.{Writing}
use Rattle.cmh_rw.specs.declared.row.Row.{Row}
use Rattle.cmh_rw.specs.declared.view.View.{View}
use Rattle.cmh_rw.specs.History.{IsHistory, IsTrueOf}
use Rattle.cmh_rw.specs.View.{mark}
use Rattle.cmh_board.specs.Board.{unposted_in, rows_of, AddsPosting}
use Rattle.cmh_board.specs.Posting.{PostingValue}

-- each of these processes is idle and has this verdict, and none stands here twice
pub record CanPost (g : Graph) (v : Verdict) (processes : List ℕ) : Type 0 where
  pub idle : (p : ℕ) → Contains processes p → IsTrue (is_idle g p)
  pub truth : (p : ℕ) → Contains processes p → v ≡ verdict g p
  pub once : IsDistinct nat_eq processes

-- the seat writes, has staged and stored nothing yet, and each process has its words
pub record IsWriter (v : View) : Type 0 where
  pub writing : v.lock.state ≡ Writing
  pub unstaged : v.staged ≡ []
  pub untold : v.told ≡ []
  pub small : process_count v.lock.graph ≤ MAX_PROCESSES

-- in a hold that had loaded words, the seat has loaded this number more, and nothing else has changed
pub record OnlyLoads (count : ℕ) (v w : View) : Type 0 where
  pub lock : w.lock ≡ v.lock
  pub loaded : w.loaded ≡ true
  pub seen : w.seen ≡ v.seen
  pub staged : w.staged ≡ v.staged
  pub told : w.told ≡ v.told
  pub mine : w.mine ≡ v.mine
  pub loads : w.loads ≡ v.loads + count

-- a row that isn't a last one for each of the processes
abbrev pub marks : Verdict → List ℕ → List Row
marks v processes = map (λ p. mark p v) processes

-- the rows of all processes that stood in none are staged, and their verdicts are stored, by one load for each process
pub record Stages (v : Verdict) (processes : List ℕ) (old new : View) : Type 0 where
  pub lock : new.lock ≡ old.lock
  pub seen : new.seen ≡ old.seen
  pub staged : new.staged ≡ rows_of v (unposted_in old.seen processes)
  pub told : new.told ≡ marks v (unposted_in old.seen processes)
  pub mine : new.mine ≡ old.mine
  pub loads : new.loads ≡ old.loads + length processes

-- the posting was added in the hold, nothing is staged any more, and the history is still a true one
pub record Adds (t : PostingValue) (v w : View) : Type 0 where
  pub added : AddsPosting t v w
  pub lock : w.lock ≡ v.lock
  pub staged : w.staged ≡ []
  pub whole : IsHistory w.seen
  pub true_of : IsTrueOf v.lock.graph w.seen
