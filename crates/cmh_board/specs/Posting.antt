-- What one run posts on the board.
use Rattle.std.specs.Prelude.{ℕ, nat_eq, IsTrue, List, [], ◌∷◌, Contains}
use Rattle.std.specs.List.{IsDistinct}
use Rattle.cmh_graph.specs.declared.verdict.Verdict.{Verdict}
use Rattle.cmh_graph.specs.declared.verdict.Verdict.TheVariants.{Deadlocked, Free}
use Rattle.cmh_graph.specs.Graph.{Graph, is_idle}
use Rattle.cmh_graph.specs.Verdict.{IsVerdict}
use Rattle.cmh_run.specs.Run.{Run, verdict_of}

-- one verdict, and the processes that have it
pub record PostingValue : Type 0 where
  pub processes : List ℕ
  pub verdict : Verdict

-- the processes that a verdict of a run is about: all engaged ones if it is deadlocked, else the initiator
abbrev pub spoken_of : Verdict → List ℕ → List ℕ → List ℕ
spoken_of Deadlocked initiator engaged = engaged
spoken_of Free initiator engaged = initiator

-- what a run posts: each engaged process is deadlocked if the run is declared, else the initiator is free
abbrev pub posting_of : Run → PostingValue
posting_of r = record {
  processes = spoken_of (verdict_of r.ending) (r.initiator ∷ []) r.engaged;
  verdict = verdict_of r.ending;
}

-- the posting is true: each of its processes is idle and has its verdict, and none stands there twice
pub record IsTruth (g : Graph) (t : PostingValue) : Type 0 where
  pub idle : (p : ℕ) → Contains t.processes p → IsTrue (is_idle g p)
  pub verdict : (p : ℕ) → Contains t.processes p → IsVerdict g p t.verdict
  pub once : IsDistinct nat_eq t.processes
