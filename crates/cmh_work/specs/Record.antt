-- What is true of each record of an analysis.
use Rattle.std.specs.Prelude.{◌≡◌, ℕ, Bool, List, [], ◌∷◌, ◌++◌, IfSome, IsTrue, Some, slice_get}
use Rattle.cmh_graph.specs.declared.verdict.Verdict.{Verdict}
use Rattle.cmh_graph.specs.Graph.{Graph, is_idle}
use Rattle.cmh_graph.specs.Verdict.{IsVerdict}
use Rattle.cmh_run.specs.Asks.{Ask, asks_of}
use Rattle.cmh_run.specs.Run.{Run, IsRunOf, verdict_of}
use Rattle.cmh_rw.specs.declared.row.Row.{Row}
use Rattle.cmh_rw.specs.History.{StartsWith, fold_at}
use Rattle.cmh_board.specs.Board.{rows_of, unposted_in}
use Rattle.cmh_board.specs.Posting.{posting_of}
use Rattle.cmh_work.specs.declared.record.Record.{Record}
use Rattle.cmh_work.specs.declared.record.Origin.{Origin}
use Rattle.cmh_work.specs.declared.record.Origin.TheVariants.{FromRun, FromBoard}
use Rattle.cmh_work.specs.Shape.{IsShape}

-- a legal run of p that followed the choices, without a restart, and says this verdict
pub record IsRunFor (g : Graph) (choices : List ℕ) (p : ℕ) (verdict : Verdict) (run : Run)
    : Type 0 where
  pub initiator : run.initiator ≡ p
  pub legal : IsRunOf g choices [] run
  pub tells : verdict_of run.ending ≡ verdict

-- the posting is what this run says of each process that stood in no row before
abbrev pub IsPostedBy : List Row → List Row → Run → Type 0
IsPostedBy before posting run = let told = posting_of run in
    posting ≡ rows_of told.verdict (unposted_in before told.processes)

-- each ask that got a verdict got the one that these rows have of the process
abbrev pub AreAnsweredBy : List Row → List Ask → Type 0
AreAnsweredBy rows [] = Unit {0}
AreAnsweredBy rows (ask ∷ asks) = IfSome ask.1 (λ v. fold_at rows ask.0 ≡ Some v) × AreAnsweredBy rows asks

-- The run's posting stands in the history, with no rows where it said nothing new. Each hint that the run got stands
-- before it, so it was posted by another run.
pub record StandsAfterHints (g : Graph) (history : List Row) (run : Run) : Type 0 where
  pub before : List Row
  pub posting : List Row
  pub place : StartsWith history (before ++ posting)
  pub posted : IsPostedBy before posting run
  pub hints : AreAnsweredBy before (asks_of g run.initiator run.log)

-- the row of this number is of p, with this verdict
abbrev pub IsRowFor : List Row → ℕ → ℕ → Verdict → Type 0
IsRowFor history n p verdict = (last : Bool)
    × (slice_get history n ≡ Some (record { process = p; verdict = verdict; last = last }))

-- the verdict of p is known by a run of p that says it and got its hints from earlier runs, or by a row of the history
abbrev pub IsSource : Graph → List ℕ → List Row → ℕ → Verdict → Origin Run → Type 0
IsSource g choices history p verdict (FromRun run) =
    IsRunFor g choices p verdict run × StandsAfterHints g history run
IsSource g choices history p verdict (FromBoard n) = IsRowFor history n p verdict

-- the record of an idle process has its verdict, its shape, and how the verdict is known
pub record IsTrueRecord {L : Type 0} (listed : L → List ℕ) (g : Graph) (choices : List ℕ) (history : List Row)
    (r : Record Run L)
    : Type 0 where
  pub idle : IsTrue (is_idle g r.initiator)
  pub verdict : IsVerdict g r.initiator r.verdict
  pub shape : IsShape listed g r.initiator r.verdict r.shape
  pub source : IsSource g choices history r.initiator r.verdict r.source
