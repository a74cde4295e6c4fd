-- What workers have found, before the history is closed.
use Rattle.std.specs.Prelude.{◌≡◌, ◌⊎◌, ℕ, ◌<◌, List, [], ◌∷◌, ◌++◌, All, Contains, IsTrue, Option, Some, None, IfSome}
use Rattle.cmh_graph.specs.declared.verdict.Verdict.{Verdict}
use Rattle.cmh_graph.specs.Graph.{Graph, is_idle}
use Rattle.cmh_graph.specs.Verdict.{IsVerdict}
use Rattle.cmh_run.specs.Run.{Run}
use Rattle.cmh_rw.specs.declared.row.Row.{Row}
use Rattle.cmh_rw.specs.declared.view.View.{View}
use Rattle.cmh_rw.specs.History.{StartsWith, fold_at}
use Rattle.cmh_run.specs.Asks.{asks_of}
use Rattle.cmh_board.specs.Board.{Posts}
use Rattle.cmh_board.specs.Hints.{Looks}
use Rattle.cmh_board.specs.Posting.{posting_of}
use Rattle.cmh_work.specs.declared.finding.Answer.{Answer}
use Rattle.cmh_work.specs.declared.finding.Finding.{Finding}
use Rattle.cmh_work.specs.Shape.{IsShape}
use Rattle.cmh_work.specs.Record.{IsPostedBy, IsRunFor, StandsAfterHints}

-- the process that the finding is about
abbrev pub finding_initiator : {L : Type 0} → Finding Run L → ℕ
finding_initiator f = f.initiator

-- the posting stands in what is seen, and is this run's
pub record IsSeenFrom (seen posting : List Row) (run : Run) : Type 0 where
  pub before : List Row
  pub place : StartsWith seen (before ++ posting)
  pub posted : IsPostedBy before posting run

-- the seat that knew v before and w after has added no posting, or one of this run
abbrev pub AddsOneOf : View → View → Option Run → Type 0
AddsOneOf v w ran = (w.mine ≡ v.mine)
    ⊎ ((posting : List Row) × (w.mine ≡ v.mine ++ posting ∷ [])
    × (run : Run) × (ran ≡ Some run) × IsSeenFrom w.seen posting run)

-- A seat that knew v before and w after looked at p, without an answer. Then it made the run, and looked where the run
-- asks and nowhere else. What the run says was posted once, by a try that found the lock free.
pub record RunsAfterLook (g : Graph) (p : ℕ) (v w : View) (run : Run) : Type 0 where
  pub looked : View
  pub looks : Looks v looked ((p, None) ∷ asks_of g p run.log)
  pub posts : Posts (posting_of run) looked w
  pub tried : looked.lock.tries < w.lock.tries
  pub found : w.lock.found ≡ 0

-- the board is looked at first, once: where it answers there is no run
abbrev pub LooksFirst : Graph → ℕ → View → View → Verdict → Option Run → Type 0
LooksFirst g p v w verdict None = Looks v w ((p, Some verdict) ∷ [])
LooksFirst g p v w verdict (Some run) = RunsAfterLook g p v w run

-- a seat that asked about p, and knew v before and w after, has an answer: it is true, it stands in what is seen, the
-- board was looked at first, and a posting that the seat added is that of its run
pub record IsAnswered (g : Graph) (choices : List ℕ) (p : ℕ) (v w : View) (a : Answer Run)
    : Type 0 where
  pub sees : StartsWith w.seen v.seen
  pub verdict : IsVerdict g p a.verdict
  pub stands : fold_at w.seen p ≡ Some a.verdict
  pub run : IfSome a.run (IsRunFor g choices p a.verdict)
  pub after : IfSome a.run (StandsAfterHints g w.seen)
  pub looks : LooksFirst g p v w a.verdict a.run
  pub mine : AddsOneOf v w a.run

-- what was found of a process is true, and stands in what is seen
pub record IsSound {L : Type 0} (listed : L → List ℕ) (g : Graph) (choices : List ℕ) (seen : List Row)
    (f : Finding Run L) : Type 0 where
  pub idle : IsTrue (is_idle g f.initiator)
  pub verdict : IsVerdict g f.initiator f.verdict
  pub shape : IsShape listed g f.initiator f.verdict f.shape
  pub run : IfSome f.run (IsRunFor g choices f.initiator f.verdict)
  pub after : IfSome f.run (StandsAfterHints g seen)
  pub stands : fold_at seen f.initiator ≡ Some f.verdict

-- what a seat that knew v before and w after has found of p: it is sound, and a posting that the seat added is that of
-- its run
pub record IsFound {L : Type 0} (listed : L → List ℕ) (g : Graph) (choices : List ℕ) (p : ℕ) (v w : View)
    (f : Finding Run L) : Type 0 where
  pub initiator : f.initiator ≡ p
  pub sees : StartsWith w.seen v.seen
  pub sound : IsSound listed g choices w.seen f
  pub mine : AddsOneOf v w f.run

-- the posting is of the run of something that was found
abbrev pub IsExplained : {L : Type 0} → List Row → List (Finding Run L) → List Row → Type 0
IsExplained {L = L} seen found posting = (f : Finding Run L) × Contains found f
    × (run : Run) × (f.run ≡ Some run) × IsSeenFrom seen posting run

-- each of these postings is of the run of something that was found
abbrev pub AreExplained : {L : Type 0} → List Row → List (Finding Run L) → List (List Row) → Type 0
AreExplained seen found [] = Unit {0}
AreExplained seen found (posting ∷ postings) =
    IsExplained seen found posting × AreExplained seen found postings

-- what was found is sound, and explains the postings that the seat added
pub record Accounts {L : Type 0} (listed : L → List ℕ) (g : Graph) (choices : List ℕ) (v : View)
    (found : List (Finding Run L))
    : Type 0 where
  pub sound : All (IsSound listed g choices v.seen) found
  pub explained : AreExplained v.seen found v.mine
