-- What an analysis of a wait graph is.
use Rattle.std.specs.Prelude.{◌≡◌, ℕ, List, [], ◌∷◌, ◌++◌, All, Contains, IsTrue, Some, map}
use Rattle.cmh_graph.specs.Graph.{Graph, is_idle, idle_list}
use Rattle.cmh_graph.specs.Verdict.{verdict}
use Rattle.cmh_run.specs.Run.{Run}
use Rattle.cmh_rw.specs.declared.row.Row.{Row}
use Rattle.cmh_rw.specs.History.{rows_in, ArePostings, IsTrueOf, fold_at}
use Rattle.cmh_work.specs.declared.record.Record.{Record}
use Rattle.cmh_work.specs.declared.record.Origin.TheVariants.{FromRun}
use Rattle.cmh_work.specs.declared.record.Analysis.{Analysis}
use Rattle.cmh_work.specs.Record.{IsPostedBy, IsTrueRecord}

-- the records of the analysis, one for each idle process
abbrev pub records_of : {L : Type 0} → Analysis Run L → List (Record Run L)
records_of a = a.records.items

-- the rows of the board once all workers were done
abbrev pub history_of : {L : Type 0} → Analysis Run L → List Row
history_of a = a.history.items

-- the process that the record is about
abbrev pub initiator_of : {L : Type 0} → Record Run L → ℕ
initiator_of r = r.initiator

-- each posting is what the run of a record says of each process that stood in no row before
abbrev pub AreOfRecords : {L : Type 0} → List (Record Run L) → List Row → List (List Row) → Type 0
AreOfRecords records before [] = Unit {0}
AreOfRecords {L = L} records before (posting ∷ postings) =
    ((r : Record Run L) × Contains records r
    × (run : Run) × (r.source ≡ FromRun run) × IsPostedBy before posting run)
    × AreOfRecords records (before ++ posting) postings

-- the history is postings, laid end to end, each of the run of a record
abbrev pub IsPostedByRecords : {L : Type 0} → List (Record Run L) → List Row → Type 0
IsPostedByRecords records history = (postings : List (List Row))
    × (history ≡ rows_in postings) × ArePostings postings × AreOfRecords records [] postings

-- There is one true record of each idle process, by rising index. The history has each idle process once, and no other,
-- with the verdict of its record.
pub record IsAnalysisOf {L : Type 0} (listed : L → List ℕ) (g : Graph) (choices : List ℕ)
    (a : Analysis Run L) : Type 0 where
  pub order : map initiator_of (records_of a) ≡ idle_list g
  pub records : All (IsTrueRecord listed g choices (history_of a)) (records_of a)
  pub history : IsTrueOf g (history_of a)
  pub whole : (p : ℕ) → IsTrue (is_idle g p) → fold_at (history_of a) p ≡ Some (verdict g p)
  pub agrees : All (λ r. fold_at (history_of a) r.initiator ≡ Some r.verdict) (records_of a)
  pub postings : IsPostedByRecords (records_of a) (history_of a)
