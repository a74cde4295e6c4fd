-- The records from which a report is written.
use Rattle.std.specs.Prelude.{◌≡◌, ℕ, Bool, List, map, All, IsTrue}
use Rattle.cmh_graph.specs.Graph.{Graph, is_idle, idle_list, IsWithinGraph}
use Rattle.cmh_graph.specs.Verdict.{IsVerdict, says_deadlocked}
use Rattle.cmh_run.specs.Run.{Run}
use Rattle.cmh_work.specs.declared.record.Analysis.{Analysis}
use Rattle.cmh_work.specs.declared.record.Record.{Record}
use Rattle.cmh_work.specs.declared.record.Shape.{Shape}
use Rattle.cmh_work.specs.declared.record.Shape.TheVariants.{Path, Leader}
use Rattle.cmh_work.specs.Analysis.{IsAnalysisOf, initiator_of}
use Rattle.cmh_text.specs.Summary.{path_summary, summary_of}
use Rattle.cmh_text.specs.declared.summary.Summary.{Summary}
use Rattle.cmh_text.specs.declared.summary.Summary.TheVariants.{Deadlocked}

-- the analysis is one of this graph by some choices, with paths in such lists
abbrev pub IsSomeAnalysisOf : {L : Type 0} → (L → List ℕ) → Graph → Analysis Run L → Type 0
IsSomeAnalysisOf listed g a = (choices : List ℕ) × IsAnalysisOf listed g choices a

-- what the text takes from a process with this shape
abbrev pub summary_in : {L : Type 0} → (L → List ℕ) → Shape L → Summary
summary_in listed (Leader leader) = Deadlocked leader
summary_in listed (Path path) = path_summary (listed path)

-- the record has the verdict and the summary of an idle process
pub record TellsOf {L : Type 0} (listed : L → List ℕ) (g : Graph) (r : Record Run L) : Type 0 where
  pub idle : IsTrue (is_idle g r.initiator)
  pub verdict : IsVerdict g r.initiator r.verdict
  pub summary : IsWithinGraph g → summary_in listed r.shape ≡ summary_of g r.initiator

-- there is one such record of each idle process, by rising index
pub record AreRecordsOf {L : Type 0} (listed : L → List ℕ) (g : Graph) (records : List (Record Run L)) : Type 0 where
  pub order : map initiator_of records ≡ idle_list g
  pub tell : All (TellsOf listed g) records

-- the verdict of the record is that its initiator is deadlocked
abbrev pub tells_deadlocked : {L : Type 0} → Record Run L → Bool
tells_deadlocked r = says_deadlocked r.verdict
