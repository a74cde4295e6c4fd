-- Findings as records, once the history is closed.
use Rattle.std.specs.Prelude.{◌≡◌, ℕ, List, [], ◌∷◌, Option, Some, None}
use Rattle.cmh_graph.specs.declared.verdict.Verdict.{Verdict}
use Rattle.cmh_rw.specs.declared.row.Row.{Row}
use Rattle.cmh_work.specs.declared.finding.Finding.{Finding}
use Rattle.cmh_work.specs.declared.record.Record.{Record}
use Rattle.cmh_work.specs.declared.record.Origin.{Origin}
use Rattle.cmh_work.specs.declared.record.Origin.TheVariants.{FromRun, FromBoard}
use Rattle.cmh_work.specs.Record.{IsRowFor}

-- the source is the run of the finding, or where there is none, a row of the process with the verdict
abbrev pub IsNamed : {R : Type 0} → List Row → ℕ → Verdict → Option R → Origin R → Type 0
IsNamed history p verdict (Some run) source = source ≡ FromRun run
IsNamed history p verdict None source =
    (n : ℕ) × (source ≡ FromBoard n) × IsRowFor history n p verdict

-- the record says what was found
pub record IsNumbered {R L : Type 0} (history : List Row) (f : Finding R L) (r : Record R L) : Type 0 where
  pub initiator : r.initiator ≡ f.initiator
  pub verdict : r.verdict ≡ f.verdict
  pub shape : r.shape ≡ f.shape
  pub source : IsNamed history f.initiator f.verdict f.run r.source

-- each record says what was found at its place
abbrev pub AreNumbered : {R L : Type 0} → List Row → List (Finding R L) → List (Record R L) → Type 0
AreNumbered history [] [] = Unit {0}
AreNumbered history [] (r ∷ rs) = ⊥
AreNumbered history (f ∷ fs) [] = ⊥
AreNumbered history (f ∷ fs) (r ∷ rs) = IsNumbered history f r × AreNumbered history fs rs
