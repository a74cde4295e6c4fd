-- The history of verdicts: rows, postings, and what a history says of each process.
use Rattle.std.specs.Prelude.{◌≡◌, ℕ, ◌+◌, ◌*◌, ◌/◌, ◌%◌, ◌^◌, ◌≤◌, ◌==◌, Bool, true, false, if◌then◌else◌, IsTrue, Option, Some, None, List, [], ◌∷◌, ◌++◌}
use Rattle.cmh_graph.specs.declared.TheConstants.{MAX_PROCESSES}
use Rattle.cmh_graph.specs.declared.verdict.Verdict.{Verdict}
use Rattle.cmh_graph.specs.declared.verdict.Verdict.TheVariants.{Deadlocked, Free}
use Rattle.cmh_graph.specs.Graph.{Graph, process_count, is_idle}
use Rattle.cmh_graph.specs.Verdict.{verdict}
use Rattle.cmh_rw.specs.declared.row.Row.{Row}

-- a flag as a number
abbrev pub bit : Bool → ℕ
bit true = 1
bit false = 0

-- a verdict as a number
abbrev pub free_bit : Verdict → ℕ
free_bit Deadlocked = 0
free_bit Free = 1

-- the word that a row is stored as
abbrev pub row_code : Row → ℕ
row_code r = 4 * r.process + 2 * bit r.last + free_bit r.verdict

-- how many words may stand for rows: four for each number that a process may have
abbrev pub row_words : ℕ
row_words = 4 * 2 ^ 32

-- the row that is stored as this word
abbrev pub row_of : ℕ → Row
row_of code = record {
  process = code / 4;
  verdict = if code % 2 == 1 then Free else Deadlocked;
  last = code / 2 % 2 == 1;
}

-- the word that a verdict, or none, is stored as
abbrev pub verdict_code : Option Verdict → ℕ
verdict_code None = 0
verdict_code (Some Deadlocked) = 1
verdict_code (Some Free) = 2

-- what the rows say of a process
abbrev pub fold_at : List Row → ℕ → Option Verdict
fold_at [] p = None
fold_at (r ∷ rs) p = if r.process == p then Some r.verdict else fold_at rs p

-- no row has `last`
abbrev pub IsOpen : List Row → Type 0
IsOpen [] = Unit {0}
IsOpen (r ∷ rs) = (r.last ≡ false) × IsOpen rs

-- the last row has `last`
abbrev pub EndsLast : List Row → Type 0
EndsLast rows = (before : List Row) × (r : Row) × (rows ≡ before ++ r ∷ []) × (r.last ≡ true)

-- the last row, and no other, has `last`
abbrev pub IsPosting : List Row → Type 0
IsPosting rows = (before : List Row) × (r : Row) × (rows ≡ before ++ r ∷ [])
    × IsOpen before × (r.last ≡ true)

-- each of these lists of rows is a posting
abbrev pub ArePostings : List (List Row) → Type 0
ArePostings [] = Unit {0}
ArePostings (x ∷ xs) = IsPosting x × ArePostings xs

-- postings, laid end to end: a history
abbrev pub rows_in : List (List Row) → List Row
rows_in [] = []
rows_in (x ∷ xs) = x ++ rows_in xs

-- rows that are whole postings
abbrev pub IsHistory : List Row → Type 0
IsHistory rows = (postings : List (List Row)) × (rows ≡ rows_in postings) × ArePostings postings

-- the rows are true for the graph: each process in them is idle, stands once, and has its verdict
abbrev pub IsTrueOf : Graph → List Row → Type 0
IsTrueOf g [] = Unit {0}
IsTrueOf g (r ∷ rs) = IsTrue (is_idle g r.process) × (r.verdict ≡ verdict g r.process)
    × (fold_at rs r.process ≡ None) × IsTrueOf g rs

-- the rows are true for the graph, and the words have room for each of its processes
pub record FitsIn (g : Graph) (rows : List Row) : Type 0 where
  pub small : process_count g ≤ MAX_PROCESSES
  pub true_of : IsTrueOf g rows

-- the rows begin with these
abbrev pub StartsWith : List Row → List Row → Type 0
StartsWith rows before = (rest : List Row) × (rows ≡ before ++ rest)

-- what was seen is the first of these postings, laid end to end
abbrev pub IsSeen : List Row → List (List Row) → Type 0
IsSeen seen postings = (before : List (List Row)) × (after : List (List Row))
    × (postings ≡ before ++ after) × (seen ≡ rows_in before)

-- the verdict of each staged row is stored
abbrev pub AreTold : List Row → List Row → Type 0
AreTold staged told = (p : ℕ) (v : Verdict) → fold_at staged p ≡ Some v → fold_at told p ≡ Some v
