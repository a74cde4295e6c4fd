-- Which processes are deadlocked: by paths, and by deadlocked sets.
use Rattle.std.specs.Prelude.{ℕ, Bool, true, false, not, ◌&&◌, List, map, Contains, IsTrue, IsFalse, if◌then◌else◌}
use Rattle.std.specs.List.{list_all}
use Rattle.cmh_graph.specs.declared.verdict.Verdict.{Verdict}
use Rattle.cmh_graph.specs.declared.verdict.Verdict.TheVariants.{Deadlocked, Free}
use Rattle.cmh_graph.specs.Graph.{Graph, dependents_of, indices, is_idle, is_awake}
use Rattle.cmh_graph.specs.Path.{Reaches, reach_of}

-- p is deadlocked: it is idle, and reaches no awake process
abbrev pub IsDeadlocked : Graph → ℕ → Type 0
IsDeadlocked g p =
    IsTrue (is_idle g p) × ((q : ℕ) → Reaches g p q → IsFalse (is_awake g q))

-- the test of `IsDeadlocked`
unfoldable pub is_deadlocked : Graph → ℕ → Bool
is_deadlocked g p = is_idle g p && list_all (λ q. not (is_awake g q)) (reach_of g p)

-- deadlocked or free, by the test
abbrev pub verdict : Graph → ℕ → Verdict
verdict g p = if is_deadlocked g p then Deadlocked else Free

-- the verdict is that the process is deadlocked
abbrev pub says_deadlocked : Verdict → Bool
says_deadlocked Deadlocked = true
says_deadlocked Free = false

-- the verdict is the truth about p
abbrev pub IsVerdict : Graph → ℕ → Verdict → Type 0
IsVerdict g p Deadlocked = IsDeadlocked g p
IsVerdict g p Free = ¬ (IsDeadlocked g p)

-- the verdict of each process
abbrev pub verdicts : Graph → List Verdict
verdicts g = map (verdict g) (indices g)

-- The processes that pass the test are a deadlocked set: all are idle, none is awake by a message in transit, and the
-- set has the dependent set of each.
pub record IsDeadlockedSet (g : Graph) (member : ℕ → Bool) : Type 0 where
  pub idle : (p : ℕ) → IsTrue (member p) → IsTrue (is_idle g p)
  pub asleep : (p : ℕ) → IsTrue (member p) → IsFalse (is_awake g p)
  pub closed : (p r : ℕ) → IsTrue (member p) → Contains (dependents_of g p) r → IsTrue (member r)

-- p belongs to some deadlocked set
abbrev pub IsInDeadlockedSet : Graph → ℕ → Type 0
IsInDeadlockedSet g p = (member : ℕ → Bool) × IsTrue (member p) × IsDeadlockedSet g member
