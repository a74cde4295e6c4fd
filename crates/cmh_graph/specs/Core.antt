-- The groups of deadlocked processes: cores, rests, leaders and numbers.
use Rattle.std.specs.Prelude.{ℕ, not, ◌≤◌, ◌&&◌, ◌==◌, nat_le, List, Contains, filter, slice_index, count_by, if◌then◌else◌, Option, Some, None}
use Rattle.cmh_graph.specs.Graph.{Graph, indices}
use Rattle.cmh_graph.specs.Path.{reaches, reach_of}
use Rattle.cmh_graph.specs.Verdict.{is_deadlocked}

-- the processes that p reaches and that reach p, by rising index
abbrev pub core_of : Graph → ℕ → List ℕ
core_of g p = filter (λ q. reaches g q p) (reach_of g p)

-- the processes that p reaches and that don't reach p
abbrev pub rest_of : Graph → ℕ → List ℕ
rest_of g p = filter (λ q. not (reaches g q p)) (reach_of g p)

-- the least process of p's core
abbrev pub leader_of : Graph → ℕ → ℕ
leader_of g p = slice_index (core_of g p) 0

-- the leaders of all deadlocked processes, by rising index: one for each group
abbrev pub leaders : Graph → List ℕ
leaders g = filter (λ p. is_deadlocked g p && leader_of g p == p) (indices g)

-- the leader of p's group, if p is deadlocked
unfoldable pub group_leader : Graph → ℕ → Option ℕ
group_leader g p = if is_deadlocked g p then Some (leader_of g p) else None

-- the number of the group of a deadlocked p, from 1: how many leaders there are up to its own
abbrev pub group_number : Graph → ℕ → ℕ
group_number g p = count_by (λ q. nat_le q (leader_of g p)) (leaders g)

-- the leader of p in words: it is in p's core, and no process there is less
pub record IsLeader (g : Graph) (p leader : ℕ) : Type 0 where
  pub member : Contains (core_of g p) leader
  pub least : (q : ℕ) → Contains (core_of g p) q → leader ≤ q
