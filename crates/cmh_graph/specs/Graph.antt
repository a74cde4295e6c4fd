-- The wait graph: processes, the ones that each waits for, and the messages in transit.
use Rattle.std.specs.Prelude.{ℕ, Bool, true, false, not, ◌&&◌, ◌||◌, ◌==◌, ◌<◌, List, [], length, slice_index, slice_index_or, if◌then◌else◌, IsTrue, Contains, filter, sum_by}
use Rattle.std.specs.List.{range_with_len, list_any}
use Rattle.cmh_graph.specs.declared.part.State.{State}
use Rattle.cmh_graph.specs.declared.part.State.TheVariants.{Idle, Active}

-- A process. A message from any one of its dependents unblocks it. They are given by their indices.
pub record Process : Type 0 where
  pub name : List ℕ
  pub site : ℕ
  pub state : State
  pub dependents : List ℕ

-- A wait graph: the processes of a dump in its order, each with its index, from 0, and the messages in transit, each by
-- the indices of its sender and its receiver.
pub record Graph : Type 0 where
  pub processes : List Process
  pub in_transit : List (ℕ × ℕ)

-- what stands at an index past the end: an active process without dependents
abbrev pub nobody : Process
nobody = record { name = []; site = 0; state = Active; dependents = [] }

-- how many processes the graph has
abbrev pub process_count : Graph → ℕ
process_count g = length g.processes

-- the process with index p
abbrev pub process_at : Graph → ℕ → Process
process_at g p = slice_index_or g.processes p nobody

-- the name of the process with index p, as bytes
abbrev pub name_of : Graph → ℕ → List ℕ
name_of g p = (process_at g p).name

-- the number of the site at which p is
abbrev pub site_of : Graph → ℕ → ℕ
site_of g p = (process_at g p).site

-- the dependent set of p, in the order given
abbrev pub dependents_of : Graph → ℕ → List ℕ
dependents_of g p = (process_at g p).dependents

-- the state is that of a process that waits
abbrev pub is_idle_state : State → Bool
is_idle_state Idle = true
is_idle_state Active = false

-- p waits for a message of its dependent set
abbrev pub is_idle : Graph → ℕ → Bool
is_idle g p = is_idle_state (process_at g p).state

-- a message is in transit to p from a member of its dependent set
abbrev pub is_woken : Graph → ℕ → Bool
is_woken g p =
    list_any (λ message. message.1 == p && list_any (λ d. d == message.0) (dependents_of g p)) g.in_transit

-- an awake process can still send: it is active, or a message in transit unblocks it
abbrev pub is_awake : Graph → ℕ → Bool
is_awake g p = not (is_idle g p) || is_woken g p

-- a dependency leads from p to r: p is idle, and r is in its dependent set
abbrev pub Depends : Graph → ℕ → ℕ → Type 0
Depends g p r = IsTrue (is_idle g p) × Contains (dependents_of g p) r

-- the processes to which dependencies lead from p, in the order of its dependent set
abbrev pub dependencies_of : Graph → ℕ → List ℕ
dependencies_of g p = if is_idle g p then dependents_of g p else []

-- the indices of all processes
abbrev pub indices : Graph → List ℕ
indices g = range_with_len 0 (process_count g)

-- how many dependencies there are
abbrev pub dependency_count : Graph → ℕ
dependency_count g = sum_by (λ p. length (dependencies_of g p)) (indices g)

-- the idle processes, by rising index
abbrev pub idle_list : Graph → List ℕ
idle_list g = filter (λ p. is_idle g p) (indices g)

-- dependent j of process i
abbrev pub dependent_at : Graph → ℕ → ℕ → ℕ
dependent_at g i j = slice_index (dependents_of g i) j

-- process i has a dependent j
abbrev pub HasDependentAt : Graph → ℕ → ℕ → Type 0
HasDependentAt g i j = (i < process_count g) × (j < length (dependents_of g i))

-- each dependent is a process of the graph
abbrev pub IsWithinGraph : Graph → Type 0
IsWithinGraph g = (i j : ℕ) → HasDependentAt g i j → dependent_at g i j < process_count g
