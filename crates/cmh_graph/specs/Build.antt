-- The graph that parts and messages in transit stand for, and what refuses it.
use Rattle.std.specs.Prelude.{◌≡◌, ◌≢◌, ◌⊎◌, ℕ, ◌<◌, ◌≤◌, List, [], ◌∷◌, map, length, sum_by, slice_index_or, string_bytes, IsFalse}
use Rattle.cmh_graph.specs.declared.TheConstants.{MAX_PROCESSES, MAX_DEPENDENCIES, MAX_IN_TRANSIT}
use Rattle.cmh_graph.specs.declared.part.Part.{Part}
use Rattle.cmh_graph.specs.declared.fault.GraphFault.{GraphFault}
use Rattle.cmh_graph.specs.declared.fault.GraphFault.TheVariants.{TooManyProcesses, TooManyDependencies, DependentOutOfRange, RepeatedDependent, ActiveWithDependents, TooManyInTransit, TransitOutOfRange, Memory}
use Rattle.cmh_graph.specs.Graph.{Process, Graph, process_count, dependents_of, is_idle, dependent_at, HasDependentAt, IsWithinGraph}
use Rattle.cmh_graph.specs.First.{IsFirstBy}

-- the process that a part describes
abbrev pub process_of : Part → Process
process_of part = record {
  name = string_bytes part.name;
  site = part.site;
  state = part.state;
  dependents = part.dependents.items;
}

-- the graph that the parts and the messages in transit describe
abbrev pub parts_graph : List Part → List (ℕ × ℕ) → Graph
parts_graph parts in_transit = record { processes = map process_of parts; in_transit = in_transit }

-- the number of dependents that all processes have together, active ones among them
abbrev pub dependent_count : Graph → ℕ
dependent_count g = sum_by (λ p. length p.dependents) g.processes

-- the sender and the receiver of message i in transit
abbrev pub message_at : Graph → ℕ → ℕ × ℕ
message_at g i = slice_index_or g.in_transit i (0, 0)

-- the graph has the fault
abbrev pub HasGraphFault : Graph → GraphFault → Type 0
HasGraphFault g TooManyProcesses = MAX_PROCESSES < process_count g
HasGraphFault g TooManyDependencies = MAX_DEPENDENCIES < dependent_count g
HasGraphFault g (DependentOutOfRange i j) = HasDependentAt g i j × (process_count g ≤ dependent_at g i j)
HasGraphFault g (RepeatedDependent i j) = HasDependentAt g i j × (k : ℕ) × (k < j)
    × (dependent_at g i k ≡ dependent_at g i j)
HasGraphFault g (ActiveWithDependents i) = HasDependentAt g i 0 × IsFalse (is_idle g i)
HasGraphFault g TooManyInTransit = MAX_IN_TRANSIT < length g.in_transit
HasGraphFault g (TransitOutOfRange i) = (i < length g.in_transit)
    × ((process_count g ≤ (message_at g i).0) ⊎ (process_count g ≤ (message_at g i).1))
HasGraphFault g Memory = ⊥

-- the number of the fault's kind in the order of the variants, from 1, and its indices
abbrev pub graph_fault_rank : GraphFault → List ℕ
graph_fault_rank TooManyProcesses = 1 ∷ []
graph_fault_rank TooManyDependencies = 2 ∷ []
graph_fault_rank (DependentOutOfRange i j) = 3 ∷ i ∷ j ∷ []
graph_fault_rank (RepeatedDependent i j) = 4 ∷ i ∷ j ∷ []
graph_fault_rank (ActiveWithDependents i) = 5 ∷ i ∷ []
graph_fault_rank Memory = 6 ∷ []
graph_fault_rank TooManyInTransit = 7 ∷ []
graph_fault_rank (TransitOutOfRange i) = 8 ∷ i ∷ []

-- a fault that the graph has, and none that it has comes before it
abbrev pub IsFirstGraphFault : Graph → GraphFault → Type 0
IsFirstGraphFault g fault = IsFirstBy graph_fault_rank (HasGraphFault g) fault

-- the graph has no fault
pub record IsWellFormed (g : Graph) : Type 0 where
  pub processes : process_count g ≤ MAX_PROCESSES
  pub dependencies : dependent_count g ≤ MAX_DEPENDENCIES
  pub within : IsWithinGraph g
  pub distinct : (i j k : ℕ) → HasDependentAt g i j → k < j → dependent_at g i k ≢ dependent_at g i j
  pub waiting : (i : ℕ) → IsFalse (is_idle g i) → dependents_of g i ≡ []
  pub messages : length g.in_transit ≤ MAX_IN_TRANSIT
  pub sent_within : (i : ℕ) → i < length g.in_transit → (message_at g i).0 < process_count g
  pub received_within : (i : ℕ) → i < length g.in_transit → (message_at g i).1 < process_count g
