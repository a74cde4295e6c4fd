-- Worked graphs, computed from the definitions. A dump is written short here: `p@a: q r` is idle p on site a with
-- dependents q and r, `p@a:` has none, and `r@a!` is active.
use Rattle.std.proofs.Common.{◌≡◌, ℕ, zero, suc, true, false, List, [], ◌∷◌, inl, inr, map, refl, arith}
use Rattle.std.specs.Prelude.{codes, IsFalse, Some, None}
use Rattle.cmh_graph.specs.declared.fault.GraphFault.{GraphFault}
use Rattle.cmh_graph.specs.declared.fault.GraphFault.TheVariants.{TooManyProcesses, TooManyDependencies, DependentOutOfRange, RepeatedDependent, ActiveWithDependents, TooManyInTransit, TransitOutOfRange, Memory}
use Rattle.cmh_graph.specs.declared.part.State.TheVariants.{Idle, Active}
use Rattle.cmh_graph.specs.declared.verdict.Verdict.TheVariants.{Deadlocked, Free}
use Rattle.cmh_graph.specs.Build.{graph_fault_rank, HasGraphFault, IsFirstGraphFault}
use Rattle.cmh_graph.specs.First.{comes_before}
use Rattle.cmh_graph.specs.ChosenPath.{chosen_path, distance_of}
use Rattle.cmh_graph.specs.Core.{core_of}
use Rattle.cmh_graph.specs.Graph.{Graph, idle_list, indices, is_awake, Process}
use Rattle.cmh_graph.specs.Path.{reach_of, reaches}
use Rattle.cmh_graph.specs.Verdict.{is_deadlocked, verdicts}
use Rattle.cmh_graph.proofs.BuildLemmas.{pair_first}

-- ---- graphs

-- an idle process on the site with the dependents
abbrev idle : List ℕ → ℕ → List ℕ → Process
idle name site dependents =
    record { name = name; site = site; state = Idle; dependents = dependents }

-- an active process on the site
abbrev active : List ℕ → ℕ → Process
active name site = record { name = name; site = site; state = Active; dependents = [] }

-- the graph of the processes, with nothing in transit
abbrev graph : List Process → Graph
graph processes = record { processes = processes; in_transit = [] }

-- the processes of a graph, with one message in transit
abbrev with_message : ℕ × ℕ → Graph → Graph
with_message message g = record { processes = g.processes; in_transit = message ∷ [] }

-- p@a: q; q@a: p
abbrev two_in_a_cycle : Graph
two_in_a_cycle = graph (idle (codes "p") 0 (1 ∷ []) ∷ idle (codes "q") 0 (0 ∷ []) ∷ [])

-- p@a: q; q@a: p; r@b: p
abbrev cycle_and_follower : Graph
cycle_and_follower =
    graph (idle (codes "p") 0 (1 ∷ []) ∷ idle (codes "q") 0 (0 ∷ []) ∷ idle (codes "r") 1 (0 ∷ []) ∷ [])

-- p@a: b a; a@a: z; b@a: z; z@a!
abbrev two_shortest_paths : Graph
two_shortest_paths =
    graph (idle (codes "p") 0 (2 ∷ 1 ∷ []) ∷ idle (codes "a") 0 (3 ∷ []) ∷ idle (codes "b") 0 (3 ∷ [])
    ∷ active (codes "z") 0 ∷ [])

-- ---- a cycle and one that waits for it

idle_of_cycle_and_follower : idle_list cycle_and_follower ≡ 0 ∷ 1 ∷ 2 ∷ []
idle_of_cycle_and_follower = refl

verdicts_of_cycle_and_follower : verdicts cycle_and_follower ≡ Deadlocked ∷ Deadlocked ∷ Deadlocked ∷ []
unfolding reaches is_deadlocked
verdicts_of_cycle_and_follower = refl

reach_of_follower : reach_of cycle_and_follower 2 ≡ 0 ∷ 1 ∷ 2 ∷ []
unfolding reaches
reach_of_follower = refl

core_of_follower : core_of cycle_and_follower 2 ≡ 2 ∷ []
unfolding reaches
core_of_follower = refl

path_of_follower : chosen_path cycle_and_follower 2 ≡ None
unfolding chosen_path distance_of
path_of_follower = refl

distances_of_cycle_and_follower : map (distance_of cycle_and_follower) (indices cycle_and_follower)
    ≡ None ∷ None ∷ None ∷ []
unfolding distance_of
distances_of_cycle_and_follower = refl

-- ---- two shortest paths, of which the least is chosen

distances_of_two_shortest_paths : map (distance_of two_shortest_paths) (indices two_shortest_paths)
    ≡ Some 2 ∷ Some 1 ∷ Some 1 ∷ Some 0 ∷ []
unfolding distance_of
distances_of_two_shortest_paths = refl

path_of_first : chosen_path two_shortest_paths 0 ≡ Some (0 ∷ 1 ∷ 3 ∷ [])
unfolding chosen_path distance_of
path_of_first = refl

path_of_awake : chosen_path two_shortest_paths 3 ≡ Some (3 ∷ [])
unfolding chosen_path distance_of
path_of_awake = refl

-- ---- messages in transit

-- two in a cycle with a message from q to p, which unblocks p
abbrev cycle_with_message : Graph
cycle_with_message = with_message (1, 0) two_in_a_cycle

awake_by_message : map (is_awake cycle_with_message) (indices cycle_with_message) ≡ true ∷ false ∷ []
awake_by_message = refl

verdicts_with_message : verdicts cycle_with_message ≡ Free ∷ Free ∷ []
unfolding reaches is_deadlocked
verdicts_with_message = refl

path_of_woken : chosen_path cycle_with_message 0 ≡ Some (0 ∷ [])
unfolding chosen_path distance_of
path_of_woken = refl

path_to_woken : chosen_path cycle_with_message 1 ≡ Some (1 ∷ 0 ∷ [])
unfolding chosen_path distance_of
path_to_woken = refl

-- a cycle and r, which waits for it, with a message from p to r, which unblocks r
abbrev follower_with_message : Graph
follower_with_message = with_message (0, 2) cycle_and_follower

verdicts_with_follower_woken : verdicts follower_with_message ≡ Deadlocked ∷ Deadlocked ∷ Free ∷ []
unfolding reaches is_deadlocked
verdicts_with_follower_woken = refl

path_of_woken_follower : chosen_path follower_with_message 2 ≡ Some (2 ∷ [])
unfolding chosen_path distance_of
path_of_woken_follower = refl

-- a message from q to r, which unblocks none, for q is no dependent of r
abbrev message_from_another : Graph
message_from_another = with_message (1, 2) cycle_and_follower

awake_with_message_from_another : map (is_awake message_from_another) (indices message_from_another)
    ≡ false ∷ false ∷ false ∷ []
awake_with_message_from_another = refl

verdicts_with_message_from_another : verdicts message_from_another ≡ Deadlocked ∷ Deadlocked ∷ Deadlocked ∷ []
unfolding reaches is_deadlocked
verdicts_with_message_from_another = refl

-- ---- refused parts

-- p@a: with the dependent 5
abbrev far : Graph
far = graph (idle (codes "p") 0 (5 ∷ []) ∷ [])

-- no fault of the graph `far` comes before its dependent that is out of range
none_before_far : (other : GraphFault) → HasGraphFault far other
    → IsFalse (comes_before (graph_fault_rank other) (graph_fault_rank (DependentOutOfRange 0 0)))
none_before_far TooManyProcesses h = absurd (omega (arith, h))
none_before_far TooManyDependencies h = absurd (omega (arith, h))
none_before_far (DependentOutOfRange zero b) h = pair_first 3 0 0 0 b (inr (refl, omega arith))
none_before_far (DependentOutOfRange (suc a) b) h = pair_first 3 0 0 (suc a) b (inl (omega arith))
none_before_far (RepeatedDependent i j) h = refl
none_before_far (ActiveWithDependents i) h = refl
none_before_far TooManyInTransit h = refl
none_before_far (TransitOutOfRange i) h = refl
none_before_far Memory h = absurd h

-- the dependent out of range is the first fault of the graph `far`
far_is_refused : IsFirstGraphFault far (DependentOutOfRange 0 0)
far_is_refused = record { had = ((omega arith, omega arith), omega arith); first = none_before_far }

-- p@a: p p
repeat_is_fault : HasGraphFault (graph (idle (codes "p") 0 (0 ∷ 0 ∷ []) ∷ [])) (RepeatedDependent 0 1)
repeat_is_fault = ((omega arith, omega arith), 0, omega arith, refl)

-- p@a! with the dependent p
active_is_fault : HasGraphFault
    (graph (record { name = codes "p"; site = 0; state = Active; dependents = 0 ∷ [] } ∷ []))
    (ActiveWithDependents 0)
active_is_fault = ((omega arith, omega arith), refl)

-- p@a: q; q@a: p with a message from p to no process
transit_is_fault : HasGraphFault (with_message (0, 2) two_in_a_cycle) (TransitOutOfRange 0)
transit_is_fault = (omega arith, inr (omega arith))
