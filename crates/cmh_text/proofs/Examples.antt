-- Worked reports, by computation.
use Rattle.std.proofs.Common.{◌≡◌, ℕ, List, [], ◌∷◌, refl, ◌++◌, length}
use Rattle.std.specs.Prelude.{codes}
use Rattle.std.specs.Fmt.{digits}
use Rattle.cmh_graph.specs.declared.part.State.TheVariants.{Idle, Active}
use Rattle.cmh_graph.specs.Graph.{Process}
use Rattle.cmh_graph.specs.Path.{reaches}
use Rattle.cmh_graph.specs.ChosenPath.{distance_of, chosen_path}
use Rattle.cmh_graph.specs.Verdict.{is_deadlocked}
use Rattle.cmh_text.specs.Report.{report_text, totals_line, deadlocked_line, free_line, group_line}

abbrev pub idle : List ℕ → ℕ → List ℕ → Process
idle name site dependents =
    record { name = name; site = site; state = Idle; dependents = dependents }

abbrev pub active : List ℕ → ℕ → Process
active name site = record { name = name; site = site; state = Active; dependents = [] }

abbrev pub lf : List ℕ
lf = 10 ∷ []

-- p and q wait for each other
abbrev pub two_in_a_cycle : List Process
two_in_a_cycle =
    idle (codes "p") 0 (1 ∷ []) ∷
    idle (codes "q") 0 (0 ∷ []) ∷ []

two_in_a_cycle_report : report_text (record { processes = two_in_a_cycle; in_transit = [] })
    ≡ codes "processes 2 active 0 idle 2 deadlocked 2" ++ lf
    ++ codes "deadlocked p group 1" ++ lf
    ++ codes "deadlocked q group 1" ++ lf
    ++ codes "group 1 | p q | - | sites 1" ++ lf
unfolding report_text totals_line deadlocked_line free_line group_line digits reaches is_deadlocked chosen_path
    distance_of
two_in_a_cycle_report = refl

two_in_a_cycle_length : length (report_text (record { processes = two_in_a_cycle; in_transit = [] })) ≡ 111
unfolding report_text totals_line deadlocked_line free_line group_line digits reaches is_deadlocked chosen_path
    distance_of
two_in_a_cycle_length = refl

-- a graph without a process
abbrev pub empty : List Process
empty =
    []

empty_report : report_text (record { processes = empty; in_transit = [] })
    ≡ codes "processes 0 active 0 idle 0 deadlocked 0" ++ lf
unfolding report_text totals_line deadlocked_line free_line group_line digits reaches is_deadlocked chosen_path
    distance_of
empty_report = refl

-- p waits, and no process can unblock it
abbrev pub waits_for_nobody : List Process
waits_for_nobody =
    idle (codes "p") 0 [] ∷ []

waits_for_nobody_report : report_text (record { processes = waits_for_nobody; in_transit = [] })
    ≡ codes "processes 1 active 0 idle 1 deadlocked 1" ++ lf
    ++ codes "deadlocked p group 1" ++ lf
    ++ codes "group 1 | p | - | sites 1" ++ lf
unfolding report_text totals_line deadlocked_line free_line group_line digits reaches is_deadlocked chosen_path
    distance_of
waits_for_nobody_report = refl

-- p waits for itself alone
abbrev pub waits_for_itself : List Process
waits_for_itself =
    idle (codes "p") 0 (0 ∷ []) ∷ []

waits_for_itself_report : report_text (record { processes = waits_for_itself; in_transit = [] })
    ≡ codes "processes 1 active 0 idle 1 deadlocked 1" ++ lf
    ++ codes "deadlocked p group 1" ++ lf
    ++ codes "group 1 | p | - | sites 1" ++ lf
unfolding report_text totals_line deadlocked_line free_line group_line digits reaches is_deadlocked chosen_path
    distance_of
waits_for_itself_report = refl

-- r, which is active, can unblock p; q waits for itself
abbrev pub one_free_one_stuck : List Process
one_free_one_stuck =
    idle (codes "p") 0 (1 ∷ 2 ∷ []) ∷
    idle (codes "q") 0 (1 ∷ []) ∷
    active (codes "r") 0 ∷ []

one_free_one_stuck_report : report_text (record { processes = one_free_one_stuck; in_transit = [] })
    ≡ codes "processes 3 active 1 idle 2 deadlocked 1" ++ lf
    ++ codes "free p path p r" ++ lf
    ++ codes "deadlocked q group 1" ++ lf
    ++ codes "group 1 | q | - | sites 1" ++ lf
unfolding report_text totals_line deadlocked_line free_line group_line digits reaches is_deadlocked chosen_path
    distance_of
one_free_one_stuck_report = refl

-- p and q wait for each other, and r, at another site, waits for p
abbrev pub cycle_and_follower : List Process
cycle_and_follower =
    idle (codes "p") 0 (1 ∷ []) ∷
    idle (codes "q") 0 (0 ∷ []) ∷
    idle (codes "r") 1 (0 ∷ []) ∷ []

cycle_and_follower_report : report_text (record { processes = cycle_and_follower; in_transit = [] })
    ≡ codes "processes 3 active 0 idle 3 deadlocked 3" ++ lf
    ++ codes "deadlocked p group 1" ++ lf
    ++ codes "deadlocked q group 1" ++ lf
    ++ codes "deadlocked r group 2" ++ lf
    ++ codes "group 1 | p q | - | sites 1" ++ lf
    ++ codes "group 2 | r | p q | sites 2" ++ lf
unfolding report_text totals_line deadlocked_line free_line group_line digits reaches is_deadlocked chosen_path
    distance_of
cycle_and_follower_report = refl

-- p waits for b and a, and both of these for z, which is active
abbrev pub two_shortest_paths : List Process
two_shortest_paths =
    idle (codes "p") 0 (2 ∷ 1 ∷ []) ∷
    idle (codes "a") 0 (3 ∷ []) ∷
    idle (codes "b") 0 (3 ∷ []) ∷
    active (codes "z") 0 ∷ []

two_shortest_paths_report : report_text (record { processes = two_shortest_paths; in_transit = [] })
    ≡ codes "processes 4 active 1 idle 3 deadlocked 0" ++ lf
    ++ codes "free p path p a z" ++ lf
    ++ codes "free a path a z" ++ lf
    ++ codes "free b path b z" ++ lf
unfolding report_text totals_line deadlocked_line free_line group_line digits reaches is_deadlocked chosen_path
    distance_of
two_shortest_paths_report = refl

-- the short way from p goes before the lesser one by a
abbrev pub shortest_before_least : List Process
shortest_before_least =
    idle (codes "p") 0 (1 ∷ 2 ∷ []) ∷
    idle (codes "a") 0 (2 ∷ []) ∷
    active (codes "z") 0 ∷ []

shortest_before_least_report : report_text (record { processes = shortest_before_least; in_transit = [] })
    ≡ codes "processes 3 active 1 idle 2 deadlocked 0" ++ lf
    ++ codes "free p path p z" ++ lf
    ++ codes "free a path a z" ++ lf
unfolding report_text totals_line deadlocked_line free_line group_line digits reaches is_deadlocked chosen_path
    distance_of
shortest_before_least_report = refl

-- q and r wait for each other, and p waits for both
abbrev pub knot_of_three : List Process
knot_of_three =
    idle (codes "p") 0 (1 ∷ 2 ∷ []) ∷
    idle (codes "q") 0 (2 ∷ []) ∷
    idle (codes "r") 0 (1 ∷ []) ∷ []

knot_of_three_report : report_text (record { processes = knot_of_three; in_transit = [] })
    ≡ codes "processes 3 active 0 idle 3 deadlocked 3" ++ lf
    ++ codes "deadlocked p group 1" ++ lf
    ++ codes "deadlocked q group 2" ++ lf
    ++ codes "deadlocked r group 2" ++ lf
    ++ codes "group 1 | p | q r | sites 1" ++ lf
    ++ codes "group 2 | q r | - | sites 1" ++ lf
unfolding report_text totals_line deadlocked_line free_line group_line digits reaches is_deadlocked chosen_path
    distance_of
knot_of_three_report = refl

-- p and q wait for each other, and a message from q to p is in transit, so that both are free
woken_in_a_cycle_report : report_text (record { processes = two_in_a_cycle; in_transit = (1, 0) ∷ [] })
    ≡ codes "processes 2 active 0 idle 2 deadlocked 0" ++ lf
    ++ codes "free p path p" ++ lf
    ++ codes "free q path q p" ++ lf
unfolding report_text totals_line deadlocked_line free_line group_line digits reaches is_deadlocked chosen_path
    distance_of
woken_in_a_cycle_report = refl

-- p waits for itself, and a message from p to itself is in transit, so that p is free
woken_by_itself_report : report_text (record { processes = waits_for_itself; in_transit = (0, 0) ∷ [] })
    ≡ codes "processes 1 active 0 idle 1 deadlocked 0" ++ lf
    ++ codes "free p path p" ++ lf
unfolding report_text totals_line deadlocked_line free_line group_line digits reaches is_deadlocked chosen_path
    distance_of
woken_by_itself_report = refl

-- a message from q to r is in transit, for which r doesn't wait, so that all three are deadlocked
told_by_no_dependent_report : report_text (record { processes = cycle_and_follower; in_transit = (1, 2) ∷ [] })
    ≡ codes "processes 3 active 0 idle 3 deadlocked 3" ++ lf
    ++ codes "deadlocked p group 1" ++ lf
    ++ codes "deadlocked q group 1" ++ lf
    ++ codes "deadlocked r group 2" ++ lf
    ++ codes "group 1 | p q | - | sites 1" ++ lf
    ++ codes "group 2 | r | p q | sites 2" ++ lf
unfolding report_text totals_line deadlocked_line free_line group_line digits reaches is_deadlocked chosen_path
    distance_of
told_by_no_dependent_report = refl

-- r waits for p, and a message from p to r is in transit, so that r is free
follower_woken_report : report_text (record { processes = cycle_and_follower; in_transit = (0, 2) ∷ [] })
    ≡ codes "processes 3 active 0 idle 3 deadlocked 2" ++ lf
    ++ codes "deadlocked p group 1" ++ lf
    ++ codes "deadlocked q group 1" ++ lf
    ++ codes "free r path r" ++ lf
    ++ codes "group 1 | p q | - | sites 1" ++ lf
unfolding report_text totals_line deadlocked_line free_line group_line digits reaches is_deadlocked chosen_path
    distance_of
follower_woken_report = refl
