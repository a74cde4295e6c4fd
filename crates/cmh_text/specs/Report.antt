-- The text of the report, as a function of the graph alone.
use Rattle.std.specs.Prelude.{◌≡◌, ℕ, not, List, [], ◌∷◌, ◌++◌, map, length, if◌then◌else◌, count_by, flat_map, unwrap_or, nat_eq, codes, decimal}
use Rattle.std.specs.List.{join_with_byte}
use Rattle.std.specs.Set.{distinct_count}
use Rattle.cmh_graph.specs.Graph.{Graph, process_count, name_of, site_of, is_idle, indices, idle_list}
use Rattle.cmh_graph.specs.Path.{reach_of}
use Rattle.cmh_graph.specs.ChosenPath.{chosen_path}
use Rattle.cmh_graph.specs.Verdict.{is_deadlocked}
use Rattle.cmh_graph.specs.Core.{core_of, rest_of, leaders, group_number}

-- words separated by one space, and a line feed
abbrev pub line : List (List ℕ) → List ℕ
line words = join_with_byte 32 words ++ 10 ∷ []

-- each word after a space
abbrev pub spaced_words : List (List ℕ) → List ℕ
spaced_words words = flat_map (λ word. 32 ∷ word) words

-- the names of the processes, in the order of the list
abbrev pub names_of : Graph → List ℕ → List (List ℕ)
names_of g ps = map (name_of g) ps

-- the names, or `-` where there are none
abbrev pub names_or_dash : Graph → List ℕ → List (List ℕ)
names_or_dash g [] = codes "-" ∷ []
names_or_dash g (p ∷ ps) = names_of g (p ∷ ps)

-- how many processes are deadlocked
abbrev pub deadlocked_count : Graph → ℕ
deadlocked_count g = count_by (is_deadlocked g) (indices g)

-- how many different sites the processes have
abbrev pub site_count : Graph → List ℕ → ℕ
site_count g ps = distinct_count nat_eq (map (site_of g) ps)

-- the words of a line of counts
abbrev pub counts_line : ℕ → ℕ → ℕ → ℕ → List (List ℕ)
counts_line all active idle deadlocked =
    codes "processes" ∷ decimal all
    ∷ codes "active" ∷ decimal active
    ∷ codes "idle" ∷ decimal idle
    ∷ codes "deadlocked" ∷ decimal deadlocked
    ∷ []

-- the words of the first line: a process that isn't idle is active
unfoldable pub totals_line : Graph → List (List ℕ)
totals_line g =
    counts_line (process_count g) (count_by (λ p. not (is_idle g p)) (indices g)) (length (idle_list g))
    (deadlocked_count g)

-- the words of the line of a deadlocked process
unfoldable pub deadlocked_line : Graph → ℕ → List (List ℕ)
deadlocked_line g p =
    codes "deadlocked" ∷ name_of g p ∷ codes "group" ∷ decimal (group_number g p) ∷ []

-- the words of the line of an idle process that is free
unfoldable pub free_line : Graph → ℕ → List (List ℕ)
free_line g p =
    codes "free" ∷ name_of g p ∷ codes "path" ∷ names_of g (unwrap_or (chosen_path g p) [])

-- the words of the line of an idle process
abbrev pub process_line : Graph → ℕ → List (List ℕ)
process_line g p = if is_deadlocked g p then deadlocked_line g p else free_line g p

-- the words of the line of the group with this leader
unfoldable pub group_line : Graph → ℕ → List (List ℕ)
group_line g p =
    codes "group" ∷ decimal (group_number g p) ∷ codes "|" ∷ names_of g (core_of g p)
    ++ codes "|" ∷ names_or_dash g (rest_of g p)
    ++ codes "|" ∷ codes "sites" ∷ decimal (site_count g (reach_of g p)) ∷ []

-- the report: the totals, a line for each idle process, and one for each group
unfoldable pub report_text : Graph → List ℕ
report_text g =
    flat_map line (totals_line g ∷ map (process_line g) (idle_list g) ++ map (group_line g) (leaders g))

-- the text is the report on the graph
abbrev pub IsReport : Graph → List ℕ → Type 0
IsReport g text = text ≡ report_text g

-- the text is the report on the graph, of which this number of processes are deadlocked
abbrev pub IsCountedReport : ℕ → Graph → List ℕ → Type 0
IsCountedReport deadlocked g text = IsReport g text × (deadlocked ≡ deadlocked_count g)
