-- What the line of each process is made of.
use Rattle.std.specs.Prelude.{◌≡◌, ℕ, List, [], length, map, slice_get, if◌then◌else◌, unwrap_or, Option, Some, None}
use Rattle.cmh_graph.specs.Graph.{Graph, indices, is_idle}
use Rattle.cmh_graph.specs.ChosenPath.{chosen_path}
use Rattle.cmh_graph.specs.Core.{leader_of}
use Rattle.cmh_graph.specs.Verdict.{is_deadlocked}
use Rattle.cmh_text.specs.declared.summary.Summary.{Summary}
use Rattle.cmh_text.specs.declared.summary.Summary.TheVariants.{Active, Deadlocked, Free}

-- the process after the first of the path, if there is one, and the number of processes on the path
abbrev pub path_summary : List ℕ → Summary
path_summary path = Free (slice_get path 1) (length path)

-- what the line of p needs: of a deadlocked process the leader, of a free one the next process and how many are on its
-- path
unfoldable pub summary_of : Graph → ℕ → Summary
summary_of g p =
    if is_idle g p
    then (if is_deadlocked g p then Deadlocked (leader_of g p) else path_summary (unwrap_or (chosen_path g p) []))
    else Active

-- the summaries of all processes of this graph
abbrev pub AreSummariesOf : Graph → List Summary → Type 0
AreSummariesOf g list = list ≡ map (summary_of g) (indices g)

-- the leader that the summary names
abbrev pub leader_in : Summary → Option ℕ
leader_in Active = None
leader_in (Deadlocked leader) = Some leader
leader_in (Free next count) = None

-- the next process that the summary names
abbrev pub next_in : Summary → Option ℕ
next_in Active = None
next_in (Deadlocked leader) = None
next_in (Free next count) = next

-- the leaders that the summaries name
abbrev pub leaders_in : List Summary → List (Option ℕ)
leaders_in list = map leader_in list
