-- How many lines make a chunk that is worth a thread.
use Rattle.std.specs.Prelude.{ℕ, List, ◌+◌, ◌-◌, ◌*◌, ◌/◌, ◌^◌, max, min, sum_by}
use Rattle.std.specs.Int.{div_ceil}
use Rattle.cmh_graph.specs.Build.{dependent_count}
use Rattle.cmh_graph.specs.Graph.{Graph, process_count}
use Rattle.cmh_text.specs.declared.chunks.TheConstants.{CHUNKS, THREAD_STEPS}
use Rattle.cmh_text.specs.declared.summary.Summary.{Summary}
use Rattle.cmh_text.specs.declared.summary.Summary.TheVariants.{Active, Deadlocked, Free}

-- a number, or the greatest that can be counted
abbrev pub counted : ℕ → ℕ
counted n = min n (2 ^ 64 - 1)

-- how many processes are on the path that the summary is of
abbrev pub path_count : Summary → ℕ
path_count Active = 0
path_count (Deadlocked leader) = 0
path_count (Free next count) = count

-- how many names all paths have
abbrev pub path_names : List Summary → ℕ
path_names list = counted (sum_by path_count list)

-- how many steps a search of the whole graph takes
abbrev pub search_steps : Graph → ℕ
search_steps g = counted (process_count g + dependent_count g)

-- how many of some lines take as long as a thread takes to start, where all of them take so many steps; but at least so
-- many that there are at most `CHUNKS` chunks
abbrev pub chunk_length : ℕ → ℕ → ℕ
chunk_length lines steps = max (max (counted (lines * THREAD_STEPS) / max steps 1) (div_ceil lines CHUNKS)) 1
