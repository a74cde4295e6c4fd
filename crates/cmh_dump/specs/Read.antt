-- What is read of a dump before it becomes a graph, and what each stage of reading answers.
use Rattle.std.specs.Prelude.{◌≡◌, ◌≢◌, ℕ, ◌+◌, ◌&&◌, ◌||◌, Bool, codes, not, position, List, [], ◌∷◌, map, Option, Some, None, option_map, Result, Ok, Err}
use Rattle.std.specs.List.{list_all}
use Rattle.std.specs.Global.{Vec}
use Rattle.std.specs.Option.{option_or}
use Rattle.serde_json.specs.Data.{Data}
use Rattle.cmh_graph.specs.Build as graph
use Rattle.cmh_graph.specs.Graph.{Graph, Process}
use Rattle.cmh_graph.specs.declared.part.Part.{Part}
use Rattle.cmh_graph.specs.declared.part.State.{State}
use Rattle.cmh_graph.specs.declared.part.State.TheVariants.{Idle, Active}
use Rattle.cmh_dump.specs.declared.entry.Entry as declared
use Rattle.cmh_dump.specs.declared.fault.DumpFault.{DumpFault}
use Rattle.cmh_dump.specs.declared.fault.DumpFault.TheVariants.{Memory}
use Rattle.cmh_dump.specs.Dump.{holds, first_of, tree_graph}
use Rattle.cmh_dump.specs.Entry.{Entry, entry_of, has_state, has_dependents}
use Rattle.cmh_dump.specs.Name.{is_name}
use Rattle.cmh_dump.specs.Tree.{text_of, has_keys}
use Rattle.serde_json.specs.View.{view}

-- what an entry in memory stands for: a process as it is written
abbrev pub entry_view : declared.Entry → Entry
entry_view e = record {
  name = e.name.now;
  site = e.site.now;
  state = e.state;
  dependents = map (λ v. text_of (view v)) e.dependents.now;
}

-- the keys that a process of the state must have
abbrev pub own_keys : State → List (List ℕ)
own_keys Idle = codes "name" ∷ codes "site" ∷ codes "state" ∷ codes "dependents" ∷ []
own_keys Active = codes "name" ∷ codes "site" ∷ codes "state" ∷ []

-- a process as it has to be written, whatever stands among its dependents
abbrev pub is_written : Data → Bool
is_written p =
    has_keys (codes "name" ∷ codes "site" ∷ codes "state" ∷ []) (codes "dependents" ∷ []) p
    && is_name (entry_of p).name && is_name (entry_of p).site
    && (has_state (codes "active") p || has_state (codes "idle") p) && has_dependents p

-- the dependents of an entry in memory are names
abbrev pub waits_for_names : declared.Entry → Bool
waits_for_names e = list_all (λ v. is_name (text_of (view v))) e.dependents.now

-- the place of the first entry with a dependent that is no name
abbrev pub first_ill_named : List declared.Entry → Option ℕ
first_ill_named es = position (λ e. not (waits_for_names e)) es

-- the first row in which the search finds something, and what it finds; the rows are counted from i
abbrev pub first_pair : {Y : Type 0} → (Y → Option ℕ) → ℕ → List Y → Option (ℕ × ℕ)
first_pair search i [] = None
first_pair search i (y ∷ ys) =
    option_or (option_map (λ j. (i, j)) (search y)) (first_pair search (i + 1) ys)

-- ---- stages

-- A stage judges some kinds of faults: at Ok none of them holds, and the fault answered is the first that does, out of
-- memory apart.
abbrev pub Judges : {T : Type 0} → Data → List (List DumpFault) → Result T DumpFault → Type 0
Judges d kinds (Ok x) = first_of (holds d) kinds ≡ None
Judges d kinds (Err e) = e ≢ Memory → first_of (holds d) kinds ≡ Some e

-- ---- what the graph is built of

-- a process with another name
abbrev pub with_name : List ℕ → Process → Process
with_name name p = record { name = name; site = p.site; state = p.state; dependents = p.dependents }

-- a process with its name still in the tree
abbrev pub without_name : Process → Process
without_name p = with_name [] p

-- a graph with its names still in the tree
abbrev pub without_names : Graph → Graph
without_names g = record { processes = map without_name g.processes; in_transit = g.in_transit }

-- the processes, of which the first ones get these names
abbrev pub with_names : List (List ℕ) → List Process → List Process
with_names [] ps = ps
with_names (name ∷ names) [] = []
with_names (name ∷ names) (p ∷ ps) = with_name name p ∷ with_names names ps

-- None of the kinds holds, and the parts and messages in transit make the graph of the tree, names apart; or the fault
-- answered is the first that holds, out of memory apart.
abbrev pub Builds : Data → List (List DumpFault) → Result (Vec Part × Vec (ℕ × ℕ)) DumpFault → Type 0
Builds d kinds (Ok parts) =
    (first_of (holds d) kinds ≡ None) × (graph.parts_graph parts.0.items parts.1.items ≡ without_names (tree_graph d))
Builds d kinds (Err e) = e ≢ Memory → first_of (holds d) kinds ≡ Some e
