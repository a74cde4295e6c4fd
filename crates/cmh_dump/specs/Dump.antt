-- What the bytes of a dump mean: a wait graph, or the first condition that refuses them.
use Rattle.std.specs.Prelude.{ℕ, ◌&&◌, ◌||◌, not, List, [], ◌∷◌, ◌++◌, length, map, slice_index_or, sum_by, find, flat_map, Bool, false, codes, nat_lt, if◌then◌else◌, Option, None, Result, Ok, Err}
use Rattle.std.specs.List.{list_all, range_with_len}
use Rattle.std.specs.Option.{option_or, option_map_or}
use Rattle.std.specs.Str.{is_utf8}
use Rattle.serde_json.specs.Data.{Data, null}
use Rattle.serde_json.specs.Read.{read}
use Rattle.cmh_graph.specs.Graph.{Graph, Process, is_idle_state}
use Rattle.cmh_graph.specs.declared.TheConstants.{MAX_PROCESSES, MAX_DEPENDENCIES, MAX_IN_TRANSIT}
use Rattle.cmh_dump.specs.declared.TheConstants.{MAX_BYTES, MAX_SITES}
use Rattle.cmh_dump.specs.declared.fault.DumpFault.{DumpFault}
use Rattle.cmh_dump.specs.declared.fault.DumpFault.TheVariants.{TooLong, NotJson, BadTop, BadVersion, BadSites, RepeatedSite, TooManySites, TooManyProcesses, BadProcess, RepeatedProcess, UnknownSite, UnknownDependent, RepeatedDependent, ActiveWithDependents, TooManyDependencies, TooManyInTransit, BadInTransit, UnknownInTransit}
use Rattle.cmh_dump.specs.Name.{is_name, is_among, place_of, repeats}
use Rattle.cmh_dump.specs.Tree.{texts_of, has_array, has_keys}
use Rattle.cmh_dump.specs.Entry.{is_version, sites, processes, transits, Entry, entries, entry, names, is_process, is_pair}

-- ---- the conditions: each is looked at only where none before it holds

-- the keys at the top: version 2 has one more
abbrev pub top_keys : Data → List (List ℕ)
top_keys d = codes "version" ∷ codes "sites" ∷ codes "processes"
    ∷ (if is_version 2 d then codes "in_transit" ∷ [] else [])

-- an object with the keys of its version, of which all but the version are arrays
abbrev pub is_top : Data → Bool
is_top d =
    has_keys (top_keys d) [] d && has_array (codes "sites") d && has_array (codes "processes") d
    && (not (is_version 2 d) || has_array (codes "in_transit") d)

-- the condition of the fault holds of the tree; faults that no tree has never hold: out of memory, a failed source, too
-- many bytes, and bytes that are no JSON
abbrev pub holds : Data → DumpFault → Bool
holds d BadTop = not (is_top d)
holds d BadVersion = not (is_version 1 d || is_version 2 d)
holds d (BadSites i) = not (is_name (slice_index_or (sites d) i []))
holds d (RepeatedSite i) = repeats (sites d) i
holds d TooManySites = nat_lt MAX_SITES (length (sites d))
holds d TooManyProcesses = nat_lt MAX_PROCESSES (length (processes d))
holds d (BadProcess i) = not (is_process (slice_index_or (processes d) i null))
holds d (RepeatedProcess i) = repeats (names d) i
holds d (UnknownSite i) = not (is_among (sites d) (entry d i).site)
holds d (UnknownDependent i j) =
    not (is_among (names d) (slice_index_or (entry d i).dependents j []))
holds d (RepeatedDependent i j) = repeats (entry d i).dependents j
holds d (ActiveWithDependents i) =
    not (is_idle_state (entry d i).state) && nat_lt 0 (length (entry d i).dependents)
holds d TooManyDependencies =
    nat_lt MAX_DEPENDENCIES (sum_by (λ e. length e.dependents) (entries d))
holds d TooManyInTransit = nat_lt MAX_IN_TRANSIT (length (transits d))
holds d (BadInTransit i) = not (is_pair (slice_index_or (transits d) i null))
holds d (UnknownInTransit i) =
    not (list_all (is_among (names d)) (texts_of (slice_index_or (transits d) i null)))
holds d fault = false

-- ---- their order

-- the fault at each place of the list
abbrev pub each : {X : Type 0} → List X → (ℕ → DumpFault) → List DumpFault
each xs fault = map fault (range_with_len 0 (length xs))

-- the fault at each dependent, by process and then by its place there
abbrev pub each_dependent : Data → (ℕ → ℕ → DumpFault) → List DumpFault
each_dependent d fault =
    flat_map (λ i. each (entry d i).dependents (fault i)) (range_with_len 0 (length (processes d)))

-- what can be wrong at the top
abbrev pub top_faults : List (List DumpFault)
top_faults = (BadTop ∷ []) ∷ (BadVersion ∷ []) ∷ []

-- what can be wrong with the sites
abbrev pub site_faults : Data → List (List DumpFault)
site_faults d = each (sites d) BadSites ∷ each (sites d) RepeatedSite ∷ (TooManySites ∷ []) ∷ []

-- what can be wrong with the number of processes, and with each process by itself
abbrev pub process_faults : Data → List (List DumpFault)
process_faults d = (TooManyProcesses ∷ []) ∷ each (processes d) BadProcess ∷ []

-- what can be wrong with the names of the processes
abbrev pub name_faults : Data → List (List DumpFault)
name_faults d = each (processes d) RepeatedProcess ∷ []

-- what can be wrong with the sites and the dependents that processes name
abbrev pub entry_faults : Data → List (List DumpFault)
entry_faults d =
    each (processes d) UnknownSite
    ∷ each_dependent d UnknownDependent
    ∷ each_dependent d RepeatedDependent
    ∷ each (processes d) ActiveWithDependents
    ∷ (TooManyDependencies ∷ [])
    ∷ []

-- what can be wrong with the messages in transit
abbrev pub transit_faults : Data → List (List DumpFault)
transit_faults d =
    (TooManyInTransit ∷ []) ∷ each (transits d) BadInTransit ∷ each (transits d) UnknownInTransit ∷ []

-- the table of the faults that a tree can have: a list for each kind, in the order in which they are answered
abbrev pub in_order : Data → List (List DumpFault)
in_order d =
    top_faults ++ site_faults d ++ process_faults d ++ name_faults d ++ entry_faults d ++ transit_faults d

-- the first fault of the lists, one list after the other, that passes the test
abbrev pub first_of : (DumpFault → Bool) → List (List DumpFault) → Option DumpFault
first_of test [] = None
first_of test (faults ∷ rest) = option_or (find test faults) (first_of test rest)

-- ---- the graph

-- a process by indices: its site becomes a place among the names of the sites, and each dependent one among the names
-- of the processes
abbrev pub process_by : List (List ℕ) → List (List ℕ) → Entry → Process
process_by sites names e = record {
  name = e.name;
  site = place_of sites e.site;
  state = e.state;
  dependents = map (place_of names) e.dependents;
}

-- a message in transit by indices: the places of its sender and its receiver among the names of the processes
abbrev pub places_in_pair : List (List ℕ) → Data → ℕ × ℕ
places_in_pair names t =
    (place_of names (slice_index_or (texts_of t) 0 []), place_of names (slice_index_or (texts_of t) 1 []))

-- the graph of the tree: each name in it becomes the place of what has that name
abbrev pub tree_graph : Data → Graph
tree_graph d = record {
  processes = map (process_by (sites d) (names d)) (entries d);
  in_transit = map (places_in_pair (names d)) (transits d);
}

-- ---- the whole

-- what a tree means, or its first fault
unfoldable pub dump_of_tree : Data → Result Graph DumpFault
dump_of_tree d = option_map_or Err (first_of (holds d) (in_order d)) (Ok (tree_graph d))

-- the tree of the bytes, where they are JSON
abbrev pub tree_of : List ℕ → Option Data
tree_of bytes = if is_utf8 bytes then read bytes else None

-- what bytes mean, or their first fault; without a tree they are no JSON
unfoldable pub dump : List ℕ → Result Graph DumpFault
dump bytes =
    if nat_lt MAX_BYTES (length bytes) then Err TooLong
    else option_map_or dump_of_tree (tree_of bytes) (Err NotJson)
