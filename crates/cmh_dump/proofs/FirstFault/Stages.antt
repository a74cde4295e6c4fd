-- A tree that is judged stage by stage: its first fault, or the graph that it means.
use Rattle.std.proofs.Common.{◌≡◌, ◌≢◌, ℕ, List, ◌++◌, ◌⊎◌, Option, Some, None, Result, Ok, Err, map, sym, ap, subst, ◌∙◌}
use Rattle.std.specs.Prelude.{option_map}
use Rattle.std.specs.Global.{Vec}
use Rattle.std.specs.Option.{option_map_or}
use Rattle.serde_json.specs.Data.{Data}
use Rattle.cmh_graph.specs.Build as graph
use Rattle.cmh_graph.specs.Graph.{Graph}
use Rattle.cmh_graph.specs.declared.part.Part.{Part}
use Rattle.cmh_graph.specs.declared.fault.GraphFault.{GraphFault}
use Rattle.cmh_graph.specs.declared.fault.GraphFault.TheVariants.{Memory as GraphMemory}
use Rattle.cmh_dump.specs.declared.entry.Entry as declared
use Rattle.cmh_dump.specs.declared.fault.DumpFault.{DumpFault}
use Rattle.cmh_dump.specs.declared.fault.DumpFault.TheVariants.{Memory, BadProcess}
use Rattle.cmh_dump.specs.Dump.{holds, in_order, top_faults, site_faults, process_faults, name_faults, entry_faults, transit_faults, first_of, tree_graph, places_in_pair, process_by, dump_of_tree}
use Rattle.cmh_dump.specs.Entry.{entries, names, sites, transits}
use Rattle.cmh_dump.specs.Read.{entry_view, Builds, without_name, without_names}
use Rattle.cmh_dump.proofs.FirstFault.Kinds.{first_after, first_among}
use Rattle.cmh_dump.proofs.Trees.{map-map}
use Rattle.cmh_dump.proofs.FirstFault.WellFormed.{well_formed, refused_for_memory}

-- the kinds that are judged once sites, processes and their names are read
abbrev pub faults_from_entries : Data → List (List DumpFault)
faults_from_entries d = entry_faults d ++ transit_faults d

-- the kinds that are judged once sites and processes are read
abbrev pub faults_from_names : Data → List (List DumpFault)
faults_from_names d = name_faults d ++ faults_from_entries d

-- the kinds that are judged once the sites are read
abbrev pub faults_from_processes : Data → List (List DumpFault)
faults_from_processes d = process_faults d ++ faults_from_names d

module _ (d : Data) where
  -- the fault of a stage is that of the kinds from the stage on
  pub refused_here : (xs ys : List (List DumpFault)) (e : DumpFault) → (e ≢ Memory → first_of (holds d) xs ≡ Some e)
      → e ≢ Memory → first_of (holds d) (xs ++ ys) ≡ Some e
  refused_here xs ys e h m = first_among (holds d) xs ys e (h m)

  -- where no kind of a stage holds, those after it decide
  pub refused_later : (xs ys : List (List DumpFault)) (e : DumpFault) → first_of (holds d) xs ≡ None
      → (e ≢ Memory → first_of (holds d) ys ≡ Some e) → e ≢ Memory → first_of (holds d) (xs ++ ys) ≡ Some e
  refused_later xs ys e none h m = first_after (holds d) xs ys none ∙ h m

  -- where no fault of the top and none of the sites holds, the kinds after these decide
  pub refused_past_sites : (e : DumpFault) → first_of (holds d) top_faults ≡ None
      → first_of (holds d) (site_faults d) ≡ None
      → (e ≢ Memory → first_of (holds d) (faults_from_processes d) ≡ Some e) → e ≢ Memory
      → first_of (holds d) (in_order d) ≡ Some e
  refused_past_sites e top apart h =
      refused_later top_faults (site_faults d ++ faults_from_processes d) e top
      (refused_later (site_faults d) (faults_from_processes d) e apart h)

  -- the first bad process, if any, or else the fault of the kinds after the processes, is that of both together
  pub refused_or_later : (o : Option ℕ) (e : DumpFault)
      → first_of (holds d) (process_faults d) ≡ option_map BadProcess o
      → (e ≢ Memory → first_of (holds d) (faults_from_names d) ≡ Some e) → option_map_or BadProcess o e ≢ Memory
      → first_of (holds d) (faults_from_processes d) ≡ Some (option_map_or BadProcess o e)
  refused_or_later None e left h = refused_later (process_faults d) (faults_from_names d) e left h
  refused_or_later (Some i) e left h =
      refused_here (process_faults d) (faults_from_names d) (BadProcess i) (λ _. left)

  -- where no kind of a stage holds, an answer that fits the kinds after it fits both together
  pub built_later : (xs ys : List (List DumpFault)) (r : Result (Vec Part × Vec (ℕ × ℕ)) DumpFault)
      → first_of (holds d) xs ≡ None → Builds d ys r → Builds d (xs ++ ys) r
  built_later xs ys (Ok parts) none b = (first_after (holds d) xs ys none ∙ b.0, b.1)
  built_later xs ys (Err e) none b = refused_later xs ys e none b

  -- the first fault in the order of the table refuses the tree
  pub refused : (e : DumpFault) → (e ≢ Memory → first_of (holds d) (in_order d) ≡ Some e) → e ≢ Memory
      → dump_of_tree d ≡ Err e
  unfolding dump_of_tree
  refused e h m = ap (λ o. option_map_or Err o (Ok (tree_graph d))) (h m)

  -- a tree without a fault means its graph
  pub accepted : (g : Graph) → first_of (holds d) (in_order d) ≡ None → g ≡ tree_graph d → dump_of_tree d ≡ Ok g
  unfolding dump_of_tree
  accepted g none is = ap (λ o. option_map_or Err o (Ok (tree_graph d))) none ∙ ap Ok (sym is)

  -- the parts that are made of the entries are the processes of the tree, names apart
  pub processes_are : (parts : List Part) (es : List declared.Entry) (site_names process_names : List (List ℕ))
      → map entry_view es ≡ entries d → site_names ≡ sites d → process_names ≡ names d
      → map graph.process_of parts ≡ map (λ e. without_name (process_by site_names process_names (entry_view e))) es
      → map graph.process_of parts ≡ map (λ e. without_name (process_by (sites d) (names d) e)) (entries d)
  processes_are parts es site_names process_names written are_sites are_names made =
      made
      ∙ (λ i. map (λ e. without_name (process_by (are_sites i) (are_names i) (entry_view e))) es)
      ∙ map-map (λ e. without_name (process_by (sites d) (names d) e)) entry_view es
      ∙ ap (map (λ e. without_name (process_by (sites d) (names d) e))) written

  -- the parts and messages that are read make the graph of the tree, names apart
  pub graph_is : (parts : List Part) (messages : List (ℕ × ℕ)) (es : List declared.Entry)
      (site_names process_names : List (List ℕ)) → map entry_view es ≡ entries d → site_names ≡ sites d
      → process_names ≡ names d
      → map graph.process_of parts ≡ map (λ e. without_name (process_by site_names process_names (entry_view e))) es
      → messages ≡ map (places_in_pair (names d)) (transits d)
      → graph.parts_graph parts messages ≡ without_names (tree_graph d)
  graph_is parts messages es site_names process_names written are_sites are_names made sent =
      let processes = processes_are parts es site_names process_names written are_sites are_names made
      ∙ map-map without_name (process_by (sites d) (names d)) (entries d) in
      λ i. record { processes = processes i; in_transit = sent i }

  -- the graph of a tree without a fault is refused as out of memory alone
  pub refused_for_memory_alone : (g : Graph) (e : GraphFault) → first_of (holds d) (in_order d) ≡ None
      → g ≡ tree_graph d
      → (e ≡ GraphMemory) ⊎ graph.IsFirstGraphFault g e → e ≡ GraphMemory
  refused_for_memory_alone g e none is h =
      refused_for_memory g (subst graph.IsWellFormed (sym is) (well_formed d none)) e h
