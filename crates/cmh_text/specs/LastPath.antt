-- The path of the last free process, whose line the next one may end with too.
use Rattle.std.specs.Prelude.{◌≡◌, ℕ, slice_get, Some}
use Rattle.cmh_graph.specs.ChosenPath.{chosen_path}
use Rattle.cmh_text.specs.Summary.{AreSummariesOf}
use Rattle.cmh_text.specs.declared.paths.LastPath.TheInside.{Inside}

-- summaries and names are of the graph, and a list that isn't empty is the chosen path of its first process
pub record IsPathByFirst (last : Inside) : Type 0 where
  pub names : last.names.graph ≡ last.graph.now
  pub summaries : AreSummariesOf last.graph.now last.summaries.now
  pub path : (q : ℕ) → slice_get last.names.list 0 ≡ Some q → chosen_path last.graph.now q ≡ Some last.names.list
