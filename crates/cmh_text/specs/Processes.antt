-- Some processes of a wait graph.
use Rattle.std.specs.Prelude.{ℕ, List}
use Rattle.cmh_graph.specs.Graph.{Graph}

-- a list of processes, and their graph
pub record Processes : Type 0 where
  pub graph : Graph
  pub list : List ℕ
