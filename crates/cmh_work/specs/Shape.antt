-- What a record shows of its process, and what that is read from.
use Rattle.std.specs.Prelude.{◌≡◌, ℕ, List, map, Some}
use Rattle.cmh_graph.specs.declared.verdict.Verdict.{Verdict}
use Rattle.cmh_graph.specs.declared.verdict.Verdict.TheVariants.{Deadlocked, Free}
use Rattle.cmh_graph.specs.Graph.{Graph, indices}
use Rattle.cmh_graph.specs.ChosenPath.{distance_of, chosen_path}
use Rattle.cmh_graph.specs.Alone.{AreAlone}
use Rattle.cmh_graph.specs.Core.{leader_of}
use Rattle.cmh_graph.specs.Search.{ArePredecessors}
use Rattle.cmh_work.specs.declared.record.Shape.{Shape}
use Rattle.cmh_work.specs.declared.record.Shape.TheVariants.{Path, Leader}
use Rattle.cmh_work.specs.declared.shapes.Shapes.{Shapes}

-- a free process has its chosen path, kept in a list, and a deadlocked one the leader of its group
abbrev pub IsShape : {L : Type 0} → (L → List ℕ) → Graph → ℕ → Verdict → Shape L → Type 0
IsShape listed g p Free (Path path) = chosen_path g p ≡ Some (listed path)
IsShape listed g p Deadlocked (Leader leader) = leader ≡ leader_of g p
IsShape listed g p Free (Leader leader) = ⊥
IsShape listed g p Deadlocked (Path path) = ⊥

-- the predecessors and distances of all processes of this graph, and marks of processes that are a core alone
pub record AreShapesOf (g : Graph) (shapes : Shapes) : Type 0 where
  pub predecessors : ArePredecessors g shapes.predecessors
  pub distances : shapes.distances.items ≡ map (distance_of g) (indices g)
  pub alone : AreAlone g shapes.alone.items
