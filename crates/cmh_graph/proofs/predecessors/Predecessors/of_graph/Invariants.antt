use Rattle.cmh_graph.proofs.PositionLemmas.{PredecessorsBelow}
use Rattle.cmh_graph.proofs.predecessors.Predecessors.of_graph.Given as goal

abbrev pub invariant-loop-p : goal.invariant-loop-p
invariant-loop-p l = PredecessorsBelow l.graph l.p l.lists.items
