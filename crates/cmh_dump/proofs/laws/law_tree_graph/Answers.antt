use Rattle.cmh_dump.proofs.FirstFault.Laws.{tree_graph_law}
use Rattle.cmh_dump.proofs.laws.law_tree_graph.Goals as goal

pub returns : goal.returns
returns c = tree_graph_law
