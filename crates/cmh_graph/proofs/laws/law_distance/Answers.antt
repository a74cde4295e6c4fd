use Rattle.cmh_graph.proofs.Ways.{distance_law}
use Rattle.cmh_graph.proofs.laws.law_distance.Goals as goal

pub returns : goal.returns
returns c = distance_law
