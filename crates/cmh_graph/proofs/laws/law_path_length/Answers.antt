use Rattle.cmh_graph.proofs.Ways.{path_length_law}
use Rattle.cmh_graph.proofs.laws.law_path_length.Goals as goal

pub returns : goal.returns
returns c = path_length_law
