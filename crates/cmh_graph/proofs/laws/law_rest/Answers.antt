use Rattle.cmh_graph.proofs.Groups.{rest_law}
use Rattle.cmh_graph.proofs.laws.law_rest.Goals as goal

pub returns : goal.returns
returns c = rest_law
