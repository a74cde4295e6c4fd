use Rattle.cmh_graph.proofs.Verdicts.{closed_set_law}
use Rattle.cmh_graph.proofs.laws.law_closed_set.Goals as goal

pub returns : goal.returns
returns c = closed_set_law
