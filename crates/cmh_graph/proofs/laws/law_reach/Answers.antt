use Rattle.cmh_graph.proofs.PathLemmas.{reach_law}
use Rattle.cmh_graph.proofs.laws.law_reach.Goals as goal

pub returns : goal.returns
returns c = reach_law
