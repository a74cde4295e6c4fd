use Rattle.cmh_graph.proofs.BuildLemmas.{well_formed_law}
use Rattle.cmh_graph.proofs.laws.law_well_formed.Goals as goal

pub returns : goal.returns
returns c = well_formed_law
