use Rattle.cmh_graph.proofs.Cores.{core_law}
use Rattle.cmh_graph.proofs.laws.law_core.Goals as goal

pub returns : goal.returns
returns c = core_law
