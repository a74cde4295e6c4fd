use Rattle.cmh_graph.proofs.Groups.{rising_law}
use Rattle.cmh_graph.proofs.laws.law_rising.Goals as goal

pub returns : goal.returns
returns c = rising_law
