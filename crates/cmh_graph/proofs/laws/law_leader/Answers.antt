use Rattle.cmh_graph.proofs.Groups.{leader_law}
use Rattle.cmh_graph.proofs.laws.law_leader.Goals as goal

pub returns : goal.returns
returns c = leader_law
