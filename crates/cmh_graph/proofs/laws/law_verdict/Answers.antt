use Rattle.cmh_graph.proofs.Verdicts.{verdict_law}
use Rattle.cmh_graph.proofs.laws.law_verdict.Goals as goal

pub returns : goal.returns
returns c = verdict_law
