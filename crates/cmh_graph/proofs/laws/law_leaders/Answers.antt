use Rattle.cmh_graph.proofs.Groups.{leaders_rise, leaders_lead}
use Rattle.cmh_graph.proofs.laws.law_leaders.Goals as goal

pub returns-clause-rise : goal.returns-clause-rise
returns-clause-rise c = leaders_rise

pub returns-clause-lead : goal.returns-clause-lead
returns-clause-lead c = leaders_lead
