use Rattle.cmh_run.proofs.BetweenLemmas.{messages_are_between}
use Rattle.cmh_run.proofs.laws.law_messages_between.Goals as goal

-- the messages of every legal run go between processes of the graph
pub returns : goal.returns
returns c = messages_are_between
