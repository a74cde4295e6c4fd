use Rattle.cmh_plan.proofs.DrawnNumbers.{drew_each_once}
use Rattle.cmh_plan.proofs.laws.law_drew_each_once.Goals as goal

pub returns : goal.returns
returns c = drew_each_once
