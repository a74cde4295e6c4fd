use Rattle.cmh_plan.proofs.DrawnNumbers.{drawn_once}
use Rattle.cmh_plan.proofs.laws.law_drawn_once.Goals as goal

pub returns : goal.returns
returns c = drawn_once
