use Rattle.cmh_run.proofs.DeliveryBound.{deliveries_are_bounded}
use Rattle.cmh_run.proofs.laws.law_delivery_bound.Goals as goal

pub returns : goal.returns
returns c = deliveries_are_bounded
