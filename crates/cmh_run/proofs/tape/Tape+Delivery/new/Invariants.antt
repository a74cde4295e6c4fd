use Rattle.cmh_run.proofs.Common.{[]}
use Rattle.cmh_run.proofs.tape.Tape+Delivery.new.Given as goal

-- the tape before the first delivery has none
abbrev pub ghost-picked : goal.ghost-picked
ghost-picked a = []
