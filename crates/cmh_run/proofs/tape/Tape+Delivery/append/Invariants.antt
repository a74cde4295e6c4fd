use Rattle.cmh_run.proofs.Common.{[], ◌∷◌, ◌++◌}
use Rattle.cmh_run.proofs.tape.Tape+Delivery.append.Given as goal

-- the deliveries of the old tape, and then this one
abbrev pub ghost-picked : goal.ghost-picked
ghost-picked a = a._by.now.0.now.items ++ a._by.now.1.now ∷ []
