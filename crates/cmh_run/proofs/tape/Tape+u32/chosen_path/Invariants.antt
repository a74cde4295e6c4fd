use Rattle.cmh_run.proofs.Common.{[], unwrap_or, chosen_path}
use Rattle.cmh_run.proofs.tape.Tape+u32.chosen_path.Given as goal

-- the chosen path, or nothing
abbrev pub ghost-picked : goal.ghost-picked
ghost-picked a = unwrap_or (chosen_path a._by.now.0.now a._by.now.1.now) []
