use Rattle.cmh_run.proofs.Soundness.{runs_are_sound}
use Rattle.cmh_run.proofs.laws.law_runs_sound.Goals as goal

pub returns : goal.returns
returns c = runs_are_sound
