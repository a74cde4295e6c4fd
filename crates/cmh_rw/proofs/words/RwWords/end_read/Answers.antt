use Rattle.std.proofs.Common.{rules, ap, ◌+◌}
use Rattle.cmh_rw.specs.Machine.{reads, retreats}
use Rattle.cmh_rw.proofs.LockSteps.{leaves}
use Rattle.cmh_rw.proofs.words.RwWords.end_read.Goals as goal

pub fetch_sub-requires : goal.fetch_sub-requires
fetch_sub-requires c = (search rules, search rules, leaves _ _ _ _ (ap (λ a. reads a + retreats a) c.requires.reading))
