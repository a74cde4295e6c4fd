use Rattle.std.proofs.Common.{rules}
use Rattle.cmh_rw.proofs.LockSteps.{write_ends}
use Rattle.cmh_rw.proofs.words.RwWords.end_write.Goals as goal

pub fetch_sub-requires : goal.fetch_sub-requires
fetch_sub-requires c = (search rules, search rules, write_ends _ _ _ _ c.requires.writing c.requires.counted)
