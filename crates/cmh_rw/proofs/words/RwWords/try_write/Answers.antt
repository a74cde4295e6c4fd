use Rattle.std.proofs.Common.{rules}
use Rattle.cmh_rw.proofs.LockSteps.{takes_lock}
use Rattle.cmh_rw.proofs.words.RwWords.try_write.Goals as goal

pub compare_exchange-found-requires : goal.compare_exchange-found-requires
compare_exchange-found-requires c = (search rules, search rules, takes_lock _ _ _ _ c.requires.away)
