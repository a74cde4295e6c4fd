use Rattle.std.proofs.Common.{rules, arith}
use Rattle.cmh_rw.proofs.CountSteps.{counts_in}
use Rattle.cmh_rw.proofs.words.RwWords.store_count.Goals as goal

pub store-requires : goal.store-requires
store-requires c =
    (search rules, omega arith, counts_in _ _ _ _ _ c.requires.writing c.requires.ended c.requires.told c.requires.end)
