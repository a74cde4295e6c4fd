use Rattle.std.proofs.Common.{◌<◌, rules, arith}
use Rattle.cmh_graph.specs.declared.TheConstants.{MAX_PROCESSES}
use Rattle.cmh_rw.proofs.StoreSteps.{tells}
use Rattle.cmh_rw.proofs.Room.{verdict_has_word}
use Rattle.cmh_rw.proofs.words.RwWords.store_verdict.Goals as goal

pub store-requires : goal.store-requires
store-requires c = let s = c.args.seat.now in let wide = c.args.self.now.wide in
    let low : c.args.p < MAX_PROCESSES = verdict_has_word s.seat.me.0 c.args.p c.args.verdict c.requires.says s.fits in
    rw c.verdict_code.ensures
    (search rules, omega arith, tells _ _ _ c.args.p c.args.verdict _ c.requires.writing c.requires.says low)
