use Rattle.std.proofs.Common.{refl}
use Rattle.cmh_dump.specs.Read.{entry_view}
use Rattle.cmh_dump.proofs.Taken.{seen-next}
use Rattle.cmh_dump.proofs.entry.names_of.Goals as goal

pub loop-entry-preserved : goal.loop-entry-preserved
loop-entry-preserved c =
    seen-next (λ name. name.now) (λ e. (entry_view e).name) c.loop-entry.names.items c.push.new.self.items
    c.entry-item.result.name c.args.entries.now c.loop-entry.entry-index c.entry-item.result
    c.in_ok-push.ensures.items c.loop-entry.invariant refl c.loop-entry-test.true c.entry-item.is
