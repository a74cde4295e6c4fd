use Rattle.std.proofs.Common.{◌≡◌, sym, subst, arith}
use Rattle.std.proofs.lemmas.Grind.{common_steps}
use Rattle.cmh_rw.specs.Machine.{new_world, run_from, IsLawful}
use Rattle.cmh_rw.proofs.Lawful.{few_enough, run-snoc, run-lawful, new-lawful}
use Rattle.cmh_rw.proofs.machine.run_events.Goals as goal

pub loop-event-preserved : goal.loop-event-preserved
loop-event-preserved c = grind (arith, common_steps, run-snoc)

pub returns-clause-ok : goal.returns-clause-ok
returns-clause-ok c =
    let is : c.loop-event.world ≡ run_from (new_world c.args.seats) c.args.events.now = grind (arith, common_steps) in
    let few = few_enough c.args.seats c.in_ok-world.ensures.good in
    (is, subst IsLawful (sym is) (run-lawful _ c.args.events.now (new-lawful _ few)).lawful)
