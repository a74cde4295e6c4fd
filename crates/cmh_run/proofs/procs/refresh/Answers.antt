use Rattle.cmh_run.proofs.Common.{◌∙◌, ◌<◌, get_or, length, length-set, new_proc, take}
use Rattle.std.proofs.lemmas.List.{take_all, take_more}
use Rattle.std.proofs.lemmas.List.Elements.{All-get_or}
use Rattle.cmh_run.proofs.TouchedProcesses.{one_fresh}
use Rattle.cmh_run.proofs.procs.refresh.Goals as goal

pub loop-k-preserved : goal.loop-k-preserved
loop-k-preserved c =
    let which = c.args.which.now in
    let k = get_or which c.loop-k.k-index 0 in
    let within : k < length c.loop-k.all.items = rw c.loop-k.invariant.size
    (All-get_or (λ j. j < length c.args.all.now.items) which c.loop-k.k-index 0 c.loop-k-test.true c.requires) in
    rw c.new.ensures (record {
      size = length-set c.loop-k.all.items k new_proc ∙ c.loop-k.invariant.size;
      fresh = rw (take_more which c.loop-k.k-index 0 c.loop-k-test.true)
          (one_fresh (take c.loop-k.k-index which) c.args.all.now.items c.loop-k.all.items k
          c.loop-k.invariant.fresh within);
    })

pub returns-clause-fresh : goal.returns-clause-fresh
returns-clause-fresh c =
    rw (take_all c.loop-k.k-index c.args.which.now c.loop-k-test.false) at c.loop-k.invariant.fresh
