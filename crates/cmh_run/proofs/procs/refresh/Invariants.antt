use Rattle.std.specs.Prelude.{◌≡◌, length, take}
use Rattle.cmh_run.specs.Procs.{AreFresh}
use Rattle.cmh_run.proofs.procs.refresh.Given as goal

abbrev pub invariant-loop-k : goal.invariant-loop-k
invariant-loop-k l = record {
  size : length l.all.items ≡ length l.fn.all.items;
  fresh : AreFresh (take l.k-index l.which) l.fn.all.items l.all.items;
}
