use Rattle.cmh_run.proofs.Common.{◌≡◌, ◌++◌, length}
use Rattle.std.specs.Prelude.{flat_map}
use Rattle.cmh_run.specs.Pending.{EachSends, messages_sent}
use Rattle.cmh_run.proofs.pending.unpack.Given as goal

abbrev pub invariant-loop-sent : goal.invariant-loop-sent
invariant-loop-sent l = record {
  all : l.bag ++ flat_map messages_sent l.queue.items
      ≡ l.fn.bag ++ flat_map messages_sent l.fn.queue.items;
  each : EachSends l.fn.queue.items → EachSends l.queue.items;
}

abbrev pub decreases-loop-sent : goal.decreases-loop-sent
decreases-loop-sent l = length l.queue.items
