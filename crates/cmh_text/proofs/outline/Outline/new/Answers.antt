use Rattle.std.proofs.Common.{arith}
use Rattle.cmh_text.proofs.Counts.{active_and_idle, totals_by_counts}
use Rattle.cmh_text.proofs.outline.Outline.new.Goals as goal

pub returns : goal.returns
returns c =
    let same =
    totals_by_counts c.args.graph.now _ _ _ _ c.len-all.ensures.count c.requires.idle
    (omega (arith, active_and_idle, c.requires.idle)) c.requires.deadlocked in
    record {
      totals = rw (← same) c.in_ok-totals.ensures;
      deadlocked = c.requires.deadlocked;
      groups = c.in_ok-groups.ensures;
    }
