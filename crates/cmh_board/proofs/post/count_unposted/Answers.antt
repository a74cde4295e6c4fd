use Rattle.std.proofs.Common.{◌≤◌, arith, take, get_or, rules}
use Rattle.std.specs.Prelude.{is_none}
use Rattle.std.proofs.lemmas.List.Elements.{Contains-get_or}
use Rattle.std.proofs.lemmas.List.{length-take-le}
use Rattle.cmh_graph.proofs.Verdicts.{idle_within}
use Rattle.cmh_rw.specs.History.{fold_at}
use Rattle.cmh_rw.specs.Seats.{rw_view}
use Rattle.cmh_board.proofs.Lists.{length-filter-le}
use Rattle.cmh_board.proofs.post.count_unposted.Goals as goal

pub is_unposted-requires-clause-process : goal.is_unposted-requires-clause-process
is_unposted-requires-clause-process c =
    let ps = c.args.processes.now in
    let p = get_or ps c.loop-p.p-index 0 in
    let idle = c.requires.idle p (Contains-get_or ps c.loop-p.p-index 0 c.loop-p-test.true) in
    let within = idle_within (rw_view c.args.seat.now).lock.graph p idle in
    let small = c.requires.writer.small in
    omega arith

pub overflow_add-count : goal.overflow_add-count
overflow_add-count c =
    let kept =
    length-filter-le (λ p. is_none (fold_at (rw_view c.args.seat.now).seen p))
    (take c.loop-p.p-index c.args.processes.now) in
    let taken = length-take-le c.loop-p.p-index c.args.processes.now (omega (arith, c.loop-p-test.true)) in
    let few : c.loop-p.count ≤ c.loop-p.p-index = omega (arith, c.loop-p.invariant.2) in
    search rules
