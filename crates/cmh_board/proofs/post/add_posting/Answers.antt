use Rattle.std.proofs.Common.{◌≡◌, ◌<◌, arith, subst, ap, ◌∙◌, length, refl, sym}
use Rattle.std.specs.Prelude.{is_none}
use Rattle.cmh_rw.specs.History.{fold_at}
use Rattle.cmh_rw.specs.Seats.{rw_view}
use Rattle.cmh_rw.proofs.Folds.{true-few}
use Rattle.cmh_board.specs.Board.{unposted_in}
use Rattle.cmh_board.specs.Adding.{OnlyLoads, Stages}
use Rattle.cmh_board.proofs.Lists.{length-filter-le}
use Rattle.cmh_board.proofs.AddingLemmas.{adds_none, adds_rows, staged_ends, staged_told, staged_number}
use Rattle.cmh_board.proofs.post.add_posting.Goals as goal

pub overflow_add-end : goal.overflow_add-end
overflow_add-end c =
    let told = c.load-count.ensures.loaded in
    let seen = (rw_view c.load-count.new.seat).seen in
    let few = true-few (rw_view c.args.seat.now).lock.graph seen told.true_of in
    let small = c.requires.writer.small in
    let count = told.count refl in
    let kept = length-filter-le (λ p. is_none (fold_at seen p)) c.processes-processes.result.now in
    let new = c.count_unposted-new.ensures.count in
    let room = c.processes-processes.type_inv.1 in
    omega arith

pub store_count-requires-clause-ended : goal.store_count-requires-clause-ended
store_count-requires-clause-ended c =
    staged_ends c.verdict.result c.processes-processes.result.now (rw_view c.count_unposted-new.new.seat)
    (rw_view c.stage_rows.new.seat) c.stage_rows.ensures.stages
    (subst (λ l. 0 < length (unposted_in l c.processes-processes.result.now))
    (sym c.count_unposted-new.ensures.loads.seen)
    (omega (arith, c.if-new-gt0.true, c.count_unposted-new.ensures.count)))

pub store_count-requires-clause-told : goal.store_count-requires-clause-told
store_count-requires-clause-told c =
    staged_told c.verdict.result c.processes-processes.result.now (rw_view c.count_unposted-new.new.seat)
    (rw_view c.stage_rows.new.seat) c.stage_rows.ensures.stages

pub store_count-requires-clause-end : goal.store_count-requires-clause-end
store_count-requires-clause-end c =
    let kept = sym c.count_unposted-new.ensures.loads.seen in
    staged_number c.verdict.result c.processes-processes.result.now (rw_view c.count_unposted-new.new.seat)
    (rw_view c.stage_rows.new.seat)
    c.load-count.result c.count_unposted-new.result c.stage_rows.ensures.stages
    (c.load-count.ensures.loaded.count refl ∙ ap length kept)
    (c.count_unposted-new.ensures.count ∙ ap (λ l. length (unposted_in l c.processes-processes.result.now)) kept)

pub returns-then-new-gt0-clause-adds : goal.returns-then-new-gt0-clause-adds
returns-then-new-gt0-clause-adds c =
    let counted = rw_view c.count_unposted-new.new.seat in
    let staged = rw_view c.stage_rows.new.seat in
    let stages = subst (λ d. Stages d c.args.posting.now.processes counted staged) c.verdict.ensures
    (subst (λ ps. Stages c.verdict.result ps counted staged) c.processes-processes.ensures
    c.stage_rows.ensures.stages) in
    let some : 0 < length (unposted_in (rw_view c.load-count.new.seat).seen c.args.posting.now.processes) =
    subst (λ ps. 0 < length (unposted_in (rw_view c.load-count.new.seat).seen ps)) c.processes-processes.ensures
    (omega (arith, c.if-new-gt0.true, c.count_unposted-new.ensures.count)) in
    let loads = subst (λ ps. OnlyLoads (length ps) (rw_view c.load-count.new.seat) counted)
    c.processes-processes.ensures c.count_unposted-new.ensures.loads in
    adds_rows c.args.posting.now (rw_view c.args.seat.now) (rw_view c.load-count.new.seat) counted staged
    (rw_view c.store_count.new.seat)
    c.load-count.result c.requires.can c.load-count.ensures.loaded loads stages
    c.store_count.ensures.posted c.store_count.ensures.posting some

pub returns-else-new-gt0-clause-adds : goal.returns-else-new-gt0-clause-adds
returns-else-new-gt0-clause-adds c =
    let none : length (unposted_in (rw_view c.load-count.new.seat).seen c.args.posting.now.processes) ≡ 0 =
    subst (λ ps. length (unposted_in (rw_view c.load-count.new.seat).seen ps) ≡ 0) c.processes-processes.ensures
    (omega (arith, c.if-new-gt0.false, c.count_unposted-new.ensures.count)) in
    let counted = rw_view c.count_unposted-new.new.seat in
    let loads = subst (λ ps. OnlyLoads (length ps) (rw_view c.load-count.new.seat) counted)
    c.processes-processes.ensures c.count_unposted-new.ensures.loads in
    adds_none c.args.posting.now (rw_view c.args.seat.now) (rw_view c.load-count.new.seat)
    (rw_view c.count_unposted-new.new.seat)
    c.load-count.result c.requires.writer c.requires.can c.load-count.ensures.loaded loads
    none
