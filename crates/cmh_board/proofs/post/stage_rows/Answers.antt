use Rattle.std.proofs.Common.{◌≡◌, ℕ, ◌+◌, arith, sym, subst, ◌∙◌, true, false, length, get_or, eqb}
use Rattle.std.proofs.lemmas.List.Elements.{Contains-get_or}
use Rattle.cmh_graph.proofs.Verdicts.{idle_within}
use Rattle.cmh_rw.specs.declared.words.RwSeat.{RwSeat}
use Rattle.cmh_rw.specs.Seats.{rw_view, IsSeatOf}
use Rattle.cmh_board.specs.Board.{unposted_in}
use Rattle.cmh_board.proofs.StagedRows.{Staging, found_new, below_end, next_number, can_stage, can_tell, is_last, staging-old, staging-new}
use Rattle.cmh_board.proofs.post.stage_rows.Goals as goal
use Rattle.cmh_board.proofs.post.stage_rows.Goals.{then-is_unposted, else-is_unposted}

pub is_unposted-requires-clause-process : goal.is_unposted-requires-clause-process
is_unposted-requires-clause-process c =
    let ps = c.args.processes.now in
    let p = get_or ps c.loop-p.p-index 0 in
    let idle = c.requires.can.idle p (Contains-get_or ps c.loop-p.p-index 0 c.loop-p-test.true) in
    let within = idle_within (rw_view c.args.seat.now).lock.graph p idle in
    let small = c.requires.writer.small in
    omega arith

pub overflow_add-n : goal.overflow_add-n
overflow_add-n c =
    let v = rw_view c.args.seat.now in
    let w = rw_view c.loop-p.seat in
    let ps = c.args.processes.now in
    let i = c.loop-p.p-index in
    let staging = c.loop-p.invariant.1 in
    let new =
    found_new v c.args.verdict ps i w c.loop-p.n true staging c.requires.can.once c.loop-p-test.true
    (sym c.if-is_unposted.true ∙ c.is_unposted.ensures.answer) in
    let end : c.args.end ≡ length v.seen + length (unposted_in v.seen ps) =
    omega (arith, c.requires.end, c.requires.count) in
    let low = below_end v c.args.verdict ps i w c.loop-p.n c.args.end staging c.loop-p-test.true new end in
    let fits = c.ranges.end in
    omega arith

pub store_row-requires-clause-end : goal.store_row-requires-clause-end
store_row-requires-clause-end c =
    let v = rw_view c.args.seat.now in
    let w = rw_view c.loop-p.seat in
    let ps = c.args.processes.now in
    let i = c.loop-p.p-index in
    let staging = c.loop-p.invariant.1 in
    let new =
    found_new v c.args.verdict ps i w c.loop-p.n true staging c.requires.can.once c.loop-p-test.true
    (sym c.if-is_unposted.true ∙ c.is_unposted.ensures.answer) in
    next_number v c.args.verdict ps i w
    (rw_view c.is_unposted.new.seat) c.loop-p.n staging c.loop-p-test.true new c.is_unposted.ensures.loads

pub store_row-requires-clause-can : goal.store_row-requires-clause-can
store_row-requires-clause-can c =
    let v = rw_view c.args.seat.now in
    let w = rw_view c.loop-p.seat in
    let ps = c.args.processes.now in
    let i = c.loop-p.p-index in
    let staging = c.loop-p.invariant.1 in
    let new =
    found_new v c.args.verdict ps i w c.loop-p.n true staging c.requires.can.once c.loop-p-test.true
    (sym c.if-is_unposted.true ∙ c.is_unposted.ensures.answer) in
    can_stage v c.args.verdict ps i w (rw_view c.is_unposted.new.seat) c.loop-p.n
    (eqb (c.loop-p.n + 1) c.args.end) staging c.requires.can c.loop-p-test.true new c.is_unposted.ensures.loads

pub store_verdict-requires-clause-says : goal.store_verdict-requires-clause-says
store_verdict-requires-clause-says c =
    let v = rw_view c.args.seat.now in
    let w = rw_view c.loop-p.seat in
    let ps = c.args.processes.now in
    let i = c.loop-p.p-index in
    let staging = c.loop-p.invariant.1 in
    let new =
    found_new v c.args.verdict ps i w c.loop-p.n true staging c.requires.can.once c.loop-p-test.true
    (sym c.if-is_unposted.true ∙ c.is_unposted.ensures.answer) in
    can_tell v c.args.verdict ps i w (rw_view c.is_unposted.new.seat) c.loop-p.n
    (eqb (c.loop-p.n + 1) c.args.end) staging c.requires.can.once c.loop-p-test.true new c.is_unposted.ensures.loads
    (rw_view c.store_row.new.seat) c.store_row.ensures.staged

pub overflow_add-n-then-is_unposted : goal.overflow_add-n-then-is_unposted
overflow_add-n-then-is_unposted c =
    let v = rw_view c.args.seat.now in
    let w = rw_view c.loop-p.seat in
    let ps = c.args.processes.now in
    let i = c.loop-p.p-index in
    let staging = c.loop-p.invariant.1 in
    let new =
    found_new v c.args.verdict ps i w c.loop-p.n true staging c.requires.can.once c.loop-p-test.true
    (sym c.if-is_unposted.true ∙ c.is_unposted.ensures.answer) in
    let end : c.args.end ≡ length v.seen + length (unposted_in v.seen ps) =
    omega (arith, c.requires.end, c.requires.count) in
    let low = below_end v c.args.verdict ps i w c.loop-p.n c.args.end staging c.loop-p-test.true new end in
    let fits = c.ranges.end in
    omega arith

-- the invariant at the next process
abbrev Next : goal.Joined-is_unposted → RwSeat → ℕ → Type 0
Next c seat n =
    IsSeatOf c.args.words.now seat
    × Staging (rw_view c.args.seat.now) c.args.verdict c.args.processes.now (c.loop-p.p-index + 1) (rw_view seat) n

pub loop-p-preserved : goal.loop-p-preserved
loop-p-preserved c = elim c.if-is_unposted.branch [
  | then-is_unposted w ↦
      let v = rw_view c.args.seat.now in
      let now = rw_view c.loop-p.seat in
      let ps = c.args.processes.now in
      let d = c.args.verdict in
      let i = c.loop-p.p-index in
      let staging = c.loop-p.invariant.1 in
      let new =
      found_new v d ps i now c.loop-p.n true staging c.requires.can.once c.loop-p-test.true
      (sym w.if-is_unposted.true ∙ c.is_unposted.ensures.answer) in
      let end : c.args.end ≡ length v.seen + length (unposted_in v.seen ps) =
      omega (arith, c.requires.end, c.requires.count) in
      let staged =
      staging-new v d ps i now (rw_view c.is_unposted.new.seat) (rw_view w.store_row.new.seat)
      (rw_view w.store_verdict.new.seat) c.loop-p.n
      (eqb (c.loop-p.n + 1) c.args.end) staging c.loop-p-test.true new c.is_unposted.ensures.loads
      w.store_row.ensures.staged w.store_verdict.ensures.told
      (is_last v d ps i now c.loop-p.n c.args.end staging c.loop-p-test.true new end) in
      subst (λ s. Next c s c.if-is_unposted.n) (sym w.seat-is)
      (subst (λ n. Next c w.store_verdict.new.seat n) (sym w.n-is) (w.store_verdict.ensures.own, staged))
  | else-is_unposted w ↦
      let v = rw_view c.args.seat.now in
      let now = rw_view c.loop-p.seat in
      let ps = c.args.processes.now in
      let d = c.args.verdict in
      let i = c.loop-p.p-index in
      let staging = c.loop-p.invariant.1 in
      let old =
      found_new v d ps i now c.loop-p.n false staging c.requires.can.once c.loop-p-test.true
      (sym w.if-is_unposted.false ∙ c.is_unposted.ensures.answer) in
      let passed =
      staging-old v d ps i now
      (rw_view c.is_unposted.new.seat) c.loop-p.n staging c.loop-p-test.true old c.is_unposted.ensures.loads in
      subst (λ s. Next c s c.if-is_unposted.n) (sym w.seat-is)
      (subst (λ n. Next c c.is_unposted.new.seat n) (sym w.n-is) (c.is_unposted.ensures.own, passed))
]
