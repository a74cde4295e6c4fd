use Rattle.std.proofs.Common.{◌∙◌, arith, drop, length, subst, sym}
use Rattle.std.proofs.lemmas.List.{nil_from_length, take_at}
use Rattle.cmh_graph.specs.Search.{MarksEach, SpreadsFrom}
use Rattle.cmh_graph.proofs.ForwardSearch.{dependents_within, pending_within, spreads_end, spreads_more}
use Rattle.cmh_graph.proofs.graph.WaitGraph.spread.Goals as goal

pub dependents-requires : goal.dependents-requires
dependents-requires c = pending_within _ _ _ _ _ _ c.loop-q.invariant c.in-Some.ensures.items

pub mark_each-requires : goal.mark_each-requires
mark_each-requires c =
    dependents_within c.args.self.now c.in-Some.q _ _ c.has_no_fault.ensures c.dependents.ensures
    (c.deref_mut.ensures.len ∙ c.loop-q.marks.ok.0 ∙ c.loop-q.invariant.size)

pub loop-q-preserved : goal.loop-q-preserved
loop-q-preserved c =
    let marks = c.loop-q.marks in
    let new = c.mark_each.new.marks in
    let after = c.mark_each.new.pending.items in
    let written =
    take_at new (drop (length new) marks.items) marks.len (c.mark_each.auto.marks ∙ c.deref_mut.ensures.len) in
    let marked = subst (λ row. MarksEach row marks.items new c.pop.new.self.items after) c.dependents.ensures
    (subst (λ old. MarksEach c.dependents.result.now old new c.pop.new.self.items after) c.deref_mut.ensures.value
    c.in_ok-mark_each.ensures) in
    subst (λ ms. SpreadsFrom c.args.self.now c.args.p ms after) (sym written)
    (spreads_more _ _ _ _ _ _ _ _ c.has_no_fault.ensures c.loop-q.invariant c.in-Some.ensures.items marked)

pub returns-clause-marks : goal.returns-clause-marks
returns-clause-marks c =
    spreads_end _ _ _ _ c.has_no_fault.ensures.within c.requires.within
    (nil_from_length _ (omega (arith, c.loop-q.pending.ok.0, c.in_default.ensures.cases.0))) c.loop-q.invariant
