use Rattle.std.proofs.Common.{◌≡◌, ◌∙◌, ◌++◌, ◌∷◌, [], ap, arith, drop, length, subst, sym}
use Rattle.std.specs.Prelude.{IfOk}
use Rattle.std.proofs.lemmas.List.{nil_from_length, take_at}
use Rattle.cmh_graph.specs.Search.{MarksEach}
use Rattle.cmh_graph.proofs.ForwardSearch.{dependents_within, pending_within, reach_listed, spreads_end}
use Rattle.cmh_graph.proofs.ListedSearch.{ListsFrom, lists_end, lists_more, lists_start}
use Rattle.cmh_graph.proofs.graph.WaitGraph.reach_from.Goals as goal

pub loop-q-init : goal.loop-q-init
loop-q-init c =
    lists_start _ _ _ _ _
    c.in_ok-marks.ensures.size c.requires c.in_ok-marks.ensures.alone
    (c.in_ok-push.ensures.items ∙ ap (λ xs. xs ++ c.args.p ∷ []) c.new-pending.ensures.items) c.new-list.ensures.items

pub dependents-requires : goal.dependents-requires
dependents-requires c = pending_within _ _ _ _ _ _ c.loop-q.invariant.spreads c.in-Some.ensures.items

pub mark_each-requires : goal.mark_each-requires
mark_each-requires c =
    dependents_within c.args.self.now c.in-Some.q _ _ c.has_no_fault.ensures c.dependents.ensures
    (c.deref_mut.ensures.len ∙ c.loop-q.marks.ok.0 ∙ c.loop-q.invariant.spreads.size)

pub loop-q-preserved : goal.loop-q-preserved
loop-q-preserved c =
    let marks = c.loop-q.marks in
    let new = c.mark_each.new.marks in
    let after = c.mark_each.new.pending.items in
    let written =
    take_at new (drop (length new) marks.items) marks.len (c.mark_each.auto.marks ∙ c.deref_mut.ensures.len) in
    let marked = subst (λ row. MarksEach row marks.items new c.pop.new.self.items after) c.dependents.ensures
    (subst (λ old. MarksEach c.dependents.result.now old new c.pop.new.self.items after) c.deref_mut.ensures.value
    c.in_ok-mark_each.ensures) in
    subst (λ ms. ListsFrom c.args.self.now c.args.p ms after c.push-in-Some.new.self.items) (sym written)
    (lists_more _ _ _ _ _ _ _ _ _ _ c.has_no_fault.ensures c.loop-q.invariant c.in-Some.ensures.items
    c.in_ok-push-2.ensures.items marked)

pub returns-then-len : goal.returns-then-len
returns-then-len c =
    let g = c.args.self.now in
    let marks =
    c.deref.ensures.value
    ∙ spreads_end g c.args.p _ _ c.has_no_fault.ensures.within c.requires
    (nil_from_length _ (omega (arith, c.loop-q.pending.ok.0, c.in_default.ensures.cases.0)))
    c.loop-q.invariant.spreads in
    subst (λ reach. IfOk c.marked_indices.result (λ list. list.items ≡ reach)) (reach_listed g c.args.p _ marks)
    c.marked_indices.ensures

pub returns : goal.returns
returns c =
    lists_end _ _ _ _ _ _ c.has_no_fault.ensures.within c.requires
    (nil_from_length _ (omega (arith, c.loop-q.pending.ok.0, c.in_default.ensures.cases.0))) c.loop-q.invariant
    c.sort_unstable.ensures.permutation c.sort_unstable.ensures.sorted
