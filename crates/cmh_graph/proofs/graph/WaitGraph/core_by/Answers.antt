use Rattle.std.proofs.Common.{◌∙◌, ◌++◌, ◌∷◌, [], ap, arith, drop, length, subst, sym}
use Rattle.std.specs.Prelude.{filter}
use Rattle.std.proofs.lemmas.List.{nil_from_length, take_at}
use Rattle.cmh_graph.specs.Path.{reaches}
use Rattle.cmh_graph.specs.Search.{is_marked, MarksEach}
use Rattle.cmh_graph.proofs.IndexLists.{length-by_index}
use Rattle.cmh_graph.proofs.BackwardSearch.{ReturnsTo, returning_within, returns_end, returns_more, returns_start}
use Rattle.cmh_graph.proofs.LevelSearch.{listed_within}
use Rattle.cmh_graph.proofs.graph.WaitGraph.core_by.Goals as goal

pub at-requires : goal.at-requires
at-requires c =
    omega (arith, returning_within _ _ _ _ _ _ _ c.loop-q.invariant c.in-Some.ensures.items, c.requires.known.size)

pub mark_each_within-requires-clause-listed : goal.mark_each_within-requires-clause-listed
mark_each_within-requires-clause-listed c =
    listed_within c.args.self.now c.args.predecessors.now c.in-Some.q _ _ c.requires.known c.at.ensures
    (c.deref_mut.ensures.len ∙ c.loop-q.marks.ok.0 ∙ c.loop-q.invariant.size)

pub mark_each_within-requires-clause-alike : goal.mark_each_within-requires-clause-alike
mark_each_within-requires-clause-alike c =
    let g = c.args.self.now in
    ap length (c.deref.ensures.value ∙ c.in_ok-reached.ensures) ∙ length-by_index g (reaches g c.args.p)
    ∙ sym (c.deref_mut.ensures.len ∙ c.loop-q.marks.ok.0 ∙ c.loop-q.invariant.size)

pub loop-q-preserved : goal.loop-q-preserved
loop-q-preserved c =
    let old = c.loop-q.marks in
    let new = c.mark_each_within.new.marks in
    let after = c.mark_each_within.new.pending.items in
    let reached = c.deref.result.now in
    let written =
    take_at new (drop (length new) old.items) old.len (c.mark_each_within.auto.marks ∙ c.deref_mut.ensures.len) in
    let marked =
    subst (λ list. MarksEach (filter (is_marked reached) list) old.items new c.pop.new.self.items after)
    c.at.ensures
    (subst (λ marks. MarksEach (filter (is_marked reached) c.at.result.now) marks new c.pop.new.self.items after)
    c.deref_mut.ensures.value c.in_ok-mark_each_within.ensures) in
    subst (λ marks. ReturnsTo c.args.self.now c.args.p marks after c.push-in-Some.new.self.items) (sym written)
    (returns_more _ _ _ _ _ _ _ _ _ _ _ _ c.has_no_fault.ensures.within c.requires.within c.requires.known
    (c.deref.ensures.value ∙ c.in_ok-reached.ensures) c.loop-q.invariant c.in-Some.ensures.items
    c.in_ok-push-2.ensures.items marked)

pub loop-q-init : goal.loop-q-init
loop-q-init c =
    returns_start _ _ _ _ _
    c.in_ok-marks.ensures.size c.requires.within c.in_ok-marks.ensures.alone
    (c.in_ok-push.ensures.items ∙ ap (λ xs. xs ++ c.args.p ∷ []) c.new-pending.ensures.items) c.new-core.ensures.items

pub returns : goal.returns
returns c =
    returns_end _ _ _ _ _ _ c.has_no_fault.ensures.within c.requires.within
    (nil_from_length _ (omega (arith, c.loop-q.pending.ok.0, c.in_default.ensures.cases.0))) c.loop-q.invariant
    c.sort_unstable.ensures.permutation c.sort_unstable.ensures.sorted
