use Rattle.std.proofs.Common.{rules, ◌≡◌, ◌<◌, ◌+◌, ◌∙◌, [], arith, drop, length, refl, subst, sym}
use Rattle.std.proofs.lemmas.List.{take_at}
use Rattle.cmh_graph.specs.Search.{is_marked, Numbers, IsNamedBy}
use Rattle.cmh_graph.proofs.LevelSearch.{StepsUpTo, steps_start, steps_more, steps_end, level_below, level_listed, listed_within}
use Rattle.cmh_graph.proofs.graph.WaitGraph.steps_to.Goals as goal

pub marked_indices-requires : goal.marked_indices-requires
marked_indices-requires c = omega (arith, c.requires.size, c.has_no_fault.ensures.processes)

pub loop-alloc-init : goal.loop-alloc-init
loop-alloc-init c =
    let g = c.args.self.now in
    let marks = c.args.marks.now in
    steps_start g marks _ _ c.has_no_fault.ensures.within c.requires.size c.in_ok-distances.ensures
    c.in_ok-level.ensures

pub overflow_add-distance : goal.overflow_add-distance
overflow_add-distance c =
    let some : 0 < length c.loop-alloc.level.items = search rules in
    omega (arith, level_below _ _ _ _ _ some c.loop-alloc.invariant, c.has_no_fault.ensures.processes)

pub next_level-requires-clause-listed : goal.next_level-requires-clause-listed
next_level-requires-clause-listed c =
    level_listed _ _ _ _ _ _ _ c.requires.known c.loop-alloc.invariant c.deref.ensures.value

pub next_level-requires-clause-within : goal.next_level-requires-clause-within
next_level-requires-clause-within c =
    λ q. listed_within c.args.self.now _ q _ _ c.requires.known refl
    (c.deref_mut.ensures.len ∙ c.loop-alloc.distances.ok.0 ∙ c.loop-alloc.invariant.size)

pub loop-alloc-smaller : goal.loop-alloc-smaller
loop-alloc-smaller c =
    let some : 0 < length c.loop-alloc.level.items = search rules in
    omega (arith, level_below _ _ _ _ _ some c.loop-alloc.invariant)

pub loop-alloc-preserved : goal.loop-alloc-preserved
loop-alloc-preserved c =
    let g = c.args.self.now in
    let test = is_marked c.args.marks.now in
    let old = c.loop-alloc.distances in
    let level = c.in_ok-level-2.level.items in
    let distance = c.loop-alloc.distance in
    let predecessors = c.args.predecessors.now in
    let new = c.next_level.new.distances in
    let written =
    take_at new (drop (length new) old.items) old.len (c.next_level.auto.distances ∙ c.deref_mut.ensures.len) in
    let numbers =
    subst (λ ds. Numbers (IsNamedBy predecessors c.loop-alloc.level.items) (distance + 1) ds new [] level)
    c.deref_mut.ensures.value
    (subst (λ ls. Numbers (IsNamedBy predecessors ls) (distance + 1) c.deref_mut.result.now new [] level)
    c.deref.ensures.value c.in_ok-level-2.ensures) in
    subst (λ xs. StepsUpTo g test (distance + 1) xs level) (sym written)
    (steps_more _ _ _ _ _ _ _ _ _ c.has_no_fault.ensures.within c.requires.known
    (omega arith) c.loop-alloc.invariant numbers)

pub returns : goal.returns
returns c =
    let none : length c.loop-alloc.level.items ≡ 0 = search rules in
    steps_end _ _ _ _ _ c.has_no_fault.ensures.within none c.loop-alloc.invariant
