use Rattle.std.proofs.Common.{◌∙◌, ◌≤◌, ◌+◌, [], ap, arith, drop, length, subst, sym}
use Rattle.std.specs.Prelude.{All}
use Rattle.std.proofs.lemmas.List.{take_at}
use Rattle.cmh_graph.proofs.PartLemmas.{repeat_first, repeat_more, repeat_none, row_at, row_within}
use Rattle.cmh_graph.proofs.judge.first_repeated_dependent.Goals as goal

pub first_repeat-requires-clause-within : goal.first_repeat-requires-clause-within
first_repeat-requires-clause-within c =
    let row = c.deref.ensures.value
    ∙ row_at c.args.parts.now [] c.loop-i.i c.index-parts-i.result c.index-parts-i.is c.loop-i-test.true in
    let size = c.deref_mut.ensures.len ∙ c.loop-i.last_named_by.ok.0 ∙ c.loop-i.invariant.size in
    λ k d l. omega (arith, size, row_within _ _ _ row c.loop-i-test.true c.requires k d l)

pub returns-in-Some-clause-some : goal.returns-in-Some-clause-some
returns-in-Some-clause-some c =
    let row = c.deref.ensures.value
    ∙ row_at c.args.parts.now [] c.loop-i.i c.index-parts-i.result c.index-parts-i.is c.loop-i-test.true in
    repeat_first _ _ _ _ row c.loop-i-test.true c.loop-i.invariant.none c.in-Some.ensures.some

pub loop-i-preserved : goal.loop-i-preserved
loop-i-preserved c =
    let row = c.deref.ensures.value
    ∙ row_at c.args.parts.now [] c.loop-i.i c.index-parts-i.result c.index-parts-i.is c.loop-i-test.true in
    let old = c.loop-i.last_named_by in
    let new = c.first_repeat.new.stamps in
    let same_size = c.first_repeat.auto.stamps ∙ c.deref_mut.ensures.len in
    let written = take_at new (drop (length new) old.items) old.len same_size in
    record {
      size = ap length written ∙ same_size ∙ old.ok.0 ∙ c.loop-i.invariant.size;
      named = subst (All (λ n. n ≤ c.loop-i.i + 1)) (sym written) c.in_default.ensures.stamps;
      none = repeat_more _ _ _ row c.loop-i.invariant.none c.in_default.ensures.none;
    }

pub returns-clause-none : goal.returns-clause-none
returns-clause-none c = repeat_none _ _ c.loop-i-test.false c.loop-i.invariant.none
