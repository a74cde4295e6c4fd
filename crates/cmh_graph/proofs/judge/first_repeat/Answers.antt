use Rattle.std.proofs.Common.{◌≤◌, arith}
use Rattle.std.proofs.lemmas.List.Elements.{All-set}
use Rattle.cmh_graph.proofs.PartLemmas.{first_place, seen_none, stamp_more, stamp_repeat}
use Rattle.cmh_graph.proofs.judge.first_repeat.Goals as goal

pub loop-j-init : goal.loop-j-init
loop-j-init c = (seen_none _ _ _ c.requires.fresh, λ k d l. let below = c.requires.fresh k d l in omega (arith, below))

pub returns-then-stamps-dependent-clause-some : goal.returns-then-stamps-dependent-clause-some
returns-then-stamps-dependent-clause-some c =
    let within = c.requires.within c.loop-j.j 0 c.loop-j-test.true in
    first_place _ _ c.loop-j.invariant.0.none
    (stamp_repeat _ _ _ _ c.loop-j-test.true
    (omega (arith, within, c.loop-j.auto.stamps)) c.loop-j.invariant.0 c.if-stamps-dependent.true)

pub loop-j-preserved : goal.loop-j-preserved
loop-j-preserved c =
    let within = c.requires.within c.loop-j.j 0 c.loop-j-test.true in (
      stamp_more _ _ _ _ c.loop-j-test.true
          (omega (arith, within, c.loop-j.auto.stamps)) c.loop-j.invariant.0 c.if-stamps-dependent.false,
      All-set (λ s. s ≤ c.args.stamp) _ _ _ (omega arith) c.loop-j.invariant.1,
    )

pub returns-clause-none : goal.returns-clause-none
returns-clause-none c = λ j h. c.loop-j.invariant.0.none j (omega (arith, h.0, c.loop-j-test.false)) h
