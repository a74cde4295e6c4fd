use Rattle.std.proofs.Common.{length, ap, arith, ◌∙◌}
use Rattle.std.proofs.lemmas.List.{length_push}
use Rattle.cmh_graph.specs.Search.{list_at}
use Rattle.cmh_graph.proofs.PositionLemmas.{empty_more}
use Rattle.cmh_graph.proofs.predecessors.empty_lists.Goals as goal

pub loop-count-init : goal.loop-count-init
loop-count-init c =
    let none = c.in_ok-lists.ensures.items in (ap length none, λ r. ap (λ xs. list_at xs r) none)

pub loop-count-preserved : goal.loop-count-preserved
loop-count-preserved c =
    let more = c.in_ok-push.ensures.items in (
      ap length more
          ∙ omega (arith, length_push c.loop-count.lists.items c.in_ok-room.field-0, c.loop-count.invariant.0),
      λ r. ap (λ xs. list_at xs r) more
          ∙ empty_more c.loop-count.lists.items c.in_ok-room.field-0 c.loop-count.invariant.1
          c.in_ok-room.ensures.items r,
    )

pub returns-clause-size : goal.returns-clause-size
returns-clause-size c = omega (arith, c.loop-count-test.false, c.loop-count.invariant.0)

pub returns-clause-empty : goal.returns-clause-empty
returns-clause-empty c = c.loop-count.invariant.1
