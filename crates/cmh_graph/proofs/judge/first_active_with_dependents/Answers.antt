use Rattle.std.proofs.Common.{◌≡◌, ◌∙◌, [], true, false, ap, arith, eqb-true, length, sym}
use Rattle.cmh_graph.specs.Graph.{is_idle_state}
use Rattle.cmh_graph.proofs.PartLemmas.{places_more, row_at, idle_at}
use Rattle.cmh_graph.proofs.judge.first_active_with_dependents.Goals as goal
use Rattle.cmh_graph.proofs.judge.first_active_with_dependents.Goals.{in-Active, in_default, else-matches-via-then-matches+else-not-is_empty, else-matches-via-else-matches}

pub loop-i-preserved : goal.loop-i-preserved
loop-i-preserved c =
    let part = c.index-parts-i.result in
    let row = row_at c.args.parts.now [] c.loop-i.i part c.index-parts-i.is c.loop-i-test.true in
    let idle = idle_at c.args.parts.now [] c.loop-i.i part c.index-parts-i.is c.loop-i-test.true in
    places_more _ _ c.loop-i.invariant (λ h.
    elim c.else-matches.branch [
      | else-matches-via-then-matches+else-not-is_empty w ↦
          let empty = eqb-true part.dependents.len 0 (sym w.if-not-is_empty.ensures) in
          omega (arith, h.0.1, ap length row, empty, part.dependents.ok.0)
      | else-matches-via-else-matches w ↦ elim c.match-matches.branch [
        | in-Active v ↦ let bad : true ≡ false = sym v.matches-is ∙ w.if-matches.false in absurd cc
        | in_default v ↦ let bad : true ≡ false = sym (ap is_idle_state v.in_default.is) ∙ idle ∙ h.1 in absurd cc
      ]
    ])
