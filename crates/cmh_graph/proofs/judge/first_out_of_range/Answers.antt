use Rattle.std.proofs.Common.{◌∙◌, []}
use Rattle.cmh_graph.proofs.PartLemmas.{out_more, row_at}
use Rattle.cmh_graph.proofs.judge.first_out_of_range.Goals as goal

pub loop-i-preserved : goal.loop-i-preserved
loop-i-preserved c =
    let row = c.deref.ensures.value
    ∙ row_at c.args.parts.now [] c.loop-i.i c.index-parts-i.result c.index-parts-i.is c.loop-i-test.true in
    out_more _ _ _ row c.loop-i.invariant c.in_default.ensures.none
