use Rattle.std.proofs.Common.{arith, ap}
use Rattle.std.specs.Prelude.{length}
use Rattle.cmh_graph.specs.Verdict.{verdict}
use Rattle.cmh_graph.proofs.IndexLists.{by_index, length-by_index}
use Rattle.cmh_tests.proofs.rw.posting.verdict_of.Goals as goal

pub bounds-all-p : goal.bounds-all-p
bounds-all-p c = let g = c.args.graph.now in omega (arith, ap length c.requires.all, length-by_index g (verdict g))

pub returns : goal.returns
returns c =
    let g = c.args.graph.now in by_index g (verdict g) c.args.all.now c.args.p _ c.requires.all c.requires.within
