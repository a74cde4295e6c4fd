use Rattle.std.proofs.Common.{refl, subst}
use Rattle.cmh_graph.specs.Verdict.{IsDeadlocked, IsVerdict}
use Rattle.cmh_graph.proofs.ChosenPathLemmas.{way_out}
use Rattle.cmh_work.proofs.shapes.Shapes.shape_of.Goals as goal

pub path_by-requires-clause-some : goal.path_by-requires-clause-some
path_by-requires-clause-some g c =
    let free : ¬ (IsDeadlocked c.args.graph.now c.args.p) =
    subst (IsVerdict c.args.graph.now c.args.p) c.in-Free.is c.requires.known in
    way_out c.args.graph.now c.args.p _ c.law_built_graph.ensures.within c.requires.within free refl
