use Rattle.std.proofs.Common.{◌∙◌, ap, length}
use Rattle.std.proofs.lemmas.Result.{IfOk-weaker}
use Rattle.cmh_graph.specs.Graph.{is_awake}
use Rattle.cmh_graph.proofs.IndexLists.{length-by_index}
use Rattle.cmh_graph.proofs.LevelSearch.{steps_to_awake}
use Rattle.cmh_graph.proofs.graph.WaitGraph.distances_by.Goals as goal

pub steps_to-requires-clause-size : goal.steps_to-requires-clause-size
steps_to-requires-clause-size c =
    ap length c.awake_marks.ensures.marks ∙ length-by_index c.args.self.now (is_awake c.args.self.now)

pub returns : goal.returns
returns c =
    let awake = c.awake_marks.ensures in
    IfOk-weaker c.steps_to.result _ _
    (λ list is. is ∙ steps_to_awake c.args.self.now c.awake_marks.result.now awake.well_formed.within awake.marks)
    c.steps_to.ensures
