use Rattle.std.proofs.Common.{◌∙◌, ap, arith, length}
use Rattle.cmh_graph.specs.Path.{reaches}
use Rattle.cmh_graph.proofs.IndexLists.{length-by_index}
use Rattle.cmh_graph.proofs.ForwardSearch.{reach_listed}
use Rattle.rayon.proofs.ListFacts.{IfOk-then}
use Rattle.cmh_text.proofs.leader_reach.reach_of.Goals as goal

pub marked_indices-requires : goal.marked_indices-requires
marked_indices-requires c =
    let g = c.args.graph.now in
    omega (
      arith,
      ap length c.requires.marks,
      length-by_index g (reaches g c.args.leader),
      c.law_built_graph.ensures.processes,
    )

pub returns : goal.returns
returns c =
    IfOk-then c.marked_indices.result _ _ c.marked_indices.ensures
    (λ list is. is ∙ reach_listed c.args.graph.now c.args.leader _ c.requires.marks)
