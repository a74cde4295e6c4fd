use Rattle.std.proofs.Common.{◌∙◌, ap, get_or, length, subst}
use Rattle.std.specs.Prelude.{Some}
use Rattle.cmh_graph.specs.ChosenPath.{distance_of}
use Rattle.cmh_graph.specs.Search.{IsLeastAt}
use Rattle.cmh_graph.proofs.ChosenPathLemmas.{nearest_alone, nearest_some}
use Rattle.cmh_graph.proofs.IndexLists.{length-by_index}
use Rattle.cmh_graph.proofs.ForwardSearch.{dependents_within}
use Rattle.cmh_graph.proofs.graph.WaitGraph.next_at.Goals as goal

pub returns-then-dependents-eq1 : goal.returns-then-dependents-eq1
returns-then-dependents-eq1 c =
    let row = c.dependents-dependents.result.now in
    subst (λ xs. IsLeastAt c.args.distance xs c.args.distances.now (Some (get_or row 0 0)))
    c.dependents-dependents.ensures
    (nearest_alone c.args.self.now c.args.p c.args.distance 0 _ _ c.has_no_fault.ensures c.requires.within
    c.requires.further c.dependents-dependents.ensures c.requires.known c.if-dependents-eq1.true)

pub least_at-requires : goal.least_at-requires
least_at-requires c =
    let g = c.args.self.now in
    dependents_within g c.args.p _ _ c.has_no_fault.ensures c.dependents-dependents.ensures
    (ap length c.requires.known ∙ length-by_index g (distance_of g))

pub unwrap-requires : goal.unwrap-requires
unwrap-requires c =
    nearest_some c.args.self.now c.args.p c.args.distance _ _ _ c.has_no_fault.ensures c.requires.within
    c.requires.further c.dependents-dependents.ensures c.requires.known c.least_at.ensures
