use Rattle.std.proofs.Common.{◌<◌, length, sym, ◌∙◌, ap, subst, arith}
use Rattle.cmh_graph.specs.Build.{parts_graph}
use Rattle.cmh_graph.specs.Graph.{process_count, is_awake}
use Rattle.cmh_graph.proofs.IndexLists.{length-by_index, by_index}
use Rattle.cmh_graph.proofs.graph.WaitGraph.is_awake.Goals as goal

pub index-requires : goal.index-requires
index-requires c =
    let g = parts_graph c.self.inside.parts.items c.self.inside.in_transit.items in
    let size = ap length c.self.invariant.1 ∙ length-by_index g (is_awake g) in
    let within : c.args.p < process_count g = subst (λ h. c.args.p < process_count h) (sym c.self.view_is) c.requires in
    omega (arith, size, within)

pub returns : goal.returns
returns c =
    let g = parts_graph c.self.inside.parts.items c.self.inside.in_transit.items in
    let within : c.args.p < process_count g = subst (λ h. c.args.p < process_count h) (sym c.self.view_is) c.requires in
    c.index.ensures
    ∙ by_index g (is_awake g) c.self.inside.awake.items c.args.p c.index.result.now c.self.invariant.1 within
    ∙ ap (λ h. is_awake h c.args.p) c.self.view_is
