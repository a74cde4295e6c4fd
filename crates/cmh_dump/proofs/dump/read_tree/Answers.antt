use Rattle.std.proofs.Common.{ap, sym, ◌∙◌}
use Rattle.std.proofs.lemmas.Result.{err_from_is_err_and}
use Rattle.serde_json.specs.View.{view}
use Rattle.cmh_graph.specs.Build.{parts_graph}
use Rattle.cmh_dump.specs.Tree.{elements_of}
use Rattle.cmh_dump.proofs.FirstFault.Stages.{refused, accepted, refused_for_memory_alone}
use Rattle.cmh_dump.proofs.MovedNames.{as_many, whole_graph}
use Rattle.cmh_dump.proofs.dump.read_tree.Goals as goal

pub returns-in_err-parts-clause-err : goal.returns-in_err-parts-clause-err
returns-in_err-parts-clause-err c =
    let p = err_from_is_err_and c.from_residual.result c.from_residual.ensures.1 in
    rw (p.1, p.2) (refused (view c.args.tree) _ c.in_err-parts.ensures)

pub move_names-parts-requires : goal.move_names-parts-requires
move_names-parts-requires c =
    let trees = c.take_elements-processes.result in
    let seen = c.take_elements-processes.ensures ∙ ap elements_of c.take_member.ensures in
    trees.ok.0
    ∙ as_many view (view c.args.tree) trees.items c.in_ok-parts.parts.items c.in_ok-parts.in_transit.items seen
    c.in_ok-parts.ensures.1
    ∙ sym c.in_ok-parts.parts.ok.0

pub returns-in-Ok-clause-ok : goal.returns-in-Ok-clause-ok
returns-in-Ok-clause-ok c =
    let trees = c.take_elements-processes.result in
    let seen = c.take_elements-processes.ensures ∙ ap elements_of c.take_member.ensures in
    accepted (view c.args.tree) c.in-Ok.graph c.in_ok-parts.ensures.0
    (c.in-Ok.ensures.ok.0 ∙ ap (parts_graph c.move_names-parts.result.items) c.deref.ensures.value
    ∙ whole_graph view (view c.args.tree) trees.items c.in_ok-parts.parts.items c.in_ok-parts.in_transit.items seen
    c.in_ok-parts.ensures.1 c.move_names-parts.result.items c.move_names-parts.ensures)

pub refusal_of-requires : goal.refusal_of-requires
refusal_of-requires c =
    let trees = c.take_elements-processes.result in
    let seen = c.take_elements-processes.ensures ∙ ap elements_of c.take_member.ensures in
    refused_for_memory_alone (view c.args.tree) _ c.in-Err.fault c.in_ok-parts.ensures.0
    (ap (parts_graph c.move_names-parts.result.items) c.deref.ensures.value
    ∙ whole_graph view (view c.args.tree) trees.items c.in_ok-parts.parts.items c.in_ok-parts.in_transit.items seen
    c.in_ok-parts.ensures.1 c.move_names-parts.result.items c.move_names-parts.ensures)
    c.in-Err.ensures.fault
