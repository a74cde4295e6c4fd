use Rattle.std.proofs.Common.{◌∙◌}
use Rattle.std.proofs.lemmas.Result.{err_from_is_err_and}
use Rattle.serde_json.specs.View.{view}
use Rattle.cmh_dump.specs.Dump.{holds, entry_faults, transit_faults}
use Rattle.cmh_dump.specs.Texts.{texts}
use Rattle.cmh_dump.proofs.FirstFault.Stages.{refused_here, refused_later, graph_is}
use Rattle.cmh_dump.proofs.FirstFault.Kinds.{first_after}
use Rattle.cmh_dump.proofs.dump.read_linked.Goals as goal

pub link_entries-requires-clause-read : goal.link_entries-requires-clause-read
link_entries-requires-clause-read c =
    (view c.args.tree.now, c.requires.read, c.requires.sites, c.requires.names)

pub returns-in_err-parts : goal.returns-in_err-parts
returns-in_err-parts c =
    let d = view c.args.tree.now in
    let p = err_from_is_err_and c.from_residual.result c.from_residual.ensures.1 in
    rw (p.1, p.2)
    (refused_here d (entry_faults d) (transit_faults d) _
    (c.in_err-parts.ensures.judges d c.requires.read c.requires.sites c.requires.names))

pub returns-in_err-in_transit : goal.returns-in_err-in_transit
returns-in_err-in_transit c =
    let d = view c.args.tree.now in
    let p = err_from_is_err_and c.from_residual-in_err-in_transit.result c.from_residual-in_err-in_transit.ensures.1 in
    rw (p.1, p.2)
    (refused_later d (entry_faults d) (transit_faults d) _
    (c.in_ok-parts.ensures.judges d c.requires.read c.requires.sites c.requires.names)
    (c.in_err-in_transit.ensures.judges c.requires.names))

pub returns : goal.returns
returns c =
    let d = view c.args.tree.now in (
      first_after (holds d) (entry_faults d) (transit_faults d)
          (c.in_ok-parts.ensures.judges d c.requires.read c.requires.sites c.requires.names)
          ∙ c.in_ok-in_transit.ensures.judges c.requires.names,
      graph_is d c.in_ok-parts.parts.items c.in_ok-in_transit.in_transit.items c.args.entries.now
          (texts c.args.sites.now.keys) (texts c.args.names.now.keys) c.requires.read c.requires.sites c.requires.names
          c.in_ok-parts.ensures.made (c.in_ok-in_transit.ensures.read c.requires.names),
    )
