use Rattle.std.proofs.Common.{◌∙◌}
use Rattle.cmh_text.proofs.JoinedTexts.{whole_report}
use Rattle.cmh_text.proofs.text.text_of.Goals as goal
use Rattle.rayon.proofs.ListFacts.{IfOk-then}

pub returns : goal.returns
returns g c =
    let first = c.deref.ensures ∙ c.requires.totals in
    let processes = c.in_ok-of_processes in
    let groups = c.in_ok-of_groups in
    IfOk-then c.concat_lines.result _ _ c.concat_lines.ensures (λ text is.
    whole_report c.args.graph.now _ _ processes.of_processes.items groups.of_groups.items
    first processes.ensures groups.ensures is)
