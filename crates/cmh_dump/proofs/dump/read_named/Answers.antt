use Rattle.std.proofs.Common.{◌∙◌}
use Rattle.std.proofs.lemmas.Result.{err_from_is_err_and}
use Rattle.serde_json.specs.View.{view}
use Rattle.cmh_dump.specs.Dump.{name_faults}
use Rattle.cmh_dump.proofs.FirstFault.Stages.{faults_from_entries, refused_here, built_later}
use Rattle.cmh_dump.proofs.FirstFault.Entries.{names_seen}
use Rattle.cmh_dump.proofs.dump.read_named.Goals as goal

pub returns-in_err-names : goal.returns-in_err-names
returns-in_err-names c =
    let d = view c.args.tree.now in
    let p = err_from_is_err_and c.from_residual.result c.from_residual.ensures.1 in
    rw (p.1, p.2)
    (refused_here d (name_faults d) (faults_from_entries d) _
    (c.in_err-names.ensures.judges d c.requires.read))

pub read_linked-requires-clause-names : goal.read_linked-requires-clause-names
read_linked-requires-clause-names c =
    c.in_ok-names.ensures.read ∙ names_seen (view c.args.tree.now) c.args.entries.now c.requires.read

pub returns : goal.returns
returns c =
    let d = view c.args.tree.now in
    built_later d (name_faults d) (faults_from_entries d) c.read_linked.result
    (c.in_ok-names.ensures.judges d c.requires.read)
    c.read_linked.ensures
