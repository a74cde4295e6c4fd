use Rattle.std.proofs.Common.{ap, ◌∙◌}
use Rattle.std.specs.Prelude.{option_map}
use Rattle.serde_json.specs.View.{view}
use Rattle.cmh_dump.specs.declared.fault.DumpFault.TheVariants.{BadProcess}
use Rattle.cmh_dump.specs.Dump.{holds, process_faults}
use Rattle.cmh_dump.specs.Read.{first_ill_named}
use Rattle.cmh_dump.proofs.FirstFault.Kinds.{first_after}
use Rattle.cmh_dump.proofs.FirstFault.Processes.{all_named}
use Rattle.cmh_dump.proofs.FirstFault.Stages.{faults_from_names, refused_or_later}
use Rattle.cmh_dump.proofs.dump.read_written.Goals as goal

pub returns-in-Ok : goal.returns-in-Ok
returns-in-Ok c =
    let d = view c.args.tree.now in
    λ named left.
    let built = c.in-Ok.ensures in
    let none = left ∙ ap (option_map BadProcess) (all_named d c.args.entries.now c.requires.read named built.0) in
    (first_after (holds d) (process_faults d) (faults_from_names d) none ∙ built.0, built.1)

pub returns-in-Err : goal.returns-in-Err
returns-in-Err c =
    let d = view c.args.tree.now in
    λ named left. rw c.first_fault.ensures
    (refused_or_later d (first_ill_named c.args.entries.now) c.in-Err.fault left c.in-Err.ensures)
