use Rattle.serde_json.specs.View.{view}
use Rattle.cmh_dump.proofs.EntryLemmas.{array_read}
use Rattle.cmh_dump.proofs.entry.dependents_of.Goals as goal

pub returns-in-Some : goal.returns-in-Some
returns-in-Some c =
    array_read (view c.args.process.now) view c.array_in.result (view c.in-Some.member.now) c.array_in.ensures
    c.in-Some.ensures
