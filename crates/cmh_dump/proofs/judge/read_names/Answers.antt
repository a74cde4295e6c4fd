use Rattle.std.proofs.Common.{ap, ◌∙◌}
use Rattle.cmh_dump.specs.Texts.{texts}
use Rattle.cmh_dump.proofs.FirstFault.Entries.{names_seen, name_repeated, names_judged}
use Rattle.cmh_dump.proofs.judge.read_names.Goals as goal

pub returns-in-Ok-clause-judges : goal.returns-in-Ok-clause-judges
returns-in-Ok-clause-judges c =
    λ d seen. names_judged d (texts c.deref.result.now)
    (ap texts c.deref.ensures.value ∙ c.in_ok-names.ensures ∙ names_seen d c.args.entries.now seen)
    c.in-Ok.ensures.distinct

pub returns-in-Err-Repeated-clause-judges : goal.returns-in-Err-Repeated-clause-judges
returns-in-Err-Repeated-clause-judges c =
    λ d seen _. name_repeated d (texts c.deref.result.now) c.in-Err-Repeated.i
    (ap texts c.deref.ensures.value ∙ c.in_ok-names.ensures ∙ names_seen d c.args.entries.now seen)
    (c.in-Err-Repeated.ensures.repeated c.in-Err-Repeated.i c.in-Err-Repeated.field-0-is)
