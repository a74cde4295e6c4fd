use Rattle.cmh_run.proofs.Scripts.{told_true}
use Rattle.cmh_run.proofs.scripted.ScriptedHints.hint.Goals as goal

-- true lines give a true hint
pub returns-clause-true_verdict : goal.returns-clause-true_verdict
returns-clause-true_verdict c g true_of within =
    rw (c.answer_at.ensures, c.deref.ensures.value)
    (told_true g _ c.self.inside.asked c.args.p (rw (← c.self.view_is) at true_of))
