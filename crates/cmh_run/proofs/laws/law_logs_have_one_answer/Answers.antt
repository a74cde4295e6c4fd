use Rattle.cmh_run.proofs.LogAnswers.{one_legal_ending, legal_no_fault, one_first_fault}
use Rattle.cmh_run.proofs.laws.law_logs_have_one_answer.Goals as goal

pub returns-clause-ending : goal.returns-clause-ending
returns-clause-ending c = one_legal_ending

pub returns-clause-sound : goal.returns-clause-sound
returns-clause-sound c = legal_no_fault

pub returns-clause-first : goal.returns-clause-first
returns-clause-first c = one_first_fault
