use Rattle.cmh_run.proofs.StaleMessages.{stale_untouched}
use Rattle.cmh_run.proofs.laws.law_stale.Goals as goal

pub returns-clause-untouched : goal.returns-clause-untouched
returns-clause-untouched c = stale_untouched
