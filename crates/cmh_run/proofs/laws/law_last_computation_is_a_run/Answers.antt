use Rattle.cmh_run.proofs.LastComputation.{last_computation_is_a_run}
use Rattle.cmh_run.proofs.laws.law_last_computation_is_a_run.Goals as goal

-- the last computation of every run, taken alone, begins a run
pub returns : goal.returns
returns c = last_computation_is_a_run
