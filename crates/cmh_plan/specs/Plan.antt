-- How an analysis is shared out.
use Rattle.std.specs.Prelude.{ℕ, ◌<◌, ◌≤◌, List, length}
use Rattle.cmh_run.specs.declared.TheConstants.{MAX_CHOICES}
use Rattle.cmh_plan.specs.declared.TheConstants.{MAX_WORKERS, MAX_CUTS}
use Rattle.cmh_plan.specs.declared.fault.PlanFault.{PlanFault}
use Rattle.cmh_plan.specs.declared.fault.PlanFault.TheVariants.{BadWorkers, TooManyCuts, TooManyChoices, Memory}

-- How many workers there are, how many initiators each chunk takes off the front, and which message each delivery of a
-- run takes.
pub record PlanValue : Type 0 where
  pub workers : ℕ
  pub cuts : List ℕ
  pub choices : List ℕ

-- what a plan may ask for
pub record IsAcceptedPlan (s : PlanValue) : Type 0 where
  pub some_worker : 0 < s.workers
  pub workers_few : s.workers ≤ MAX_WORKERS
  pub cuts_few : length s.cuts ≤ MAX_CUTS
  pub choices_few : length s.choices ≤ MAX_CHOICES

-- the plan has a worker, and not too many
abbrev pub AreWorkers : PlanValue → Type 0
AreWorkers s = (0 < s.workers) × (s.workers ≤ MAX_WORKERS)

-- the first reason for which there is no plan
abbrev pub IsFirstPlanFault : PlanValue → PlanFault → Type 0
IsFirstPlanFault s BadWorkers = ¬ (AreWorkers s)
IsFirstPlanFault s TooManyCuts = AreWorkers s × (MAX_CUTS < length s.cuts)
IsFirstPlanFault s TooManyChoices =
    AreWorkers s × (length s.cuts ≤ MAX_CUTS) × (MAX_CHOICES < length s.choices)
IsFirstPlanFault s Memory = ⊥
