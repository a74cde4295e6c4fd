-- The text of each fault of a plan.
use Rattle.std.specs.Prelude.{ℕ, List, codes}
use Rattle.cmh_plan.specs.declared.fault.PlanFault.{PlanFault}
use Rattle.cmh_plan.specs.declared.fault.PlanFault.TheVariants as plan

-- what is printed of a fault of a plan
abbrev pub plan_fault_text : PlanFault → List ℕ
plan_fault_text plan.BadWorkers = codes "bad workers"
plan_fault_text plan.TooManyCuts = codes "too many cuts"
plan_fault_text plan.TooManyChoices = codes "too many choices"
plan_fault_text plan.Memory = codes "out of memory"
