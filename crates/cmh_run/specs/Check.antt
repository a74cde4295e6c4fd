-- What is wrong with a log of deliveries, checked as a run without restarts.
use Rattle.std.specs.Prelude.{◌≡◌, ℕ, List, [], take, slice_get, Some, IsTrue, IsFalse}
use Rattle.cmh_graph.specs.Graph.{Graph, is_idle}
use Rattle.cmh_process.specs.declared.message.Message.{Message}
use Rattle.cmh_run.specs.declared.delivery.Delivery.{Delivery}
use Rattle.cmh_run.specs.declared.delivery.Ending.{Ending}
use Rattle.cmh_run.specs.declared.fault.CheckFault.{CheckFault}
use Rattle.cmh_run.specs.declared.fault.CheckFault.TheVariants.{NotIdle, NotUndelivered, FalseHint, AfterEnd, NotEnded, Memory}
use Rattle.cmh_run.specs.Config.{Config}
use Rattle.cmh_run.specs.Legal.{Going, going_at_start, HintIsFit, any_place, DeliveriesLead, EndsAs, IsRun}

-- the deliveries lead from the start to s, without a restart
abbrev pub LeadTo : Graph → ℕ → List Delivery → Going → Type 0
LeadTo g i log s = DeliveriesLead any_place g i (going_at_start g i []) log s

-- a declaration or a hint has ended the run, or nothing is undelivered
abbrev pub HasEnded : Config → Type 0
HasEnded c = (ending : Ending) × EndsAs c ending

-- the message stands somewhere in the bag
abbrev pub IsUndelivered : Config → Message → Type 0
IsUndelivered c m = (x : ℕ) × (slice_get c.bag x ≡ Some m)

-- the log is a legal run with this ending
pub record IsLegalRun (g : Graph) (i : ℕ) (log : List Delivery) (ending : Ending) : Type 0 where
  pub idle : IsTrue (is_idle g i)
  pub end : Going
  pub legal : IsRun any_place g i [] log ending end

-- d is delivery t, and those before it are legal and have led to s
pub record ComesAt (g : Graph) (i : ℕ) (log : List Delivery) (t : ℕ)
    (d : Delivery) (s : Going) : Type 0 where
  pub idle : IsTrue (is_idle g i)
  pub there : slice_get log t ≡ Some d
  pub before : LeadTo g i (take t log) s

-- this is what is wrong with d, which is delivery t and comes at c
abbrev pub IsFlaw : Graph → Config → ℕ → Delivery → CheckFault → Type 0
IsFlaw g c t d (AfterEnd n) = (n ≡ t) × HasEnded c
IsFlaw g c t d (NotUndelivered n) = (n ≡ t) × ¬ (HasEnded c) × ¬ (IsUndelivered c d.message)
IsFlaw g c t d (FalseHint n) =
    (n ≡ t) × ¬ (HasEnded c) × IsUndelivered c d.message × ¬ (HintIsFit g c d.message d.hint)
IsFlaw g c t d NotIdle = ⊥
IsFlaw g c t d NotEnded = ⊥
IsFlaw g c t d Memory = ⊥

-- This is the first thing that is wrong with the log. Its initiator isn't idle; or all deliveries are legal, and the
-- run could continue; or something is wrong with a delivery, and those before it are legal.
abbrev pub IsFirstCheckFault : Graph → ℕ → List Delivery → CheckFault → Type 0
IsFirstCheckFault g i log NotIdle = IsFalse (is_idle g i)
IsFirstCheckFault g i log NotEnded =
    IsTrue (is_idle g i) × (s : Going) × LeadTo g i log s × ¬ (HasEnded s.config)
IsFirstCheckFault g i log fault = (t : ℕ) × (d : Delivery) × (s : Going) × ComesAt g i log t d s
    × IsFlaw g s.config t d fault
