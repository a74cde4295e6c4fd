-- What is kept of a run that has ended, which runs are refused, and what the answer is.
use Rattle.std.specs.Prelude.{◌≡◌, ◌⊎◌, ℕ, nat_eq, ◌+◌, ◌*◌, Contains, ◌<◌, ◌≤◌, IsTrue, IsFalse, List, [], length, slice_get, Some}
use Rattle.std.specs.List.{IsDistinct}
use Rattle.std.specs.List.Sorted.{IsStrictlyIncreasing}
use Rattle.cmh_graph.specs.Graph.{Graph, is_idle, is_awake, dependency_count}
use Rattle.cmh_graph.specs.declared.verdict.Verdict.{Verdict}
use Rattle.cmh_graph.specs.declared.verdict.Verdict.TheVariants.{Deadlocked, Free}
use Rattle.cmh_run.specs.declared.delivery.Delivery.{Delivery}
use Rattle.cmh_run.specs.declared.delivery.Ending.{Ending}
use Rattle.cmh_run.specs.declared.delivery.Ending.TheVariants.{Declared, AtRest, CutFree}
use Rattle.cmh_run.specs.declared.fault.RunFault.{RunFault}
use Rattle.cmh_run.specs.declared.fault.RunFault.TheVariants.{NotIdle, TooManyChoices, Memory, BadRestarts}
use Rattle.cmh_run.specs.declared.TheConstants.{MAX_CHOICES, MAX_RESTARTS}
use Rattle.cmh_graph.specs.Verdict.{IsDeadlocked, IsVerdict}
use Rattle.cmh_run.specs.Legal.{Going, Rule, IsRun, IsRight}
use Rattle.cmh_run.specs.Choices.{chosen_place}
use Rattle.cmh_run.specs.Engaged.{AreEngaged}
use Rattle.cmh_run.specs.Last.{LastIsRun}

-- what is kept of a run that has ended
pub record Run : Type 0 where
  pub initiator : ℕ
  pub log : List Delivery
  pub ending : Ending
  pub engaged : List ℕ
  pub restarted : ℕ

-- the run is legal, followed the choices, and started again as these restarts say
pub record IsRunOf (g : Graph) (choices restarts : List ℕ) (r : Run) : Type 0 where
  pub end : Going
  pub legal : IsRun (chosen_place choices) g r.initiator restarts r.log r.ending end
  pub engaged : r.engaged ≡ end.config.engaged
  pub restarted : r.restarted ≡ end.restarted

-- a run may be given these restarts
pub record AreRestarts (restarts : List ℕ) : Type 0 where
  pub few : length restarts ≤ MAX_RESTARTS
  pub rising : IsStrictlyIncreasing restarts

-- a run of this initiator may be given these choices and restarts
pub record IsAccepted (g : Graph) (i : ℕ) (choices restarts : List ℕ) : Type 0 where
  pub idle : IsTrue (is_idle g i)
  pub choices_few : length choices ≤ MAX_CHOICES
  pub restarts_good : AreRestarts restarts

-- this is the first reason why there is no run
abbrev pub IsFirstRunFault : Graph → ℕ → List ℕ → List ℕ → RunFault → Type 0
IsFirstRunFault g i choices restarts NotIdle = IsFalse (is_idle g i)
IsFirstRunFault g i choices restarts TooManyChoices =
    IsTrue (is_idle g i) × (MAX_CHOICES < length choices)
IsFirstRunFault g i choices restarts BadRestarts =
    IsTrue (is_idle g i) × (length choices ≤ MAX_CHOICES) × ¬ (AreRestarts restarts)
IsFirstRunFault g i choices restarts Memory = ⊥

-- why there is no run: memory was refused, or this is the first reason of all
abbrev pub IsRunFault : Graph → ℕ → List ℕ → List ℕ → RunFault → Type 0
IsRunFault g i choices restarts e = (e ≡ Memory) ⊎ IsFirstRunFault g i choices restarts e

-- what an ending says of the initiator
abbrev pub verdict_of : Ending → Verdict
verdict_of Declared = Deadlocked
verdict_of AtRest = Free
verdict_of (CutFree k) = Free

-- What the kept run says of the graph is true, and the run is short. Each legal run with this log and this ending is
-- right about the graph too, and its last computation, taken alone, begins a run.
pub record TellsTruth (g : Graph) (r : Run) : Type 0 where
  pub idle : IsTrue (is_idle g r.initiator)
  pub verdict : IsVerdict g r.initiator (verdict_of r.ending)
  pub engaged : r.ending ≡ Declared → (k : ℕ) → Contains r.engaged k → IsDeadlocked g k
  pub begins : r.ending ≡ Declared → slice_get r.engaged 0 ≡ Some r.initiator
  pub once : r.ending ≡ Declared → IsDistinct nat_eq r.engaged
  pub end : (rule : Rule) (restarts : List ℕ) (end : Going)
      → IsRun rule g r.initiator restarts r.log r.ending end
      → IsRight g r.initiator restarts r.ending end
  pub last : (rule : Rule) (restarts : List ℕ) (end : Going)
      → IsRun rule g r.initiator restarts r.log r.ending end
      → LastIsRun g r.initiator r.log r.ending end
  pub short : length r.log ≤ 2 * dependency_count g * (r.restarted + 1)

-- The answer for an accepted initiator: a legal run of it, which is true of the graph, with the processes engaged that
-- should be. Where the initiator is awake, the run starts nothing.
pub record IsRunAnswer (g : Graph) (i : ℕ) (choices restarts : List ℕ) (r : Run) : Type 0 where
  pub accepted : IsAccepted g i choices restarts
  pub initiator : r.initiator ≡ i
  pub legal : IsRunOf g choices restarts r
  pub restarted : r.restarted ≤ length restarts
  pub true_verdict : TellsTruth g r
  pub engaged : AreEngaged g i r.ending r.engaged
  pub awake : IsTrue (is_awake g i)
      → r ≡ record { initiator = i; log = []; ending = AtRest; engaged = []; restarted = 0 }
