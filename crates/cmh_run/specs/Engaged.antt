-- The processes that are engaged when a run has ended, and the run of an awake initiator.
use Rattle.std.specs.Prelude.{◌≡◌, ℕ, nat_eq, List, [], slice_get, Contains, Some, IsFalse}
use Rattle.std.specs.List.{IsDistinct}
use Rattle.cmh_graph.specs.Graph.{Graph, is_awake}
use Rattle.cmh_graph.specs.Path.{Reaches}
use Rattle.cmh_graph.specs.Verdict.{IsDeadlocked}
use Rattle.cmh_run.specs.declared.delivery.Delivery.{Delivery}
use Rattle.cmh_run.specs.declared.delivery.Ending.{Ending}
use Rattle.cmh_run.specs.declared.delivery.Ending.TheVariants.{Declared, AtRest, CutFree}
use Rattle.cmh_run.specs.Legal.{Going}

-- These processes are engaged: the initiator first, unless it is awake, and none twice. The initiator reaches each, and
-- none is awake. All are deadlocked where the run was declared. The process at which it was cut is none of them: it is
-- free, isn't awake, and is reached.
pub record AreEngaged (g : Graph) (i : ℕ) (ending : Ending) (engaged : List ℕ) : Type 0 where
  pub begins : IsFalse (is_awake g i) → slice_get engaged 0 ≡ Some i
  pub once : IsDistinct nat_eq engaged
  pub asleep : (k : ℕ) → Contains engaged k → IsFalse (is_awake g k)
  pub reached : (k : ℕ) → Contains engaged k → Reaches g i k
  pub deadlocked : ending ≡ Declared → (k : ℕ) → Contains engaged k → IsDeadlocked g k
  pub cut : (k : ℕ) → ending ≡ CutFree k
      → (¬ (IsDeadlocked g k)) × IsFalse (is_awake g k) × Reaches g i k × ¬ (Contains engaged k)

-- nothing was started: nothing is delivered, no process engages, and the initiator doesn't start again
pub record IsEmptyRun (log : List Delivery) (ending : Ending) (end : Going) : Type 0 where
  pub silent : log ≡ []
  pub at_rest : ending ≡ AtRest
  pub nobody : end.config.engaged ≡ []
  pub once : end.restarted ≡ 0
