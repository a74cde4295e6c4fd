-- Legal runs of one initiator, and what they say of the graph.
use Rattle.std.specs.Prelude.{◌≡◌, ◌≢◌, ℕ, ◌+◌, ◌<◌, Bool, true, nat_eq, ◌&&◌, ◌==◌, if◌then◌else◌, List, [], ◌∷◌, slice_get, Contains, Option, Some, None, is_none, IsTrue, ⊤}
use Rattle.std.specs.List.{IsDistinct}
use Rattle.cmh_graph.specs.declared.verdict.Verdict.{Verdict}
use Rattle.cmh_graph.specs.Graph.{Graph, IsWithinGraph, process_count, is_awake, is_idle}
use Rattle.cmh_graph.specs.Verdict.{IsDeadlocked, IsVerdict}
use Rattle.cmh_process.specs.declared.message.Message.{Message}
use Rattle.cmh_run.specs.declared.delivery.Delivery.{Delivery}
use Rattle.cmh_run.specs.declared.delivery.Ending.{Ending}
use Rattle.cmh_run.specs.declared.delivery.Ending.TheVariants.{Declared, AtRest, CutFree}
use Rattle.cmh_run.specs.Config.{Config, nothing_yet, start, after_delivery, asks_hint}

-- A run on its way: its configuration, the number of deliveries that were made, the restarts that are still to come,
-- each by the number of deliveries before it, and the number of restarts that were made.
pub record Going : Type 0 where
  pub config : Config
  pub done : ℕ
  pub restarts : List ℕ
  pub restarted : ℕ

-- a run at its start, with the restarts that are to come
abbrev pub going_from : Config → List ℕ → Going
going_from c restarts = record { config = c; done = 0; restarts = restarts; restarted = 0 }

-- The start of a run. An awake initiator sends nothing, and never starts again.
abbrev pub going_at_start : Graph → ℕ → List ℕ → Going
going_at_start g i restarts =
    if is_awake g i
    then going_from (nothing_yet g) []
    else going_from (start g i (nothing_yet g)) restarts

-- the run once the initiator has started again, with these restarts still to come
abbrev pub after_restart : Graph → ℕ → Going → List ℕ → Going
after_restart g i s rest = record s {
  config = start g i s.config;
  restarts = rest;
  restarted = s.restarted + 1;
}

-- the run after the first of these restarts, if that is due now and the run hasn't ended
abbrev pub after_first_restart : Graph → ℕ → Going → List ℕ → Going
after_first_restart g i s [] = s
after_first_restart g i s (n ∷ rest) =
    if is_none s.config.ended && n == s.done then after_restart g i s rest else s

-- the run after the restart that is due now, if one is
abbrev pub after_due_restart : Graph → ℕ → Going → Going
after_due_restart g i s = after_first_restart g i s s.restarts

-- the run once the message at place x of the bag is delivered
abbrev pub going_after : Graph → ℕ → Going → ℕ → Delivery → Going
going_after g i s x d = record s {
  config = after_delivery g i s.config x d.message d.hint;
  done = s.done + 1;
}

-- there is no hint, or one that was asked for and is true
abbrev pub HintIsFit : Graph → Config → Message → Option Verdict → Type 0
HintIsFit g c m None = ⊤
HintIsFit g c m (Some v) = IsTrue (asks_hint g c m) × IsVerdict g m.to v

-- the message at place x may be delivered, with this hint
pub record MayCome (g : Graph) (c : Config) (x : ℕ) (d : Delivery) : Type 0 where
  pub going : c.ended ≡ None
  pub there : slice_get c.bag x ≡ Some d.message
  pub hint : HintIsFit g c d.message d.hint

-- a rule says, after a number of deliveries, whether the message at a place may be taken next
abbrev pub Rule : Type 0
Rule = ℕ → Config → ℕ → Bool

-- any undelivered message may come next
abbrev pub any_place : Rule
any_place done c x = true

-- the deliveries lead from one state to another by the rule
abbrev pub DeliveriesLead : Rule → Graph → ℕ → Going → List Delivery → Going → Type 0
DeliveriesLead rule g i s [] end = after_due_restart g i s ≡ end
DeliveriesLead rule g i s (d ∷ rest) end =
    let now = after_due_restart g i s in
    (x : ℕ) × MayCome g now.config x d × IsTrue (rule s.done now.config x)
    × DeliveriesLead rule g i (going_after g i now x d) rest end

-- the run has this ending: a declaration or a hint has ended it, or nothing is undelivered
abbrev pub EndsAs : Config → Ending → Type 0
EndsAs c Declared = c.ended ≡ Some Declared
EndsAs c (CutFree k) = c.ended ≡ Some (CutFree k)
EndsAs c AtRest = (c.ended ≡ None) × (c.bag ≡ [])

-- a legal run that has ended, by its deliveries
pub record IsRun (rule : Rule) (g : Graph) (i : ℕ) (restarts : List ℕ)
    (log : List Delivery) (ending : Ending) (end : Going) : Type 0 where
  pub leads : DeliveriesLead rule g i (going_at_start g i restarts) log end
  pub ends : EndsAs end.config ending

-- this is true of every legal run of an idle process of a graph
abbrev pub OfEveryRun : (Graph → ℕ → List ℕ → List Delivery → Ending → Going → Type 0) → Type 0
OfEveryRun P = (rule : Rule) (g : Graph) (i : ℕ) (restarts : List ℕ)
    (log : List Delivery) (ending : Ending) (end : Going)
    → IsWithinGraph g → IsTrue (is_idle g i) → IsRun rule g i restarts log ending end
    → P g i restarts log ending end

-- a run that has ended is right about the graph
pub record IsRight (g : Graph) (i : ℕ) (restarts : List ℕ)
    (ending : Ending) (end : Going) : Type 0 where
  pub declared : ending ≡ Declared → IsDeadlocked g i
  pub free : ending ≢ Declared → ¬ (IsDeadlocked g i)
  pub engaged : ending ≡ Declared → (k : ℕ) → Contains end.config.engaged k → IsDeadlocked g k
  pub begins : ending ≡ Declared → slice_get end.config.engaged 0 ≡ Some i
  pub once : ending ≡ Declared → IsDistinct nat_eq end.config.engaged
  pub last_delivered : ending ≡ Declared → (m : Message) → Contains end.config.bag m
      → m.number < end.config.number
  pub all_delivered : restarts ≡ [] → ending ≡ Declared → end.config.bag ≡ []

-- the message goes from a process of the graph to another, or to itself
abbrev pub IsBetween : Graph → Message → Type 0
IsBetween g m = (m.from < process_count g) × (m.to < process_count g)
