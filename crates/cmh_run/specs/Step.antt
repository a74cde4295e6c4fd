-- The rules of the computation as relations: what a start does; what the delivery of a message does, one case for each
-- rule; and which runs are made of these. `Config` and `Legal` compute the same, and laws say that the two agree.
use Rattle.std.specs.Prelude.{◌≡◌, ◌≢◌, ℕ, ◌+◌, ◌<◌, ◌≤◌, true, List, [], ◌∷◌, ◌++◌, length, map, remove, slice_get, slice_set, Option, Some, None, IsTrue, IsFalse}
use Rattle.cmh_graph.specs.declared.verdict.Verdict.{Verdict}
use Rattle.cmh_graph.specs.declared.verdict.Verdict.TheVariants.{Deadlocked, Free}
use Rattle.cmh_graph.specs.Graph.{Graph, dependents_of, is_awake}
use Rattle.cmh_graph.specs.Verdict.{IsDeadlocked}
use Rattle.cmh_process.specs.declared.message.Kind.{Kind}
use Rattle.cmh_process.specs.declared.message.Kind.TheVariants.{Query, Reply}
use Rattle.cmh_process.specs.declared.message.Message.{Message}
use Rattle.cmh_process.specs.declared.process.Proc.{Proc}
use Rattle.cmh_run.specs.declared.delivery.Delivery.{Delivery}
use Rattle.cmh_run.specs.declared.delivery.Ending.{Ending}
use Rattle.cmh_run.specs.declared.delivery.Ending.TheVariants.{Declared, AtRest, CutFree}
use Rattle.cmh_run.specs.Config.{Config, proc_at, query, reply, nothing_yet}
use Rattle.cmh_run.specs.Legal.{Going, going_from, Rule, EndsAs}

-- The initiator, which isn't awake, starts while the run hasn't ended. Its latest number grows by 1, it has no engager,
-- it waits for a reply of each of its dependents, and one query goes to each, in their order. It alone is engaged.
-- Without dependents it declares itself deadlocked.
pub record IsStart (g : Graph) (i : ℕ) (c after : Config) : Type 0 where
  pub asleep : IsFalse (is_awake g i)
  pub going : c.ended ≡ None
  pub number : after.number ≡ (proc_at c.procs i).latest + 1
  pub procs : after.procs ≡ slice_set c.procs i
      (record { latest = after.number; engager = None; num = length (dependents_of g i); wait = true })
  pub asks : after.bag ≡ c.bag ++ map (query i after.number i) (dependents_of g i)
  pub engaged : after.engaged ≡ i ∷ []
  pub goes_on : dependents_of g i ≢ [] → after.ended ≡ None
  pub declares : dependents_of g i ≡ [] → after.ended ≡ Some Declared

-- The receiver of m, which stood at place x, engages and asks these. The number of m is its latest, the sender of m is
-- its engager, it waits for a reply of each, and one query goes to each, in their order. With none to ask it replies at
-- once. It joins the engaged where the number is that of the last start. No other process changes, and the run hasn't
-- ended.
pub record IsEngagement (i : ℕ) (c : Config) (x : ℕ) (m : Message) (asked : List ℕ) (after : Config) : Type 0 where
  pub procs : after.procs ≡ slice_set c.procs m.to
      (record { latest = m.number; engager = Some m.from; num = length asked; wait = true })
  pub asks : asked ≢ [] → after.bag ≡ remove c.bag x ++ map (query i m.number m.to) asked
  pub replies : asked ≡ [] → after.bag ≡ remove c.bag x ++ reply i m.number m.to m.from ∷ []
  pub joins : m.number ≡ c.number → after.engaged ≡ c.engaged ++ m.to ∷ []
  pub joins_not : m.number ≢ c.number → after.engaged ≡ c.engaged
  pub number : after.number ≡ c.number
  pub goes_on : after.ended ≡ None

-- a process that isn't awake receives the message, which is of this kind
abbrev pub IsReceived : Graph → Message → Kind → Type 0
IsReceived g m kind = IsFalse (is_awake g m.to) × (m.kind ≡ kind)

-- the process waits in the computation of that number
abbrev pub WaitsIn : Proc → ℕ → Type 0
WaitsIn p number = IsTrue p.wait × (p.latest ≡ number)

-- what the receiver of the message keeps
abbrev pub receiver : Config → Message → Proc
receiver c m = proc_at c.procs m.to

-- What the delivery of m, which stood at place x, does with this hint or none: one case for each rule.
pub data IsEffect (g : Graph) (i : ℕ) (c : Config) (x : ℕ) (m : Message) : Option Verdict → Config → Type 0 where
  -- A query numbered above its receiver's latest engages it, and it asks its dependents.
  engage : (after : Config) → IsReceived g m Query → (receiver c m).latest < m.number
      → IsEngagement i c x m (dependents_of g m.to) after → IsEffect g i c x m None after
  -- With the hint that it is deadlocked, which is so, the receiver engages as one without dependents.
  engage_with_nothing : (after : Config) → IsReceived g m Query → (receiver c m).latest < m.number → IsDeadlocked g m.to
      → IsEngagement i c x m [] after → IsEffect g i c x m (Some Deadlocked) after
  -- With the hint that it is free, which is so, the run is cut free at the receiver, which doesn't engage.
  cut_free : IsReceived g m Query → (receiver c m).latest < m.number → ¬ (IsDeadlocked g m.to)
      → IsEffect g i c x m (Some Free) (record c { bag = remove c.bag x; ended = Some (CutFree m.to) })
  -- A process replies at once to another query of the computation in which it waits.
  reply_at_once : IsReceived g m Query → WaitsIn (receiver c m) m.number
      → IsEffect g i c x m None (record c { bag = remove c.bag x ++ reply i m.number m.to m.from ∷ [] })
  -- Any other query changes nothing: it isn't above the latest, and the receiver doesn't wait in its computation.
  ignore_query : IsReceived g m Query → m.number ≤ (receiver c m).latest → ¬ (WaitsIn (receiver c m) m.number)
      → IsEffect g i c x m None (record c { bag = remove c.bag x })
  -- A reply of the computation in which a process waits counts one down, and it still waits for others.
  count_down : (left : ℕ) → IsReceived g m Reply → WaitsIn (receiver c m) m.number
      → (receiver c m).num ≡ left + 1 → 0 < left
      → IsEffect g i c x m None (record c {
        bag = remove c.bag x;
        procs = slice_set c.procs m.to (record (receiver c m) { num = left });
      })
  -- At the last reply a process replies to its engager.
  reply_to_engager : (engager : ℕ) → IsReceived g m Reply → WaitsIn (receiver c m) m.number
      → (receiver c m).num ≡ 1 → (receiver c m).engager ≡ Some engager
      → IsEffect g i c x m None (record c {
        bag = remove c.bag x ++ reply i m.number m.to engager ∷ [];
        procs = slice_set c.procs m.to (record (receiver c m) { num = 0 });
      })
  -- At the last reply the initiator, which has no engager, declares itself deadlocked.
  declare : IsReceived g m Reply → WaitsIn (receiver c m) m.number
      → (receiver c m).num ≡ 1 → (receiver c m).engager ≡ None
      → IsEffect g i c x m None (record c {
        bag = remove c.bag x;
        procs = slice_set c.procs m.to (record (receiver c m) { num = 0 });
        ended = Some Declared;
      })
  -- Any other reply changes nothing: the receiver doesn't wait for one in its computation.
  ignore_reply : IsReceived g m Reply → ¬ (WaitsIn (receiver c m) m.number × (0 < (receiver c m).num))
      → IsEffect g i c x m None (record c { bag = remove c.bag x })
  -- An awake process discards what it receives.
  discard : IsTrue (is_awake g m.to) → IsEffect g i c x m None (record c { bag = remove c.bag x })

-- The delivery of the message at place x, with its hint or none, leads from one configuration to another: the run
-- hasn't ended, the message is undelivered, and a rule says what it does.
pub record IsStep (g : Graph) (i : ℕ) (c : Config) (x : ℕ) (d : Delivery) (after : Config) : Type 0 where
  pub going : c.ended ≡ None
  pub there : slice_get c.bag x ≡ Some d.message
  pub effect : IsEffect g i c x d.message d.hint after

-- a restart is due: the run hasn't ended, and the next restart of the list comes after this number of deliveries
abbrev pub IsDue : Going → Type 0
IsDue s = (s.config.ended ≡ None) × (rest : List ℕ) × (s.restarts ≡ s.done ∷ rest)

-- a run on its way becomes ready for its next delivery, or for its end
pub data BecomesReady (g : Graph) (i : ℕ) (s : Going) : Going → Type 0 where
  -- Where no restart is due, it is ready.
  go_on : ¬ (IsDue s) → BecomesReady g i s s
  -- Where one is due, the initiator starts again.
  start_again : (rest : List ℕ) (c : Config) → s.restarts ≡ s.done ∷ rest → IsStart g i s.config c
      → BecomesReady g i s (record s { config = c; restarts = rest; restarted = s.restarted + 1 })

-- the deliveries lead from one state to another by steps, each from a place that the rule allows
abbrev pub StepsLead : Rule → Graph → ℕ → Going → List Delivery → Going → Type 0
StepsLead rule g i s [] end = BecomesReady g i s end
StepsLead rule g i s (d ∷ rest) end =
    (now : Going) × BecomesReady g i s now × (x : ℕ) × IsTrue (rule now.done now.config x)
    × (after : Config) × IsStep g i now.config x d after
    × StepsLead rule g i (record now { config = after; done = now.done + 1 }) rest end

-- A legal run that has ended: the initiator starts when no process has heard of anything, steps lead to the end, and
-- the run ends so. An initiator that is awake starts nothing, and its run is at rest.
pub record IsRunOfSteps (rule : Rule) (g : Graph) (i : ℕ) (restarts : List ℕ)
    (log : List Delivery) (ending : Ending) (end : Going) : Type 0 where
  pub asleep : IsFalse (is_awake g i) → (first : Config) × IsStart g i (nothing_yet g) first
      × StepsLead rule g i (going_from first restarts) log end × EndsAs end.config ending
  pub awake : IsTrue (is_awake g i)
      → (log ≡ []) × (ending ≡ AtRest) × (end ≡ going_from (nothing_yet g) [])
