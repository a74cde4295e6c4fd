-- A run on its way, and the deliveries that led there.
use Rattle.std.specs.Prelude.{◌≡◌, ◌≢◌, ◌⊎◌, ℕ, ◌+◌, ◌<◌, ◌^◌, List, [], length, slice_index, None, IsTrue}
use Rattle.cmh_graph.specs.Graph.{Graph, process_count, is_awake}
use Rattle.cmh_graph.specs.Build.{IsWellFormed}
use Rattle.cmh_process.specs.declared.message.Message.{Message}
use Rattle.cmh_process.specs.Process.{engages}
use Rattle.cmh_run.specs.declared.delivery.Delivery.{Delivery}
use Rattle.cmh_run.specs.Config.{Config, proc_at}
use Rattle.cmh_run.specs.Legal.{Going, going_at_start, after_due_restart, DeliveriesLead}
use Rattle.cmh_run.specs.Choices.{chosen_place}
use Rattle.cmh_run.specs.Run.{IsAccepted}

-- p may act: the run hasn't ended, its configuration has as many processes as the graph, and p is one of them
pub record MayAct (g : Graph) (c : Config) (p : ℕ) : Type 0 where
  pub size : length c.procs ≡ process_count g
  pub within : p < process_count g
  pub going : c.ended ≡ None

-- the initiator may start: it may act, and its next number is less than 2 ^ 32
pub record MayStart (g : Graph) (c : Config) (i : ℕ) : Type 0 where
  pub process : MayAct g c i
  pub next : (proc_at c.procs i).latest + 1 < 2 ^ 32

-- the message may be delivered: to a process, which has heard of no such number if it is awake
pub record MayReceive (g : Graph) (c : Config) (m : Message) : Type 0 where
  pub process : MayAct g c m.to
  pub unheard : IsTrue (is_awake g m.to) → IsTrue (engages (proc_at c.procs m.to) m.number)

-- a run on its way: what was fixed at its start, where it is, and the deliveries that led there
pub record RunState : Type 0 where
  pub graph : Graph
  pub initiator : ℕ
  pub choices : List ℕ
  pub going : Going
  pub log : List Delivery

-- the initiator was accepted, and the deliveries of the log have led from its start to where its run is, by the choices
pub record IsReady (restarts : List ℕ) (r : RunState) : Type 0 where
  pub accepted : IsAccepted r.graph r.initiator r.choices restarts
  pub well_formed : IsWellFormed r.graph
  pub leads : DeliveriesLead (chosen_place r.choices) r.graph r.initiator (going_at_start r.graph r.initiator restarts)
      r.log r.going
  pub count : r.going.done ≡ length r.log

-- the run is ready once a restart has come, if one is due
abbrev pub IsUnderWay : List ℕ → RunState → Type 0
IsUnderWay restarts r = IsReady restarts (record r { going = after_due_restart r.graph r.initiator r.going })

-- the next choice of a run on its way, once a restart has come, if one was due
pub record IsNextChoice (before after : RunState) (choice : ℕ) : Type 0 where
  pub ready : after ≡ record before { going = after_due_restart before.graph before.initiator before.going }
  pub chosen : choice ≡ slice_index after.choices after.going.done

-- the run has this graph, this initiator and these choices
pub record IsRunState (g : Graph) (i : ℕ) (given : List ℕ) (r : RunState) : Type 0 where
  pub graph : r.graph ≡ g
  pub initiator : r.initiator ≡ i
  pub choices : r.choices ≡ given

-- the run is ready, but nothing more is delivered: a declaration or a hint has ended it, or no message is undelivered
pub record IsAtEnd (restarts : List ℕ) (r : RunState) : Type 0 where
  pub ready : IsReady restarts r
  pub over : r.going.config.ended ≢ None ⊎ (r.going.config.bag ≡ [])
