-- Configurations of one initiator's computations, and what a start and a delivery do to them. 'Configuration' is the
-- literature's word for the state of a network: its processes, each in its state, and the messages under way.
use Rattle.std.specs.Prelude.{ℕ, ◌+◌, Bool, true, false, not, ◌&&◌, ◌==◌, if◌then◌else◌, List, [], ◌∷◌, ◌++◌, length, map, remove, replicate, slice_set, slice_index_or, Option, Some, None}
use Rattle.cmh_graph.specs.declared.verdict.Verdict.{Verdict}
use Rattle.cmh_graph.specs.declared.verdict.Verdict.TheVariants.{Deadlocked, Free}
use Rattle.cmh_graph.specs.Graph.{Graph, process_count, dependents_of, is_awake}
use Rattle.cmh_process.specs.declared.message.Kind.{Kind}
use Rattle.cmh_process.specs.declared.message.Kind.TheVariants.{Query, Reply}
use Rattle.cmh_process.specs.declared.message.Message.{Message}
use Rattle.cmh_process.specs.declared.process.Proc.{Proc}
use Rattle.cmh_process.specs.declared.process.Action.{Action}
use Rattle.cmh_process.specs.declared.process.Action.TheVariants.{Nothing, Engage, ReplyTo, Declare}
use Rattle.cmh_process.specs.Process.{new_proc, proc_started, start_action, engages, proc_queried, query_action, proc_replied, reply_action}
use Rattle.cmh_run.specs.declared.delivery.Ending.{Ending}
use Rattle.cmh_run.specs.declared.delivery.Ending.TheVariants.{Declared, CutFree}

-- The undelivered messages and the processes. Besides, the number of the last start; the processes that are engaged in
-- that computation, in order, the initiator first; and how the run ended, if a declaration or a hint has ended it.
pub record Config : Type 0 where
  pub bag : List Message
  pub procs : List Proc
  pub number : ℕ
  pub engaged : List ℕ
  pub ended : Option Ending

-- what process k keeps
abbrev pub proc_at : List Proc → ℕ → Proc
proc_at procs k = slice_index_or procs k new_proc

-- the query of a computation from one process to another
abbrev pub query : ℕ → ℕ → ℕ → ℕ → Message
query i number from to =
    record { kind = Query; initiator = i; number = number; from = from; to = to }

-- the reply of a computation from one process to another
abbrev pub reply : ℕ → ℕ → ℕ → ℕ → Message
reply i number from to =
    record { kind = Reply; initiator = i; number = number; from = from; to = to }

-- what process k sends by an action: queries in the order of the dependents, one reply, or nothing
abbrev pub messages_of : ℕ → ℕ → ℕ → List ℕ → Action → List Message
messages_of i number k dependents Nothing = []
messages_of i number k dependents Engage = map (λ (r : ℕ). query i number k r) dependents
messages_of i number k dependents (ReplyTo to) = reply i number k to ∷ []
messages_of i number k dependents Declare = []

-- of all actions a declaration alone ends the run
abbrev pub ending_after : Action → Option Ending
ending_after Declare = Some Declared
ending_after Nothing = None
ending_after Engage = None
ending_after (ReplyTo to) = None

-- the configuration of this number of processes, none of which has heard of anything
abbrev pub blank_config : ℕ → Config
blank_config count = record {
  bag = [];
  procs = replicate count new_proc;
  number = 0;
  engaged = [];
  ended = None;
}

-- the configuration in which no process of the graph has heard of anything
abbrev pub nothing_yet : Graph → Config
nothing_yet g = blank_config (process_count g)

-- the configuration once the initiator starts with its next number
abbrev pub start : Graph → ℕ → Config → Config
start g i c =
    let p = proc_at c.procs i in
    let dependents = dependents_of g i in
    let action = start_action (length dependents) in
    record {
      bag = c.bag ++ messages_of i (p.latest + 1) i dependents action;
      procs = slice_set c.procs i (proc_started p (length dependents));
      number = p.latest + 1;
      engaged = i ∷ [];
      ended = ending_after action;
    }

-- the configuration after an action of process k: it sends, ends the run, or does nothing
abbrev pub after_action : ℕ → Config → ℕ → ℕ → List ℕ → Action → Config
after_action i c number k dependents action = record c {
  bag = c.bag ++ messages_of i number k dependents action;
  ended = ending_after action;
}

-- the configuration after a step of process k, which becomes p and takes this action
abbrev pub after_step : ℕ → Config → ℕ → ℕ → List ℕ → Proc → Action → Config
after_step i c number k dependents p action = after_action i c' number k dependents action where
  c' : Config
  c' = record c { procs = slice_set c.procs k p }

-- The configuration once a query engages its receiver, which asks these. A receiver that engages with an older number
-- doesn't join the engaged.
abbrev pub after_engagement : ℕ → Config → Message → List ℕ → Config
after_engagement i c m dependents =
    let p = proc_at c.procs m.to in
    let action = query_action p m.number m.from (length dependents) in
    record c {
      bag = c.bag ++ messages_of i m.number m.to dependents action;
      procs = slice_set c.procs m.to (proc_queried p m.number m.from (length dependents));
      engaged = if m.number == c.number then c.engaged ++ m.to ∷ [] else c.engaged;
      ended = None;
    }

-- The configuration after a query that would engage its receiver, with this hint about it. A receiver that is known to
-- be deadlocked engages as one without dependents. One that is known to be free ends the run.
abbrev pub after_hint : Graph → ℕ → Config → Message → Option Verdict → Config
after_hint g i c m None = after_engagement i c m (dependents_of g m.to)
after_hint g i c m (Some Deadlocked) = after_engagement i c m []
after_hint g i c m (Some Free) = record c { ended = Some (CutFree m.to) }

-- the configuration after a query that doesn't engage its receiver
abbrev pub after_answer : ℕ → Config → Message → Config
after_answer i c m =
    let p = proc_at c.procs m.to in
    let next = proc_queried p m.number m.from 0 in
    after_step i c m.number m.to [] next (query_action p m.number m.from 0)

-- the configuration once the receiver has received a reply
abbrev pub after_reply : ℕ → Config → Message → Config
after_reply i c m =
    let p = proc_at c.procs m.to in
    after_step i c m.number m.to [] (proc_replied p m.number) (reply_action p m.number)

-- the configuration after a message to a process that isn't awake
abbrev pub after_message : Graph → ℕ → Config → Message → Kind → Option Verdict → Config
after_message g i c m Query hint =
    if engages (proc_at c.procs m.to) m.number then after_hint g i c m hint else after_answer i c m
after_message g i c m Reply hint = after_reply i c m

-- the configuration once the message at place x is taken
abbrev pub without_message : Config → ℕ → Config
without_message c x = record c { bag = remove c.bag x }

-- The configuration after the delivery of m, which stood at place x, with this hint. An awake process discards m.
abbrev pub after_delivery : Graph → ℕ → Config → ℕ → Message → Option Verdict → Config
after_delivery g i c x m hint =
    if is_awake g m.to then without_message c x else after_message g i (without_message c x) m m.kind hint

-- the kind is that of a query
abbrev pub is_query : Kind → Bool
is_query Query = true
is_query Reply = false

-- hints are asked about the receiver of m before m is delivered
abbrev pub asks_hint : Graph → Config → Message → Bool
asks_hint g c m =
    is_query m.kind && (not (is_awake g m.to) && engages (proc_at c.procs m.to) m.number)
