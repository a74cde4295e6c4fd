-- What one process does at a start, at a query and at a reply: how it is afterwards, and its action.
use Rattle.std.specs.Prelude.{ℕ, ◌+◌, ◌-◌, Bool, true, false, ◌&&◌, ◌==◌, nat_lt, if◌then◌else◌, Option, Some, None}
use Rattle.cmh_process.specs.declared.process.Proc.{Proc}
use Rattle.cmh_process.specs.declared.process.Action.{Action}
use Rattle.cmh_process.specs.declared.process.Action.TheVariants.{Nothing, Engage, ReplyTo, Declare}

-- a process that has taken part in no computation
abbrev pub new_proc : Proc
new_proc = record { latest = 0; engager = None; num = 0; wait = false }

-- the initiator after a start: it takes its next number, and waits for this many replies
abbrev pub proc_started : Proc → ℕ → Proc
proc_started p size = record {
  latest = p.latest + 1;
  engager = None;
  num = size;
  wait = true;
}

-- what the initiator does at a start: without dependents it is deadlocked at once
abbrev pub start_action : ℕ → Action
start_action size = if size == 0 then Declare else Engage

-- the number of a query is above the process's latest, so the query engages it
abbrev pub engages : Proc → ℕ → Bool
engages p number = nat_lt p.latest number

-- a process after a query has engaged it: it takes the query's number, and waits for this many replies
abbrev pub proc_engaged : ℕ → ℕ → ℕ → Proc
proc_engaged number from size = record {
  latest = number;
  engager = Some from;
  num = size;
  wait = true;
}

-- what a process does when a query engages it: without dependents it replies at once
abbrev pub engage_action : ℕ → ℕ → Action
engage_action from size = if size == 0 then ReplyTo from else Engage

-- a process with `size` dependents, after a query with this number from that process
abbrev pub proc_queried : Proc → ℕ → ℕ → ℕ → Proc
proc_queried p number from size = if engages p number then proc_engaged number from size else p

-- what a process does at a query that doesn't engage it: it replies if it waits in the query's computation
abbrev pub repeat_action : Proc → ℕ → ℕ → Action
repeat_action p number from = if p.wait && p.latest == number then ReplyTo from else Nothing

-- what a process with `size` dependents does at a query with this number from that process
abbrev pub query_action : Proc → ℕ → ℕ → ℕ → Action
query_action p number from size =
    if engages p number then engage_action from size else repeat_action p number from

-- a reply with this number is one for which the process waits
abbrev pub counts_reply : Proc → ℕ → Bool
counts_reply p number = p.wait && (p.latest == number && nat_lt 0 p.num)

-- a process after a reply with this number: if it counts, there is one fewer to wait for
abbrev pub proc_replied : Proc → ℕ → Proc
proc_replied p number = if counts_reply p number then record p { num = p.num - 1 } else p

-- what a process does once the last reply has come: it replies to its engager, which the initiator alone doesn't have
abbrev pub last_action : Option ℕ → Action
last_action None = Declare
last_action (Some engager) = ReplyTo engager

-- what a process does at a reply with this number
abbrev pub reply_action : Proc → ℕ → Action
reply_action p number =
    if counts_reply p number
    then (if p.num == 1 then last_action p.engager else Nothing)
    else Nothing
