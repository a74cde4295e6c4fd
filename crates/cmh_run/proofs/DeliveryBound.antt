-- The most deliveries that a run has.
use Rattle.cmh_run.proofs.Common.{Ending, IsTrue, ◌≡◌, ℕ, zero, suc, ◌+◌, ◌-◌, ◌<◌, ◌≤◌, Bool, true, false, cond, ltb, List, [], ◌∷◌, ◌++◌, map, remove, replicate, length, get_or, slice_get, slice_set, Option, Some, None, sum_by, refl, arith, ltb-true, length-replicate, Kind, Query, Reply, Message, Proc, Verdict, Deadlocked, Free, Delivery, new_proc, proc_started, start_action, proc_engaged, engage_action, engages, repeat_action, counts_reply, proc_replied, reply_action, Graph, process_count, dependents_of, is_idle, is_awake, IsWithinGraph, dependency_count, Process, nobody, IsWellFormed, asleep_is_idle, Config, query, proc_at, messages_of, after_engagement, after_answer, after_hint, without_message, after_delivery, start, nothing_yet, MayCome, going_from, going_at_start, Going, after_due_restart, going_after, DeliveriesLead, Rule, IsRun, get_or-le-sum_by, sum_by-remove, sum_by-append, sum_by-cons, mul-le-mul_left, ◌*◌, slice_get_within, get_or_from_slice_get}
use Rattle.std.specs.List.{range_with_len}
use Rattle.std.proofs.lemmas.List.FromFn.{length-range_with_len, get_or-range_with_len}
use Rattle.std.proofs.lemmas.Bool.Decides.{nat_tests}
use Rattle.std.proofs.lemmas.List.Sums.{sum_by-le}
use Rattle.cmh_graph.specs.Graph.{dependencies_of, indices}
use Rattle.cmh_graph.specs.declared.TheConstants.{MAX_PROCESSES, MAX_DEPENDENCIES}
use Rattle.cmh_run.proofs.LiveInvariant.{IsSoundMessage}
use Rattle.cmh_run.specs.Config.{after_reply}
use Rattle.cmh_run.proofs.Configurations.{IsSoundConfig, either, counts_parts, coming, by_delivery, by_restart, by_start, status_none, fresh_at, ready_stands, delivered}

-- the number of deliveries that a message of this kind leads to: a query leads to a reply
abbrev kind_weight : Kind → ℕ
kind_weight Query = 2
kind_weight Reply = 1

-- the number of deliveries that a message leads to
abbrev weight : Message → ℕ
weight m = kind_weight m.kind

-- the number of deliveries that the messages still lead to
abbrev load : List Message → ℕ
load bag = sum_by weight bag

-- a reply that is owed to the engager
abbrev owing : Option ℕ → ℕ → ℕ
owing None num = 0
owing (Some e) num = cond (ltb 0 num) 1 0

-- how many dependencies process k has
abbrev width : Graph → ℕ → ℕ
width g k = length (dependencies_of g k)

-- what process k may still lead to: it may engage once for each number that it hasn't heard of
abbrev share : Graph → ℕ → ℕ → Proc → ℕ
share g n k p = owing p.engager p.num + 2 * (width g k * (n - p.latest))

-- what these processes, of which the first is process k, may still lead to
abbrev total : Graph → ℕ → ℕ → List Proc → ℕ
total g n k [] = 0
total g n k (p ∷ procs) = share g n k p + total g n (k + 1) procs

-- a change of one process changes the total by its share alone
total_set : (g : Graph) (n a : ℕ) (procs : List Proc) (x k : ℕ) (p : Proc) → x < length procs → a + x ≡ k
    → total g n a (slice_set procs x p) + share g n k (proc_at procs x) ≡ total g n a procs + share g n k p
total_set g n a [] x k p h e = absurd (omega arith)
total_set g n a (q ∷ procs) zero k p h e = let same : a ≡ k = omega arith in rw same (omega arith)
total_set g n a (q ∷ procs) (suc x) k p h e =
    omega (arith, total_set g n (a + 1) procs x k p (omega arith) (omega arith))

-- the most deliveries that the messages and the processes still lead to
pub phi : Graph → ℕ → List Proc → List Message → ℕ
phi g n procs bag = load bag + total g n 0 procs

-- the measure of a configuration
abbrev pub phi_of : Graph → Config → ℕ
phi_of g c = phi g c.number c.procs c.bag

-- a message that is taken takes its weight from the load
load_remove : (bag : List Message) (x : ℕ) (m : Message) → slice_get bag x ≡ Some m
    → load (remove bag x) + kind_weight m.kind ≡ load bag
load_remove bag x m e =
    rw (get_or_from_slice_get bag x m m e) at
    (sum_by-remove weight bag x m (slice_get_within bag x m e))

-- the load of queries is two for each
load_queries : (i n k : ℕ) (ds : List ℕ) → load (map (λ (y : ℕ). query i n k y) ds) ≡ 2 * length ds
load_queries i n k [] = refl
load_queries i n k (d ∷ ds) =
    rw (
      sum_by-cons weight (query i n k d) (map (λ (y : ℕ). query i n k y) ds),
      load_queries i n k ds,
    ) (omega arith)

-- engaging pays for its queries
engaging_pays : (g : Graph) (i n k number from : ℕ) (p : Proc) (ds : List ℕ) → length ds ≤ width g k
    → p.latest < number → number ≤ n
    → load (messages_of i number k ds (engage_action from (length ds)))
    + share g n k (proc_engaged number from (length ds)) + 1 ≤ 2 + share g n k p
engaging_pays g i n k number from p ds h a b =
    let fewer : suc (n - number) ≤ n - p.latest = omega arith in
    grind (arith, nat_tests, load_queries i number k ds, mul-le-mul_left (width g k) fewer)

module _ {g : Graph} {i : ℕ} {c : Config} {x : ℕ} {d : Delivery} (h : IsSoundConfig g i c) (may : MayCome g c x d) where
  -- the message that comes
  abbrev m : Message
  m = d.message

  -- the receiver of m
  abbrev to : Proc
  to = proc_at c.procs m.to

  -- the measure is lower in this configuration than before the delivery
  abbrev falls_here : Config → Type 0
  falls_here e = phi_of g e + 1 ≤ phi_of g c

  -- what is true of each undelivered message is true of m
  fine : IsSoundMessage g i c.number (proc_at c.procs) m
  fine = coming h may

  -- the measure is lower once the receiver is p and these messages were sent, if they and its share weigh less than m
  falls : (p : Proc) (new : List Message)
      → load new + share g c.number m.to p + 1 ≤ kind_weight m.kind + share g c.number m.to to
      → phi g c.number (slice_set c.procs m.to p) (remove c.bag x ++ new) + 1 ≤ phi_of g c
  unfolding phi
  falls p new less = omega (
    arith,
    load_remove c.bag x m may.there,
    sum_by-append weight (remove c.bag x) new,
    total_set g c.number 0 c.procs m.to m.to p (omega (arith, h.size, fine.to_in)) (omega arith),
  )

  -- once m is taken the measure is lower
  taken_off : falls_here (without_message c x)
  unfolding phi
  taken_off =
      let some : 1 ≤ kind_weight m.kind = grind arith in
      omega (arith, load_remove c.bag x m may.there)

  -- a query that engages its receiver lowers the measure, whichever dependents it asks
  engaging_falls : (ds : List ℕ) → m.kind ≡ Query → engages to m.number ≡ true → length ds ≤ width g m.to
      → falls_here (after_engagement i (without_message c x) m ds)
  engaging_falls ds kind new within =
      rw new (falls (proc_engaged m.number m.from (length ds))
      (messages_of i m.number m.to ds (engage_action m.from (length ds)))
      (rw kind
      (engaging_pays g i c.number m.to m.number m.from to ds within (ltb-true to.latest m.number new) fine.low)))

  -- a query that would engage its receiver lowers the measure, whatever the hint
  asked_falls : is_awake g m.to ≡ false → m.kind ≡ Query → engages to m.number ≡ true → (hint : Option Verdict)
      → falls_here (after_hint g i (without_message c x) m hint)
  asked_falls rests kind new None =
      engaging_falls (dependents_of g m.to) kind new (rw (asleep_is_idle g m.to rests) (omega arith))
  asked_falls rests kind new (Some Deadlocked) = engaging_falls [] kind new (omega arith)
  asked_falls rests kind new (Some Free) = taken_off

  -- a query that doesn't engage its receiver lowers the measure
  repeat_falls : m.kind ≡ Query → engages to m.number ≡ false → falls_here (after_answer i (without_message c x) m)
  repeat_falls kind old =
      rw old (falls to (messages_of i m.number m.to [] (repeat_action to m.number m.from))
      (rw kind (grind arith)))

  -- a reply lowers the measure
  reply_falls : m.kind ≡ Reply → falls_here (after_reply i (without_message c x) m)
  reply_falls kind =
      falls (proc_replied to m.number) (messages_of i m.number m.to [] (reply_action to m.number))
      (rw kind (either (counts_reply to m.number)
      (λ e. rw e (grind (arith, nat_tests, counts_parts to m.number e))) (λ e. rw e (omega arith))))

  -- a delivery lowers the measure of a configuration
  pub delivered_falls : falls_here (after_delivery g i c x m d.hint)
  delivered_falls = by_delivery falls_here g i c x m d.hint (λ up. taken_off)
      (λ rests kind new. asked_falls rests kind new d.hint) (λ rests. repeat_falls) (λ rests. reply_falls)

-- all dependencies of a graph are few enough for each delivery of a run to be counted
pub few_dependencies : (g : Graph) → IsWellFormed g → dependency_count g ≤ MAX_DEPENDENCIES * MAX_PROCESSES
few_dependencies g w = omega (
  arith,
  sum_by-le (width g) MAX_DEPENDENCIES (indices g)
      (λ k d h. grind (
        arith,
        w.dependencies,
        length-range_with_len 0 (process_count g),
        get_or-range_with_len 0 (process_count g) k d,
        get_or-le-sum_by (λ (q : Process). length q.dependents) g.processes (get_or (indices g) k d) nobody,
      )),
  length-range_with_len 0 (process_count g),
  w.processes,
)

-- with the number one greater, the total rises by at most two for each dependency
total_rises : (g : Graph) (n m k : ℕ) (procs : List Proc) → m ≤ n + 1
    → total g m k procs ≤ total g n k procs + 2 * sum_by (width g) (range_with_len k (length procs))
total_rises g n m k [] h = omega arith
total_rises g n m k (p ∷ procs) h =
    let later : m - p.latest ≤ suc (n - p.latest) = omega arith in
    omega (
      arith,
      total_rises g n m (k + 1) procs h,
      mul-le-mul_left (width g k) later,
      sum_by-cons (width g) k (range_with_len (k + 1) (length procs)),
    )

-- a start raises the measure by at most two for each dependency
start_raises : (g : Graph) (i : ℕ) (c : Config) → i < process_count g → is_idle g i ≡ true
    → length c.procs ≡ process_count g → (proc_at c.procs i).latest ≤ c.number
    → phi_of g (start g i c) ≤ phi_of g c + 2 * dependency_count g
unfolding phi
start_raises g i c within idle size low =
    let mine : share g n i p ≡ 0 = grind arith in
    let before : 2 * length (dependents_of g i) ≤ share g n i (proc_at c.procs i) = grind arith in
    omega (
      arith,
      sum_by-append weight c.bag
          (messages_of i n i (dependents_of g i) (start_action (length (dependents_of g i)))),
      total_set g n 0 c.procs i i p (omega arith) (omega arith),
      rw size at (total_rises g c.number n 0 c.procs (omega arith)),
      mine,
      before,
      loads (dependents_of g i),
    )
  where
    n : ℕ
    n = (proc_at c.procs i).latest + 1

    p : Proc
    p = proc_started (proc_at c.procs i) (length (dependents_of g i))

    loads : (ds : List ℕ) → load (messages_of i n i ds (start_action (length ds))) ≤ 2 * length ds
    loads ds = grind (arith, nat_tests, load_queries i n i ds)

-- a restart that is due raises the measure by at most two for each dependency
ready_raises : (g : Graph) (i : ℕ) (s : Going) → i < process_count g → is_idle g i ≡ true → IsSoundConfig g i s.config
    → phi_of g (after_due_restart g i s).config + 2 * dependency_count g * s.restarted
    ≤ phi_of g s.config + 2 * dependency_count g * (after_due_restart g i s).restarted
ready_raises g i s within idle h =
    by_restart
    (λ t. phi_of g t.config + 2 * dependency_count g * s.restarted
    ≤ phi_of g s.config + 2 * dependency_count g * t.restarted) g i s s.restarts (omega arith)
    (λ e rest. let live = status_none g i s.config h e in
    let raised = start_raises g i s.config within idle h.size (live.0.sound.latest i) in omega arith)

-- the deliveries are at most the measure, and two for each dependency and later restart
leads_short : (rule : Rule) (g : Graph) (i : ℕ) → IsWithinGraph g → i < process_count g
    → is_idle g i ≡ true → is_awake g i ≡ false → (log : List Delivery) (s end : Going) → IsSoundConfig g i s.config
    → DeliveriesLead rule g i s log end
    → length log + 2 * dependency_count g * s.restarted ≤ phi_of g s.config + 2 * dependency_count g * end.restarted
leads_short rule g i ok within idle rests [] s end h l =
    rw (← l) (omega (arith, ready_raises g i s within idle h))
leads_short rule g i ok within idle rests (d ∷ log) s end h l =
    let now = ready_stands g i s ok within rests h s.restarts in
    omega (
      arith,
      ready_raises g i s within idle h,
      delivered_falls now l.1,
      leads_short rule g i ok within idle rests log (going_after g i (after_due_restart g i s) l.0 d) end
          (delivered ok now l.1) l.3,
    )

-- processes that have heard of nothing lead to no delivery
fresh_total : (g : Graph) (k n : ℕ) → total g 0 k (replicate n new_proc) ≡ 0
fresh_total g k zero = refl
fresh_total g k (suc n) = omega (arith, fresh_total g (k + 1) n)

-- before the start the measure is 0
phi_nothing : (g : Graph) → phi_of g (nothing_yet g) ≡ 0
unfolding phi
phi_nothing g = omega (arith, fresh_total g 0 (process_count g))

-- wherever deliveries lead from the start, they are at most two for each dependency and start
pub leads_are_short : (rule : ℕ → Config → ℕ → Bool) (g : Graph) (i : ℕ) (restarts : List ℕ) (log : List Delivery)
    (end : Going)
    → IsWithinGraph g → is_idle g i ≡ true → DeliveriesLead rule g i (going_at_start g i restarts) log end
    → length log ≤ 2 * dependency_count g * (end.restarted + 1)
leads_are_short rule g i restarts log end ok idle all =
    by_start rule g i restarts log end ok idle all (λ up silent still. rw silent (omega arith))
    (λ rests within first l.
    omega (
      arith,
      leads_short rule g i ok within idle rests log (going_from (start g i (nothing_yet g)) restarts) end first l,
      start_raises g i (nothing_yet g) within idle (length-replicate (process_count g) new_proc)
          (rw fresh_at (omega arith)),
      phi_nothing g,
    ))

-- a run that has ended has at most two deliveries for each dependency and start
pub deliveries_are_bounded : (rule : Rule) (g : Graph) (i : ℕ) (restarts : List ℕ)
    (log : List Delivery) (ending : Ending) (end : Going)
    → IsWithinGraph g → IsTrue (is_idle g i) → IsRun rule g i restarts log ending end
    → length log ≤ 2 * dependency_count g * (end.restarted + 1)
deliveries_are_bounded rule g i restarts log ending end ok idle run =
    leads_are_short rule g i restarts log end ok idle run.leads
