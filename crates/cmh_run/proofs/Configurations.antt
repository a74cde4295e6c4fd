-- From the steps over functions to configurations and whole runs.
use Rattle.cmh_run.proofs.Common.{ending_after, ReplyTo, Action, set-get_or, ◌≡◌, ℕ, zero, suc, ◌+◌, ◌-◌, ◌<◌, ◌≤◌, Bool, true, false, ◌&&◌, cond, eqb, List, [], ◌∷◌, ◌++◌, remove, replicate, length, slice_get, slice_set, Contains, Option, Some, None, is_none, refl, sym, ◌∙◌, ap, subst, arith, inl, inr, ◌⊎◌, ⊎_elim, append-nil, eqb-true, eqb-false, eq-eqb, and_parts, ltb-true, length-replicate, none-some, Kind, Query, Reply, Message, Proc, Nothing, Verdict, Deadlocked, Free, Delivery, Ending, Declared, AtRest, CutFree, new_proc, proc_started, proc_engaged, last_action, engages, counts_reply, Graph, process_count, dependents_of, is_awake, Depends, IsWithinGraph, Reaches, IsDeadlocked, asleep_is_idle, by_test, Config, proc_at, messages_of, after_step, after_engagement, after_hint, after_answer, after_message, without_message, after_delivery, start, nothing_yet, is_idle, idle_within, HintIsFit, MayCome, going_from, going_at_start, EndsAs, Rule, Going, after_restart, after_first_restart, after_due_restart, going_after, DeliveriesLead}
use Rattle.std.proofs.Common.{length-set}
use Rattle.std.proofs.lemmas.Bool.Decides.{nat_tests}
use Rattle.cmh_graph.proofs.PositionLemmas.{cases_number}
use Rattle.cmh_run.specs.Config.{after_reply}
use Rattle.cmh_run.proofs.Tally.{tally, tally-le-length, tally_from_contains, contains_from_tally}
use Rattle.cmh_run.proofs.InvariantSteps.{upd, AllowsStart, allows_start}
use Rattle.cmh_run.proofs.Tokens.{Each, each_at, tokens, set_is, is_token_parts}
use Rattle.cmh_run.proofs.LiveInvariant as live
use Rattle.cmh_run.proofs.LiveInvariant.{IsSoundRun, IsSoundMessage, started}

-- what follows by each answer of a test follows
pub either : {P : Type 0} (b : Bool) → (b ≡ true → P) → (b ≡ false → P) → P
either {P = P} b holds fails = by_test b (λ _. P) holds fails

-- a process for which a reply counts waits, in this computation, for some reply
pub counts_parts : (p : Proc) (number : ℕ) → counts_reply p number ≡ true
    → (p.wait ≡ true) × (p.latest ≡ number) × (0 < p.num)
counts_parts p number e = grind (arith, nat_tests)

-- what is true after a message of each kind is true after a delivery
pub by_delivery : (P : Config → Type 0) (g : Graph) (i : ℕ) (c : Config) (x : ℕ) (m : Message) (hint : Option Verdict)
    → (is_awake g m.to ≡ true → P (without_message c x))
    → (is_awake g m.to ≡ false → m.kind ≡ Query → engages (proc_at c.procs m.to) m.number ≡ true
    → P (after_hint g i (without_message c x) m hint))
    → (is_awake g m.to ≡ false → m.kind ≡ Query → engages (proc_at c.procs m.to) m.number ≡ false
    → P (after_answer i (without_message c x) m))
    → (is_awake g m.to ≡ false → m.kind ≡ Reply → P (after_reply i (without_message c x) m))
    → P (after_delivery g i c x m hint)
by_delivery P g i c x m hint discarded asked answered replied =
    by_test (is_awake g m.to)
    (λ b. P (cond b (without_message c x) (after_message g i (without_message c x) m m.kind hint)))
    discarded (λ e. received e m.kind refl)
  where
    received : is_awake g m.to ≡ false → (k : Kind) → m.kind ≡ k → P (after_message g i (without_message c x) m k hint)
    received e Reply kind = replied e kind
    received e Query kind =
        by_test (engages (proc_at c.procs m.to) m.number)
        (λ b. P (cond b (after_hint g i (without_message c x) m hint) (after_answer i (without_message c x) m)))
        (asked e kind) (answered e kind)

-- an ending that is tested to be none is none
pub is_none_true : (o : Option Ending) → is_none o ≡ true → o ≡ None
is_none_true o h = grind arith

-- what is true of a run, and of one that hasn't ended after a restart, is true after the restart that is due
pub by_restart : (P : Going → Type 0) (g : Graph) (i : ℕ) (s : Going) (ns : List ℕ) → P s
    → (s.config.ended ≡ None → (rest : List ℕ) → P (after_restart g i s rest)) → P (after_first_restart g i s ns)
by_restart P g i s [] same again = same
by_restart P g i s (n ∷ ns) same again =
    by_test (is_none s.config.ended && eqb n s.done) (λ b. P (cond b (after_restart g i s ns) s))
    (λ e. again (grind arith) ns) (λ e. same)

-- the run was cut at k, which was about to engage, and was sound before
pub record CutAt (g : Graph) (i n : ℕ) (F : ℕ → Proc) (engaged : List ℕ) (k : ℕ) : Type 0 where
  pub bag : List Message
  pub run : IsSoundRun g i n F bag engaged
  pub before : (F k).latest < n
  pub free : ¬ (IsDeadlocked g k)
  pub rests : is_awake g k ≡ false
  pub reached : Reaches g i k

-- what is true of a configuration, by how the run ended
abbrev pub Status : Graph → ℕ → ℕ → (ℕ → Proc) → List Message → List ℕ → Option Ending → Type 0
Status g i n F bag engaged None = IsSoundRun g i n F bag engaged × (0 < (F i).num)
Status g i n F bag engaged (Some Declared) = IsSoundRun g i n F bag engaged × ((F i).num ≡ 0)
Status g i n F bag engaged (Some AtRest) = ⊥
Status g i n F bag engaged (Some (CutFree k)) = CutAt g i n F engaged k

-- what stays true of a configuration, on its way and at its end
pub record IsSoundConfig (g : Graph) (i : ℕ) (c : Config) : Type 0 where
  pub size : length c.procs ≡ process_count g
  pub status : Status g i c.number (proc_at c.procs) c.bag c.engaged c.ended

-- what is true of each undelivered message is true of the one at a place
pub fine_at : {g : Graph} {i n : ℕ} {F : ℕ → Proc} {bag : List Message} {engaged : List ℕ}
    → IsSoundRun g i n F bag engaged → (x : ℕ) (m : Message) → slice_get bag x ≡ Some m → IsSoundMessage g i n F m
fine_at {g = g} {i = i} {n = n} {F = F} {bag = bag} L x m there = each_at (IsSoundMessage g i n F) bag x m L.fine there

-- a configuration with another process k is as it should be, if the run is with that process
changed : {g : Graph} {i : ℕ} {c : Config} (procs : List Proc) (k : ℕ) (p : Proc) → length procs ≡ process_count g
    → k < process_count g → c.procs ≡ slice_set procs k p
    → Status g i c.number (upd (proc_at procs) k p) c.bag c.engaged c.ended → IsSoundConfig g i c
changed {g = g} {i = i} {c = c} procs k p size within same h = record {
  size = ap length same ∙ length-set procs k p ∙ size;
  status =
      subst (λ (G : ℕ → Proc). Status g i c.number G c.bag c.engaged c.ended)
      (sym (ap proc_at same ∙ set_is procs k p (omega arith))) h;
}

module _ (g : Graph) (i : ℕ) (c : Config) (ok : IsWithinGraph g) (size : length c.procs ≡ process_count g)
    (going : c.ended ≡ None) (L : IsSoundRun g i c.number (proc_at c.procs) c.bag c.engaged)
    (more : 0 < (proc_at c.procs i).num) (x : ℕ) (m : Message) (there : slice_get c.bag x ≡ Some m) where
  -- the receiver of m
  abbrev to : Proc
  to = proc_at c.procs m.to

  -- what is true of each undelivered message is true of m
  fine_m : IsSoundMessage g i c.number (proc_at c.procs) m
  fine_m = fine_at L x m there

  -- where a query engages its receiver, which asks these dependents, what is true of a configuration stays true
  engaging : (ds : List ℕ) → m.kind ≡ Query → engages to m.number ≡ true → is_awake g m.to ≡ false
      → ((r : ℕ) → 0 < tally r ds → Depends g m.to r) → ((r : ℕ) → tally r ds ≤ tally r (dependents_of g m.to))
      → IsDeadlocked g m.to ⊎ ((r : ℕ) → Contains (dependents_of g m.to) r → 0 < tally r ds)
      → IsSoundConfig g i (after_engagement i (without_message c x) m ds)
  engaging ds kind new rests known few settled =
      rw new (changed c.procs m.to p size fine_m.to_in refl (
        either (eqb m.number c.number)
            (λ e. rw e (live.engages g i c.number (proc_at c.procs) c.bag c.engaged ok L x m there ds kind
            (eqb-true m.number c.number e) before rests known few settled))
            (λ e. rw e (live.engages_older g i c.number (proc_at c.procs) c.bag c.engaged ok L x m there ds kind
            (omega (arith, fine_m.low, eqb-false m.number c.number e)) before rests known)),
        grind (arith, nat_tests, before, L.sound.root_in),
      ))
    where
      p : Proc
      p = proc_engaged m.number m.from (length ds)

      before : to.latest < c.number
      before = omega (arith, ltb-true to.latest m.number new, fine_m.low)

  -- an action of a receiver that stays as it was, and doesn't end the run, keeps what is true of a configuration
  quiet : (act : Action) → ending_after act ≡ None
      → IsSoundRun g i c.number (proc_at c.procs) (remove c.bag x ++ messages_of i m.number m.to [] act) c.engaged
      → IsSoundConfig g i (after_step i (without_message c x) m.number m.to [] to act)
  quiet act calm l = rw (set-get_or, calm) (record { size = size; status = (l, more) })

  -- what is true of a configuration stays true after a query that doesn't engage its receiver
  not_engaging : m.kind ≡ Query → engages to m.number ≡ false
      → IsSoundConfig g i (after_answer i (without_message c x) m)
  not_engaging kind old =
      rw old (either (to.wait && eqb to.latest m.number)
      (λ e. rw e (quiet (ReplyTo m.from) refl
      (live.repeated g i c.number (proc_at c.procs) c.bag c.engaged ok L x m there kind
      (eqb-true to.latest m.number (and_parts to.wait (eqb to.latest m.number) e).1))))
      (λ e. rw e (quiet Nothing refl (rw append-nil
      (live.dropped g i c.number (proc_at c.procs) c.bag c.engaged ok L x m there (λ a r rest y.
      grind (
        arith,
        nat_tests,
        is_token_parts c.number a r m y,
        L.sound.latest m.to,
        L.sound.waits m.to,
        fine_m.positive,
      )))))))

  -- what is true of a configuration stays true after a reply
  replying : m.kind ≡ Reply → IsSoundConfig g i (after_reply i (without_message c x) m)
  replying kind =
      either (counts_reply to m.number)
      (λ e. let p = counts_parts to m.number e in
      rw e (changed c.procs m.to lower size fine_m.to_in refl (either (eqb to.num 1)
      (λ last. ⊎_elim
      (λ (t : (k : ℕ) × (to.engager ≡ Some k)).
      rw (last, t.1) (rw (last, t.1) at (run p), grind (arith, nat_tests, L.sound.root_top)))
      (λ (t : to.engager ≡ None).
      rw (last, t) (rw (last, t) at (run p), grind (arith, nat_tests, L.sound.tops m.to, fine_m.positive)))
      (cases_number to.engager))
      (λ left. rw left (rw left at (run p), grind (arith, nat_tests))))))
      (λ e. rw e (quiet Nothing refl (rw append-nil
      (live.dropped g i c.number (proc_at c.procs) c.bag c.engaged ok L x m there (λ a r rest y.
      grind (
        arith,
        nat_tests,
        is_token_parts c.number a r m y,
        live.waiting g i c.number (proc_at c.procs) c.bag c.engaged ok L x m there a r y,
        L.sound.waits m.to,
        L.sound.positive,
        L.sound.nums m.to,
        tally-le-length r (L.out m.to),
      ))))))
    where
      lower : Proc
      lower = record to { num = to.num - 1 }

      run : (to.wait ≡ true) × (to.latest ≡ m.number) × (0 < to.num)
          → IsSoundRun g i c.number (upd (proc_at c.procs) m.to lower)
          (remove c.bag x ++ messages_of i m.number m.to [] (cond (eqb to.num 1) (last_action to.engager) Nothing))
          c.engaged
      run p = either (eqb m.number c.number)
          (λ e. live.replied g i c.number (proc_at c.procs) c.bag c.engaged ok L x m there kind
          (eqb-true m.number c.number e))
          (λ e. live.replied_older g i c.number (proc_at c.procs) c.bag c.engaged ok L x m there
          (omega (arith, fine_m.low, eqb-false m.number c.number e)) p.0 p.1 (eqb to.num 1))

  -- what is true of a configuration stays true after a query that would engage, with any fit hint
  asked : m.kind ≡ Query → engages to m.number ≡ true → is_awake g m.to ≡ false
      → (hint : Option Verdict) → HintIsFit g c m hint → IsSoundConfig g i (after_hint g i (without_message c x) m hint)
  asked kind new rests None fit =
      engaging (dependents_of g m.to) kind new rests
      (λ r h. (asleep_is_idle g m.to rests, contains_from_tally r (dependents_of g m.to) h)) (λ r. omega arith)
      (inr (λ r h. tally_from_contains r (dependents_of g m.to) h))
  asked kind new rests (Some Deadlocked) fit =
      engaging [] kind new rests (λ r h. absurd (omega arith)) (λ r. omega arith) (inl fit.1)
  asked kind new rests (Some Free) fit = record {
    size = size;
    status = record {
      bag = c.bag;
      run = L;
      before = omega (arith, fine_m.low, ltb-true to.latest m.number new);
      free = fit.1;
      rests = rests;
      reached = (fine_m.asked kind).1;
    };
  }

  -- a delivery with a fit hint keeps what is true of a configuration
  pub stepped : (hint : Option Verdict) → HintIsFit g c m hint → IsSoundConfig g i (after_delivery g i c x m hint)
  stepped hint fit =
      by_delivery (IsSoundConfig g i) g i c x m hint
      (λ e. record {
        size = size;
        status = rw going (live.discarded g i c.number (proc_at c.procs) c.bag c.engaged ok L x m there e, more);
      })
      (λ e kind new. asked kind new e hint fit) (λ e. not_engaging) (λ e. replying)

-- what is true of a configuration is true after a start of the initiator with a greater number
starting : (g : Graph) (i : ℕ) (c : Config) → IsWithinGraph g → i < process_count g → is_awake g i ≡ false
    → length c.procs ≡ process_count g → AllowsStart g i c.number (proc_at c.procs)
    → c.number ≤ (proc_at c.procs i).latest
    → Each (IsSoundMessage g i c.number (proc_at c.procs)) c.bag
    → ((k e : ℕ) → (proc_at c.procs k).engager ≡ Some e → e < process_count g) → IsSoundConfig g i (start g i c)
starting g i c ok within rests size allows_start later fine range =
    let begins = started g i c.number ((proc_at c.procs i).latest + 1) (proc_at c.procs) c.bag p (dependents_of g i) ok
    within rests allows_start (omega arith) fine range refl refl in
    changed c.procs i p size within refl
    (either (eqb (length (dependents_of g i)) 0)
    (λ e. rw e (rw e at begins, rw (eq-eqb i i refl) (eqb-true (length (dependents_of g i)) 0 e)))
    (λ e. rw e (rw e at begins, rw (eq-eqb i i refl) (omega (arith, eqb-false (length (dependents_of g i)) 0 e)))))
  where
    p : Proc
    p = proc_started (proc_at c.procs i) (length (dependents_of g i))

-- among processes that have heard of nothing, each is fresh
pub fresh_at : (n k : ℕ) → proc_at (replicate n new_proc) k ≡ new_proc
fresh_at zero k = refl
fresh_at (suc n) zero = refl
fresh_at (suc n) (suc k) = fresh_at n k

-- what is true of a configuration is true after the first start
pub first_start : (g : Graph) (i : ℕ) → IsWithinGraph g → i < process_count g → is_awake g i ≡ false
    → IsSoundConfig g i (start g i (nothing_yet g))
first_start g i ok within rests =
    starting g i (nothing_yet g) ok within rests (length-replicate (process_count g) new_proc)
    (grind (arith, fresh_at)) (omega arith) tt (grind (arith, fresh_at))

-- while the run isn't over, it is live and the initiator still waits for a reply
pub status_none : (g : Graph) (i : ℕ) (c : Config) → IsSoundConfig g i c → c.ended ≡ None
    → IsSoundRun g i c.number (proc_at c.procs) c.bag c.engaged × (0 < (proc_at c.procs i).num)
status_none g i c s e = rw e at s.status

-- while the run isn't over, a start of the initiator keeps what is true of a configuration
restarting : (g : Graph) (i : ℕ) (c : Config) → IsWithinGraph g → i < process_count g → is_awake g i ≡ false
    → IsSoundConfig g i c → c.ended ≡ None → IsSoundConfig g i (start g i c)
restarting g i c ok within rests s e =
    let l = status_none g i c s e in
    starting g i c ok within rests s.size
    (allows_start g i c.number (proc_at c.procs) (tokens c.number c.bag) l.0.out l.0.rank l.0.clock l.0.sound)
    (omega (arith, l.0.sound.root_in)) l.0.fine l.0.in_range

-- a restart that is due keeps what is true of a configuration
pub ready_stands : (g : Graph) (i : ℕ) (s : Going) → IsWithinGraph g → i < process_count g → is_awake g i ≡ false
    → IsSoundConfig g i s.config → (ns : List ℕ) → IsSoundConfig g i (after_first_restart g i s ns).config
ready_stands g i s ok within rests h ns =
    by_restart (λ t. IsSoundConfig g i t.config) g i s ns h (λ e rest. restarting g i s.config ok within rests h e)

-- what is true of each undelivered message is true of one that may come
pub coming : {g : Graph} {i : ℕ} {c : Config} {x : ℕ} {d : Delivery} → IsSoundConfig g i c → MayCome g c x d
    → IsSoundMessage g i c.number (proc_at c.procs) d.message
coming {x = x} {d = d} h may = fine_at (rw may.going at h.status).0 x d.message may.there

-- a delivery that may come keeps what is true of a configuration
pub delivered : {g : Graph} {i : ℕ} {c : Config} {x : ℕ} {d : Delivery} → IsWithinGraph g → IsSoundConfig g i c
    → MayCome g c x d → IsSoundConfig g i (after_delivery g i c x d.message d.hint)
delivered {g = g} {i = i} {c = c} {x = x} {d = d} ok h may =
    let live = rw may.going at h.status in
    stepped g i c ok h.size may.going live.0 live.1 x d.message may.there d.hint may.hint

-- where all is as it should be, what each restart and each delivery keeps is true wherever deliveries lead
pub leads_keep : (P : Going → Type 0) (rule : Rule) (g : Graph) (i : ℕ) → IsWithinGraph g → i < process_count g
    → is_awake g i ≡ false
    → ((s : Going) (rest : List ℕ) → IsSoundConfig g i s.config → s.config.ended ≡ None → P s
    → P (after_restart g i s rest))
    → ((s : Going) (x : ℕ) (d : Delivery) → IsSoundConfig g i s.config → MayCome g s.config x d → P s
    → P (going_after g i s x d))
    → (log : List Delivery) (s end : Going) → IsSoundConfig g i s.config → P s → DeliveriesLead rule g i s log end
    → P end
leads_keep P rule g i ok within rests again on [] s end h p l =
    subst P l (by_restart P g i s s.restarts p (λ e ns. again s ns h e p))
leads_keep P rule g i ok within rests again on (d ∷ log) s end h p l =
    let now = ready_stands g i s ok within rests h s.restarts in
    leads_keep P rule g i ok within rests again on log (going_after g i (after_due_restart g i s) l.0 d) end
    (delivered ok now l.1)
    (on (after_due_restart g i s) l.0 d now l.1 (by_restart P g i s s.restarts p (λ e ns. again s ns h e p))) l.3

-- what is true of a configuration stays true wherever deliveries lead
pub leads_stands : (rule : ℕ → Config → ℕ → Bool) (g : Graph) (i : ℕ) → IsWithinGraph g → i < process_count g
    → is_awake g i ≡ false → (log : List Delivery) (s end : Going) → IsSoundConfig g i s.config
    → DeliveriesLead rule g i s log end
    → IsSoundConfig g i end.config
leads_stands rule g i ok within rests log s end h l =
    leads_keep (λ t. IsSoundConfig g i t.config) rule g i ok within rests
    (λ t ns now e p. restarting g i t.config ok within rests now e)
    (λ t x d now may p. delivered ok now may) log s end h h l

-- where nothing was started, nothing comes
pub nothing_led : (rule : Rule) (g : Graph) (i : ℕ) (log : List Delivery) (end : Going)
    → DeliveriesLead rule g i (going_from (nothing_yet g) []) log end
    → (log ≡ []) × (end ≡ going_from (nothing_yet g) [])
nothing_led rule g i [] end l = (refl, sym l)
nothing_led rule g i (d ∷ log) end l = absurd (none-some _ l.1.there)

-- where nothing was started, a run that has ended is at rest
pub rests_at_once : (g : Graph) (ending : Ending) → EndsAs (nothing_yet g) ending → ending ≡ AtRest
rests_at_once g ending e = grind arith

-- what follows where nothing was started, and where all is as it should be after a start, follows of a legal run
pub by_start : {P : Type 0} (rule : Rule) (g : Graph) (i : ℕ) (restarts : List ℕ) (log : List Delivery) (end : Going)
    → IsWithinGraph g → is_idle g i ≡ true → DeliveriesLead rule g i (going_at_start g i restarts) log end
    → (is_awake g i ≡ true → log ≡ [] → end ≡ going_from (nothing_yet g) [] → P)
    → (is_awake g i ≡ false → i < process_count g → IsSoundConfig g i (start g i (nothing_yet g))
    → DeliveriesLead rule g i (going_from (start g i (nothing_yet g)) restarts) log end → P)
    → P
by_start rule g i restarts log end ok idle l awake asleep =
    either (is_awake g i)
    (λ e. let h = nothing_led rule g i log end (rw e at l) in awake e h.0 h.1)
    (λ e. asleep e (idle_within g i idle) (first_start g i ok (idle_within g i idle) e) (rw e at l))
