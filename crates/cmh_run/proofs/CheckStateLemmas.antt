-- What a checker keeps agrees with the run, from delivery to delivery.
use Rattle.cmh_run.proofs.Common.{◌≡◌, ℕ, ◌+◌, true, false, not, ◌&&◌, ◌||◌, cond, eqb, List, [], ◌∷◌, ◌++◌, remove, replicate, length, slice_get, Option, Some, None, refl, sym, ◌∙◌, ap, inl, inr, append-nil, cases_eq, cases_Bool, true≢false, and_parts, none-some, same_Some, length-replicate, Kind, Query, Reply, Message, Action, Nothing, Engage, ReplyTo, Declare, new_proc, engages, Verdict, Deadlocked, Free, Graph, process_count, dependents_of, is_idle, is_awake, IsWellFormed, idle_within, Delivery, AtRest, Config, proc_at, messages_of, nothing_yet, start, after_hint, after_message, without_message, after_delivery, Going, going_from, going_at_start, after_due_restart, going_after, MayCome, any_place, DeliveriesLead, LeadTo, IsUndelivered, is_waiting, is_same_kind, goes_like, CheckState, with_bag, Agrees, IsSettled}
use Rattle.std.specs.Bool.{Decides}
use Rattle.std.proofs.lemmas.Bool.{or_right, or_left, cond_both}
use Rattle.std.proofs.lemmas.Bool.Decides.{Decides-and, Decides-eqb}
use Rattle.cmh_run.proofs.Tokens.{Each, each_append, each_remove, each_at}
use Rattle.cmh_run.proofs.LiveInvariant.{IsSoundRun}
use Rattle.cmh_run.proofs.Soundness.{number_kept}
use Rattle.cmh_run.proofs.Configurations.{first_start, leads_stands, status_none, fresh_at, nothing_led}
use Rattle.cmh_run.proofs.ProgressLemmas.{leads_on}
use Rattle.cmh_run.proofs.Places.{IsIn, in_nothing, in_first, in_last, in_either, left_was, was_left, one_place}

-- ---- messages of one initiator

-- a message of the first computation of initiator i
pub record Own (i : ℕ) (m : Message) : Type 0 where
  pub mine : m.initiator ≡ i
  pub first : m.number ≡ 1

-- what is sent in the first computation is its own
sent_own : (i k : ℕ) (ds : List ℕ) (n : ℕ) → n ≡ 1 → (action : Action) → Each (Own i) (messages_of i n k ds action)
sent_own i k ds n e Nothing = tt
sent_own i k [] n e Engage = tt
sent_own i k (d ∷ ds) n e Engage = (record { mine = refl; first = e }, sent_own i k ds n e Engage)
sent_own i k ds n e (ReplyTo to) = (record { mine = refl; first = e }, tt)
sent_own i k ds n e Declare = tt

-- a delivery leaves all messages of the bag in the first computation of initiator i
delivered_own : (g : Graph) (i : ℕ) (c : Config) (x : ℕ) (m : Message) (hint : Option Verdict)
    → slice_get c.bag x ≡ Some m → Each (Own i) c.bag → Each (Own i) (after_delivery g i c x m hint).bag
delivered_own g i c x m hint there own =
    cond_both (is_awake g m.to) _ _ (λ (now : Config). Each (Own i) now.bag) (λ e. rest) (λ e. by_kind m.kind hint)
  where
    rest : Each (Own i) (remove c.bag x)
    rest = each_remove (Own i) x c.bag own

    more : (ds : List ℕ) (action : Action) → Each (Own i) (remove c.bag x ++ messages_of i m.number m.to ds action)
    more ds action =
        each_append (Own i) (remove c.bag x) (messages_of i m.number m.to ds action) rest
        (sent_own i m.to ds m.number (each_at (Own i) c.bag x m own there).first action)

    by_hint : (h : Option Verdict) → Each (Own i) (after_hint g i (without_message c x) m h).bag
    by_hint None = more _ _
    by_hint (Some Deadlocked) = more [] _
    by_hint (Some Free) = rest

    by_kind : (k : Kind) (h : Option Verdict) → Each (Own i) (after_message g i (without_message c x) m k h).bag
    by_kind Reply h = more [] _
    by_kind Query h = cond_both (engages (proc_at c.procs m.to) m.number) _ _ (λ (now : Config). Each (Own i) now.bag)
        (λ e. by_hint h) (λ e. more [] _)

-- without restarts to come, none is due
pub still : (g : Graph) (i : ℕ) (s : Going) → s.restarts ≡ [] → after_due_restart g i s ≡ s
still g i s none = rw none refl

-- without restarts, the messages stay in the first computation, the number stays the same, and no restart is to come
leads_own : (g : Graph) (i : ℕ) (log : List Delivery) (s end : Going) → s.restarts ≡ [] → Each (Own i) s.config.bag
    → DeliveriesLead any_place g i s log end
    → Each (Own i) end.config.bag × (end.config.number ≡ s.config.number) × (end.restarts ≡ [])
leads_own g i [] s end none own l = rw (← (rw (still g i s none) at l)) (own, refl, none)
leads_own g i (d ∷ log) s end none own l =
    let k = rw (still g i s none) at l in
    let bag = delivered_own g i s.config k.0 d.message d.hint k.1.there own in
    let rest = leads_own g i log (going_after g i s k.0 d) end none bag k.3 in
    (rest.0, rest.1 ∙ number_kept g i s.config k.0 d.message d.hint, rest.2)

-- ---- where the deliveries have led

-- what a checker may count on
pub record Firm (g : Graph) (i : ℕ) (s : Going) : Type 0 where
  pub size : length s.config.procs ≡ process_count g
  pub own : Each (Own i) s.config.bag
  pub no_restart : s.restarts ≡ []
  pub not_at_rest : s.config.ended ≡ Some AtRest → ⊥
  pub live : (m : Message) → IsUndelivered s.config m → s.config.ended ≡ None
      → IsSoundRun g i s.config.number (proc_at s.config.procs) s.config.bag s.config.engaged
  pub number : (m : Message) → IsUndelivered s.config m → s.config.number ≡ 1

module _ (g : Graph) (i : ℕ) (w : IsWellFormed g) (idle : is_idle g i ≡ true) where
  -- where the initiator isn't awake, what a checker may count on is true wherever deliveries lead from its start
  firm_asleep : is_awake g i ≡ false → (log : List Delivery) (s : Going)
      → DeliveriesLead any_place g i (going_from (start g i (nothing_yet g)) []) log s → Firm g i s
  firm_asleep rests log s l =
      let within = idle_within g i idle in
      let first : (proc_at (replicate (process_count g) new_proc) i).latest + 1 ≡ 1 =
      rw (fresh_at (process_count g) i) refl in
      let stands = leads_stands any_place g i w.within within rests log _ s (first_start g i w.within within rests) l in
      let kept = leads_own g i log _ s refl (sent_own i i (dependents_of g i) _ first _) l in
      record {
        size = stands.size;
        own = kept.0;
        no_restart = kept.2;
        not_at_rest = λ e. rw e at stands.status;
        live = λ m h going. (status_none g i s.config stands going).0;
        number = λ m h. kept.1 ∙ first;
      }

  -- where nothing was started, as by an awake initiator, what a checker may count on is true
  firm_awake : (s : Going) → s ≡ going_from (nothing_yet g) [] → Firm g i s
  firm_awake s e = rw e (record {
    size = length-replicate (process_count g) new_proc;
    own = tt;
    no_restart = refl;
    not_at_rest = λ h. none-some _ h;
    live = λ m h. absurd (in_nothing m h);
    number = λ m h. absurd (in_nothing m h);
  })

  -- wherever the deliveries of a log lead, what a checker may count on is true
  pub firm : (log : List Delivery) (s : Going) → LeadTo g i log s → Firm g i s
  firm log s l = elim (cases_Bool (is_awake g i)) [
    | inl e ↦ firm_awake s (nothing_led any_place g i log s (rw e at l)).1
    | inr e ↦ firm_asleep e log s (rw e at l)
  ]

-- ---- a network with another bag

-- the configuration with these messages first in its bag
abbrev after_these : List Message → Config → Config
after_these bag c = with_bag c (bag ++ c.bag)

-- what a message does, it does whatever else is in the bag
received_bag : (g : Graph) (i : ℕ) (c : Config) (bag : List Message) (m : Message) (k : Kind) (hint : Option Verdict)
    → after_message g i (with_bag c bag) m k hint ≡ after_these bag (after_message g i (with_bag c []) m k hint)
received_bag g i c bag m Reply hint = refl
received_bag g i c bag m Query hint = elim (cases_Bool (engages (proc_at c.procs m.to) m.number)) [
  | inl e ↦ rw e (by_hint hint)
  | inr e ↦ rw e refl
]
  where
    by_hint : (h : Option Verdict)
        → after_hint g i (with_bag c bag) m h ≡ after_these bag (after_hint g i (with_bag c []) m h)
    by_hint None = refl
    by_hint (Some Deadlocked) = refl
    by_hint (Some Free) = rw (append-nil bag) refl

-- the network after m is delivered, where its bag was emptied before
abbrev carried : Graph → ℕ → Config → Message → Option Verdict → Config
carried g i c m hint = cond (is_awake g m.to) (with_bag c []) (after_message g i (with_bag c []) m m.kind hint)

-- a delivery does what it does with an emptied bag, and its bag is then the rest with what was sent
delivered_is : (g : Graph) (i : ℕ) (c : Config) (x : ℕ) (m : Message) (hint : Option Verdict)
    → after_delivery g i c x m hint ≡ after_these (remove c.bag x) (carried g i c m hint)
delivered_is g i c x m hint = elim (cases_Bool (is_awake g m.to)) [
  | inl e ↦ rw (e, append-nil (remove c.bag x)) refl
  | inr e ↦ rw e (received_bag g i c (remove c.bag x) m m.kind hint)
]

-- ---- messages that go alike

-- two kinds are the same by the test exactly where they are equal
kinds_decide : (k l : Kind) → Decides (is_same_kind k l) (k ≡ l)
kinds_decide Query Query = (λ e. refl, λ e. refl)
kinds_decide Query Reply = (λ e. absurd (cc), λ e. absurd (cc))
kinds_decide Reply Query = (λ e. absurd (cc), λ e. absurd (cc))
kinds_decide Reply Reply = (λ e. refl, λ e. refl)

-- two messages go alike exactly where their kinds, their senders and their receivers are equal
like_means : (a b : Message) → Decides (goes_like a b) ((a.kind ≡ b.kind) × ((a.from ≡ b.from) × (a.to ≡ b.to)))
like_means a b =
    Decides-and (is_same_kind a.kind b.kind) (eqb a.from b.from && eqb a.to b.to) (kinds_decide a.kind b.kind)
    (Decides-and (eqb a.from b.from) (eqb a.to b.to) (Decides-eqb a.from b.from) (Decides-eqb a.to b.to))

-- a message goes like itself
goes_itself : (m : Message) → goes_like m m ≡ true
goes_itself m = (like_means m m).1 (refl, (refl, refl))

-- a message is made of its parts
parts_of : (m : Message)
    → m ≡ record { kind = m.kind; initiator = m.initiator; number = m.number; from = m.from; to = m.to }
parts_of m = refl

-- two messages of the first computation that go alike are equal
goes_equal : (i : ℕ) (a b : Message) → Own i a → Own i b → goes_like a b ≡ true → a ≡ b
goes_equal i a b oa ob h = let like = (like_means a b).0 h in cc (parts_of a, parts_of b)

-- ---- what is kept

-- at the start no restart is due
pub begins : (g : Graph) (i : ℕ) → after_due_restart g i (going_at_start g i []) ≡ going_at_start g i []
begins g i = cond_both (is_awake g i) _ _ (λ (s : Going). after_due_restart g i s ≡ s) (λ e. refl) (λ e. refl)

-- where nothing waits and the network has all messages, what is kept agrees with the start of the run
pub agrees_first : (g : Graph) (i : ℕ) (a : CheckState) → IsWellFormed g → is_idle g i ≡ true
    → a.network ≡ (going_at_start g i []).config → ((m : Message) → is_waiting a.undelivered m ≡ false)
    → Agrees g i [] (going_at_start g i []) a
agrees_first g i a w idle same none = record {
  graph = w;
  idle = idle;
  leads = begins g i;
  network = rw same refl;
  pending = λ m h. inr (rw same h);
  sent = λ m h. rw same at h;
  waiting = λ m j n h. absurd (true≢false (sym h ∙ none m));
}

module _ (g : Graph) (i : ℕ) (log : List Delivery) (s : Going) (a b : CheckState) (h : Agrees g i log s a) where
  -- what a checker may count on is true
  here : Firm g i s
  here = firm g i h.graph h.idle log s h.leads

  -- what is undelivered is a message of the first computation
  own : (m : Message) → IsUndelivered s.config m → Own i m
  own m u = each_at (Own i) s.config.bag u.0 m here.own u.1

  -- what is kept still agrees with the run once a message is taken off the network's bag and waits instead
  pub agrees_on : (y : ℕ) (m : Message) → slice_get a.network.bag y ≡ Some m → b.network ≡ without_message a.network y
      → ((x : Message) → is_waiting b.undelivered x ≡ (goes_like m x || is_waiting a.undelivered x))
      → Agrees g i log s b
  agrees_on y m there moved more = record {
    graph = h.graph;
    idle = h.idle;
    leads = h.leads;
    network = rw moved (ap (λ (c : Config). with_bag c (remove a.network.bag y)) h.network);
    pending = λ x u. elim (h.pending x u) [
      | inl p ↦ inl (more x ∙ or_right (goes_like m x) (is_waiting a.undelivered x) p)
      | inr n ↦ elim (cases_eq n.0 y) [
        | inl e ↦ let same : m ≡ x = same_Some m x (sym there ∙ ap (slice_get a.network.bag) (sym e) ∙ n.1) in
            inl (more x ∙ rw same (or_left (goes_like x x) (is_waiting a.undelivered x) (goes_itself x)))
        | inr d ↦ inr (rw moved (was_left a.network.bag y n.0 x n.1 d))
      ]
    ];
    sent = λ x n. let was = left_was a.network.bag y x (rw moved at n) in h.sent x (was.0, was.1);
    waiting = λ x mine first p. elim (cases_Bool (goes_like m x)) [
      | inl e ↦ let sent = h.sent m (y, there) in
          rw (← goes_equal i m x (own m sent) (record { mine = mine; first = first }) e) sent
      | inr e ↦ h.waiting x mine first (sym (rw e at (more x)) ∙ p)
    ];
  }

  module _ (settled : IsSettled a) where
    -- where nothing that was just sent is left, what is undelivered waits
    pub undelivered_waits : (m : Message) → IsUndelivered s.config m → is_waiting a.undelivered m ≡ true
    undelivered_waits m u = elim (h.pending m u) [
      | inl waits ↦ waits
      | inr n ↦ absurd (in_nothing m (rw settled at n))
    ]

    -- once a waiting message is delivered and the network has carried it, what is kept agrees with the longer run
    pub agrees_after : (x : ℕ) (d : Delivery) → MayCome g s.config x d
        → b.network ≡ carried g i s.config d.message d.hint
        → ((y : Message) → is_waiting b.undelivered y ≡ (not (goes_like d.message y) && is_waiting a.undelivered y))
        → Agrees g i (log ++ d ∷ []) (going_after g i s x d) b
    agrees_after x d may moved fewer =
        let is = delivered_is g i s.config x d.message d.hint in record {
          graph = h.graph;
          idle = h.idle;
          leads = rw (still g i (going_after g i s x d) here.no_restart)
              at (leads_on any_place g i log (going_at_start g i []) s x d h.leads may refl);
          network = rw moved (ap (λ (c : Config). with_bag c (carried g i s.config d.message d.hint).bag) (sym is));
          pending = λ y u. elim (in_either (remove s.config.bag x) _ y (rw is at u)) [
            | inl p ↦ inl (still_waits y p)
            | inr n ↦ inr (rw moved n)
          ];
          sent = λ y n. rw is (in_last (remove s.config.bag x) _ y (rw moved at n));
          waiting = λ y mine first p.
              rw is (in_first (remove s.config.bag x) _ y (waits_still y mine first (sym (fewer y) ∙ p)));
        }
      where
        there : IsUndelivered s.config d.message
        there = (x, may.there)

        -- what is left in the bag is still waiting
        still_waits : (y : Message) → IsIn (remove s.config.bag x) y → is_waiting b.undelivered y ≡ true
        still_waits y p =
            let was = left_was s.config.bag x y p in
            let left : IsUndelivered s.config y = (was.0, was.1) in
            elim (cases_Bool (goes_like d.message y)) [
              | inl e ↦ absurd (was.2 (one_place g i s.config h.graph (here.live d.message there may.going)
                  (here.number d.message there) was.0 x y was.1
                  (may.there ∙ ap Some (goes_equal i d.message y (own d.message there) (own y left) e))))
              | inr e ↦ fewer y ∙ rw e (undelivered_waits y left)
            ]

        -- what is still waiting is left in the bag
        waits_still : (y : Message) → y.initiator ≡ i → y.number ≡ 1
            → (not (goes_like d.message y) && is_waiting a.undelivered y) ≡ true → IsIn (remove s.config.bag x) y
        waits_still y mine first p =
            let parts = and_parts (not (goes_like d.message y)) (is_waiting a.undelivered y) p in
            let left = h.waiting y mine first parts.1 in
            was_left s.config.bag x left.0 y left.1 (λ e.
            let same : d.message ≡ y =
            same_Some d.message y (sym may.there ∙ ap (slice_get s.config.bag) (sym e) ∙ left.1) in
            true≢false (sym parts.0 ∙ rw (← same, goes_itself d.message) refl))
