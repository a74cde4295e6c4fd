-- The rules as relations are what is computed: starts, steps, and runs.
use Rattle.cmh_run.proofs.Common.{◌≡◌, ℕ, zero, suc, ◌+◌, ◌-◌, ◌<◌, ◌≤◌, Bool, true, false, ◌&&◌, cond, eqb, ltb, List, [], ◌∷◌, ◌++◌, map, remove, length, slice_set, Option, Some, None, is_none, refl, sym, ◌∙◌, ap, subst, arith, ⊎_elim, append-nil, ◌↔◌, eqb-true, eqb-false, eq-eqb, ne_eqb, true≢false, and_parts, and_from, lt-ltb, le-ltb, ltb-true, and-false, set-get_or, none-some, Verdict, Deadlocked, Free, Graph, dependents_of, is_awake, by_test, Kind, Query, Reply, Message, Proc, new_proc, start_action, engage_action, engages, counts_reply, Delivery, Ending, Declared, Config, proc_at, query, reply, messages_of, ending_after, after_engagement, without_message, after_delivery, asks_hint, start, nothing_yet, HintIsFit, MayCome, Going, Rule, going_from, after_restart, after_first_restart, after_due_restart, going_after, DeliveriesLead, IsRun, IsStart, engage, engage_with_nothing, cut_free, reply_at_once, ignore_query, count_down, reply_to_engager, declare, ignore_reply, discard, IsStep, BecomesReady, go_on, start_again, IsRunOfSteps}
use Rattle.std.proofs.Common.{IsTrue}
use Rattle.std.specs.Prelude.{◌≢◌, IsFalse}
use Rattle.std.proofs.lemmas.Bool.{cases_lt}
use Rattle.cmh_run.specs.Config.{is_query}
use Rattle.cmh_run.proofs.Configurations.{is_none_true}
use Rattle.cmh_run.proofs.EngagedLemmas.{awake_ones_start_nothing}
use Rattle.cmh_run.proofs.QueryLemmas.{asked_of_query}
use Rattle.cmh_run.specs.Step.{IsEngagement, IsReceived, WaitsIn, receiver, IsEffect, StepsLead}

-- two configurations are equal where all that they keep is
same_config : (a b : Config) → a.bag ≡ b.bag → a.procs ≡ b.procs → a.number ≡ b.number → a.engaged ≡ b.engaged
    → a.ended ≡ b.ended → a ≡ b
same_config a b bag procs number engaged ended =
    let whole : ◌≡◌ {A = Config}
    (record { bag = a.bag; procs = a.procs; number = a.number; engaged = a.engaged; ended = a.ended })
    (record { bag = b.bag; procs = b.procs; number = b.number; engaged = b.engaged; ended = b.ended }) =
    rw (bag, procs, number, engaged, ended) refl in
    whole

-- ---- starts

-- the queries of a start by the rule are those that are computed
start_sends : (i n : ℕ) (asked : List ℕ)
    → map (query i n i) asked ≡ messages_of i n i asked (start_action (length asked))
start_sends i n [] = refl
start_sends i n (d ∷ ds) = rw (ne_eqb (suc (length ds)) 0 (λ q. omega arith)) refl

-- a start by the rule ends as it is computed
start_ends : (asked : List ℕ) (ended : Option Ending) → (asked ≢ [] → ended ≡ None)
    → (asked ≡ [] → ended ≡ Some Declared) → ended ≡ ending_after (start_action (length asked))
start_ends [] ended goes_on declares = declares refl
start_ends (d ∷ ds) ended goes_on declares =
    rw (ne_eqb (suc (length ds)) 0 (λ q. omega arith)) (goes_on (λ q. absurd cc))

-- a start by the rule is the computed one
pub start_computed : (g : Graph) (i : ℕ) (c after : Config) → IsStart g i c after → after ≡ start g i c
start_computed g i c after s =
    same_config after (start g i c) (s.asks ∙ (rw (s.number) (ap (λ (sent : List Message). c.bag ++ sent)
    (start_sends i ((proc_at c.procs i).latest + 1) (dependents_of g i)))))
    (s.procs ∙ (rw (s.number) refl)) s.number s.engaged
    (start_ends (dependents_of g i) after.ended s.goes_on s.declares)

-- the computed start is one by the rule, of an initiator that isn't awake, while the run hasn't ended
pub computed_start : (g : Graph) (i : ℕ) (c : Config) → IsFalse (is_awake g i) → c.ended ≡ None
    → IsStart g i c (start g i c)
computed_start g i c asleep going = record {
  asleep = asleep;
  going = going;
  number = refl;
  procs = refl;
  asks = ap (λ (sent : List Message). c.bag ++ sent)
      (sym (start_sends i ((proc_at c.procs i).latest + 1) (dependents_of g i)));
  engaged = refl;
  goes_on = goes_on (dependents_of g i);
  declares = declares (dependents_of g i);
}
  where
    goes_on : (asked : List ℕ) → asked ≢ [] → ending_after (start_action (length asked)) ≡ None
    goes_on [] some = absurd (some refl)
    goes_on (d ∷ ds) some = rw (ne_eqb (suc (length ds)) 0 (λ q. omega arith)) refl

    declares : (asked : List ℕ) → asked ≡ [] → ending_after (start_action (length asked)) ≡ Some Declared
    declares [] none = refl
    declares (d ∷ ds) none = absurd cc

-- a start by the rule is the computed one, and no other
pub starts_by_rule : (g : Graph) (i : ℕ) (c after : Config) → IsStart g i c after
    ↔ (IsFalse (is_awake g i) × (c.ended ≡ None) × (after ≡ start g i c))
starts_by_rule g i c after = (
  λ s. (s.asleep, s.going, start_computed g i c after s),
  λ h. subst (λ (a : Config). IsStart g i c a) (sym h.2) (computed_start g i c h.0 h.1),
)

-- ---- steps

-- what is sent at an engagement by the rule is what is computed
engagement_sends : (i : ℕ) (m : Message) (asked : List ℕ) (bag rest : List Message)
    → (asked ≢ [] → bag ≡ rest ++ map (query i m.number m.to) asked)
    → (asked ≡ [] → bag ≡ rest ++ reply i m.number m.to m.from ∷ [])
    → bag ≡ rest ++ messages_of i m.number m.to asked (engage_action m.from (length asked))
engagement_sends i m [] bag rest asks replies = replies refl
engagement_sends i m (d ∷ ds) bag rest asks replies =
    rw (ne_eqb (suc (length ds)) 0 (λ q. omega arith)) (asks (λ q. absurd cc))

-- an engagement by the rule is the computed one
engagement_computed : (i : ℕ) (c : Config) (x : ℕ) (m : Message) (asked : List ℕ) (after : Config)
    → engages (receiver c m) m.number ≡ true → IsEngagement i c x m asked after
    → after ≡ after_engagement i (without_message c x) m asked
engagement_computed i c x m asked after new s =
    same_config after (after_engagement i (without_message c x) m asked)
    (rw new (engagement_sends i m asked after.bag (remove c.bag x) s.asks s.replies)) (rw new s.procs) s.number
    (by_test (eqb m.number c.number)
    (λ b. after.engaged ≡ cond b (c.engaged ++ m.to ∷ []) c.engaged)
    (λ e. s.joins (eqb-true m.number c.number e)) (λ e. s.joins_not (eqb-false m.number c.number e))) s.goes_on

-- a test that can't be true is false
not_true : (b : Bool) → (b ≡ true → ⊥) → b ≡ false
not_true true h = absurd (h refl)
not_true false h = refl

-- a query of the computation in which a process waits isn't above its latest
not_new : (p : Proc) (number : ℕ) → WaitsIn p number → engages p number ≡ false
not_new p number w = le-ltb p.latest number (omega (arith, w.1))

-- a reply counts at a process that waits for one in its computation
counted : (p : Proc) (number : ℕ) → WaitsIn p number → 0 < p.num → counts_reply p number ≡ true
counted p number w some =
    and_from p.wait (eqb p.latest number && ltb 0 p.num) w.0
    (and_from (eqb p.latest number) (ltb 0 p.num) (eq-eqb p.latest number w.1) (lt-ltb 0 p.num some))

-- where a reply counts, the process waits for one in its computation
counts_parts : (p : Proc) (number : ℕ) → counts_reply p number ≡ true → WaitsIn p number × (0 < p.num)
counts_parts p number e =
    let some = and_parts p.wait (eqb p.latest number && ltb 0 p.num) e in
    let rest = and_parts (eqb p.latest number) (ltb 0 p.num) some.1 in
    ((some.0, eqb-true p.latest number rest.0), ltb-true 0 p.num rest.1)

-- what a rule does is computed, while the run hasn't ended
effect_computed : (g : Graph) (i : ℕ) (c : Config) (x : ℕ) (m : Message) (hint : Option Verdict) (after : Config)
    → c.ended ≡ None → IsEffect g i c x m hint after
    → HintIsFit g c m hint × (after ≡ after_delivery g i c x m hint)
effect_computed g i c x m hint after going (engage to q new e) =
    let news : engages (receiver c m) m.number ≡ true = lt-ltb (receiver c m).latest m.number new in
    (tt, engagement_computed i c x m (dependents_of g m.to) to news e ∙ rw (q.0, q.1, news) refl)
effect_computed g i c x m hint after going (engage_with_nothing to q new stuck e) =
    let news : engages (receiver c m) m.number ≡ true = lt-ltb (receiver c m).latest m.number new in
    ((asked_of_query g c m q.1 q.0 news, stuck), engagement_computed i c x m [] to news e ∙ rw (q.0, q.1, news) refl)
effect_computed g i c x m hint after going (cut_free q new free) =
    let news : engages (receiver c m) m.number ≡ true = lt-ltb (receiver c m).latest m.number new in
    ((asked_of_query g c m q.1 q.0 news, free), rw (q.0, q.1, news) refl)
effect_computed g i c x m hint after going (reply_at_once q w) = (
  tt,
  rw (
    q.0,
    q.1,
    not_new (receiver c m) m.number w,
    w.0,
    eq-eqb (receiver c m).latest m.number w.1,
    set-get_or c.procs m.to new_proc,
    going,
  ) refl,
)
effect_computed g i c x m hint after going (ignore_query q old w) =
    let other : ((receiver c m).wait && eqb (receiver c m).latest m.number) ≡ false =
    not_true ((receiver c m).wait && eqb (receiver c m).latest m.number)
    (λ e. let parts = and_parts (receiver c m).wait (eqb (receiver c m).latest m.number) e in
    w (parts.0, eqb-true (receiver c m).latest m.number parts.1)) in (
      tt,
      rw (
        q.0,
        q.1,
        le-ltb (receiver c m).latest m.number old,
        other,
        append-nil (remove c.bag x),
        set-get_or c.procs m.to new_proc,
        going,
      ) refl,
    )
effect_computed g i c x m hint after going (count_down left q w some more) =
    let down : (receiver c m).num - 1 ≡ left = omega (arith, some) in (
      tt,
      rw (
        q.0,
        q.1,
        counted (receiver c m) m.number w (omega (arith, some)),
        ne_eqb (receiver c m).num 1 (λ e. omega (arith, some, more, e)),
        down,
        append-nil (remove c.bag x),
        going,
      ) refl,
    )
effect_computed g i c x m hint after going (reply_to_engager engager q w last from) =
    let down : (receiver c m).num - 1 ≡ 0 = omega (arith, last) in (
      tt,
      rw (
        q.0,
        q.1,
        counted (receiver c m) m.number w (omega (arith, last)),
        eq-eqb (receiver c m).num 1 last,
        down,
        from,
        going,
      ) refl,
    )
effect_computed g i c x m hint after going (declare q w last from) =
    let down : (receiver c m).num - 1 ≡ 0 = omega (arith, last) in (
      tt,
      rw (
        q.0,
        q.1,
        counted (receiver c m) m.number w (omega (arith, last)),
        eq-eqb (receiver c m).num 1 last,
        down,
        from,
        append-nil (remove c.bag x),
      ) refl,
    )
effect_computed g i c x m hint after going (ignore_reply q w) =
    let other : counts_reply (receiver c m) m.number ≡ false =
    not_true (counts_reply (receiver c m) m.number) (λ e. w (counts_parts (receiver c m) m.number e)) in
    (tt, rw (q.0, q.1, other, append-nil (remove c.bag x), set-get_or c.procs m.to new_proc, going) refl)
effect_computed g i c x m hint after going (discard awake) = (tt, rw awake refl)

-- with any of its dependents, or with none to ask, a process can engage by the rule
can_engage : (i : ℕ) (c : Config) (x : ℕ) (m : Message) (asked : List ℕ)
    → (after : Config) × IsEngagement i c x m asked after
can_engage i c x m asked = (
  record {
    bag = remove c.bag x ++ messages_of i m.number m.to asked (engage_action m.from (length asked));
    procs = slice_set c.procs m.to
        (record { latest = m.number; engager = Some m.from; num = length asked; wait = true });
    number = c.number;
    engaged = cond (eqb m.number c.number) (c.engaged ++ m.to ∷ []) c.engaged;
    ended = None;
  },
  record {
    procs = refl;
    asks = λ some. ap (λ (sent : List Message). remove c.bag x ++ sent) (asks asked some);
    replies = λ none. rw none refl;
    joins = λ e. rw (eq-eqb m.number c.number e) refl;
    joins_not = λ e. rw (ne_eqb m.number c.number e) refl;
    number = refl;
    goes_on = refl;
  },
)
  where
    asks : (xs : List ℕ) → xs ≢ []
        → messages_of i m.number m.to xs (engage_action m.from (length xs)) ≡ map (query i m.number m.to) xs
    asks [] some = absurd (some refl)
    asks (d ∷ ds) some = rw (ne_eqb (suc (length ds)) 0 (λ q. omega arith)) refl

-- a hint that fits stands only where one is asked
unasked : (g : Graph) (c : Config) (m : Message) (hint : Option Verdict) → asks_hint g c m ≡ false
    → HintIsFit g c m hint → hint ≡ None
unasked g c m None e fit = refl
unasked g c m (Some v) e fit = absurd (true≢false (sym fit.0 ∙ e))

module _ (g : Graph) (i : ℕ) (c : Config) (x : ℕ) (m : Message) where
  -- some rule says what the message does with this hint
  abbrev HasEffect : Option Verdict → Type 0
  HasEffect hint = (after : Config) × IsEffect g i c x m hint after

  -- without a hint, where none is asked
  plain : (hint : Option Verdict) → hint ≡ None → HasEffect None → HasEffect hint
  plain hint none e = rw none e

  -- a query engages its receiver, or a hint cuts the run
  newer : IsReceived g m Query → (receiver c m).latest < m.number → (hint : Option Verdict) → HintIsFit g c m hint
      → HasEffect hint
  newer q new None fit =
      let e = can_engage i c x m (dependents_of g m.to) in (e.0, engage e.0 q new e.1)
  newer q new (Some Deadlocked) fit =
      let e = can_engage i c x m [] in (e.0, engage_with_nothing e.0 q new fit.1 e.1)
  newer q new (Some Free) fit = (_, cut_free q new fit.1)

  -- a query that isn't above the latest is answered or ignored
  older : IsReceived g m Query → m.number ≤ (receiver c m).latest → HasEffect None
  older q old =
      by_test ((receiver c m).wait && eqb (receiver c m).latest m.number) (λ b. HasEffect None)
      (λ e. let parts = and_parts (receiver c m).wait (eqb (receiver c m).latest m.number) e in
      (_, reply_at_once q (parts.0, eqb-true (receiver c m).latest m.number parts.1)))
      (λ e. (
        _,
        ignore_query q old (λ w. true≢false (sym (and_from (receiver c m).wait
            (eqb (receiver c m).latest m.number) w.0 (eq-eqb (receiver c m).latest m.number w.1)) ∙ e)),
      ))

  -- the last reply makes the receiver reply or declare
  last : IsReceived g m Reply → WaitsIn (receiver c m) m.number → (receiver c m).num ≡ 1 → (engager : Option ℕ)
      → (receiver c m).engager ≡ engager → HasEffect None
  last q w one None from = (_, declare q w one from)
  last q w one (Some engager) from = (_, reply_to_engager engager q w one from)

  -- a reply that counts has an effect by the number of replies that were waited for
  counting : IsReceived g m Reply → WaitsIn (receiver c m) m.number → (num : ℕ) → (receiver c m).num ≡ num → 0 < num
      → HasEffect None
  counting q w zero e some = absurd (omega (arith, some))
  counting q w (suc zero) e some = last q w e (receiver c m).engager refl
  counting q w (suc (suc n)) e some = (_, count_down (suc n) q w (omega (arith, e)) (omega arith))

  -- a reply counts or is ignored
  replied : IsReceived g m Reply → HasEffect None
  replied q =
      by_test (counts_reply (receiver c m) m.number) (λ b. HasEffect None)
      (λ e. let parts = counts_parts (receiver c m) m.number e in
      counting q parts.0 (receiver c m).num refl parts.1)
      (λ e. (_, ignore_reply q (λ h. true≢false (sym (counted (receiver c m) m.number h.0 h.1) ∙ e))))

  -- a message has an effect on a receiver that isn't awake
  received : IsFalse (is_awake g m.to) → (kind : Kind) → m.kind ≡ kind → (hint : Option Verdict)
      → HintIsFit g c m hint → HasEffect hint
  received asleep Query kind hint fit =
      ⊎_elim (λ (new : (receiver c m).latest < m.number). newer (asleep, kind) new hint fit)
      (λ (old : m.number ≤ (receiver c m).latest).
      plain hint (unasked g c m hint (rw (kind, asleep, le-ltb (receiver c m).latest m.number old) refl) fit)
      (older (asleep, kind) old)) (cases_lt (receiver c m).latest m.number)
  received asleep Reply kind hint fit =
      plain hint (unasked g c m hint (rw kind refl) fit) (replied (asleep, kind))

  -- each message with a fit hint has an effect by some rule
  has_effect : (hint : Option Verdict) → HintIsFit g c m hint → HasEffect hint
  has_effect hint fit =
      by_test (is_awake g m.to) (λ b. HasEffect hint)
      (λ awake. plain hint (unasked g c m hint (rw (awake, and-false (is_query m.kind)) refl) fit) (_, discard awake))
      (λ asleep. received asleep m.kind refl hint fit)

-- a step by the rules is the computed delivery, of a message that may come
pub step_computed : (g : Graph) (i : ℕ) (c : Config) (x : ℕ) (d : Delivery) (after : Config)
    → IsStep g i c x d after → MayCome g c x d × (after ≡ after_delivery g i c x d.message d.hint)
step_computed g i c x d after s =
    let e = effect_computed g i c x d.message d.hint after s.going s.effect in
    (record { going = s.going; there = s.there; hint = e.0 }, e.1)

-- the computed delivery of a message that may come is a step by the rules
pub computed_step : (g : Graph) (i : ℕ) (c : Config) (x : ℕ) (d : Delivery) → MayCome g c x d
    → IsStep g i c x d (after_delivery g i c x d.message d.hint)
computed_step g i c x d may =
    let e = has_effect g i c x d.message d.hint may.hint in
    record {
      going = may.going;
      there = may.there;
      effect = subst (λ (a : Config). IsEffect g i c x d.message d.hint a)
          (effect_computed g i c x d.message d.hint e.0 may.going e.1).1 e.1;
    }

-- a step by the rules is the computed delivery, and no other
pub steps_by_rule : (g : Graph) (i : ℕ) (c : Config) (x : ℕ) (d : Delivery) (after : Config)
    → IsStep g i c x d after ↔ (MayCome g c x d × (after ≡ after_delivery g i c x d.message d.hint))
steps_by_rule g i c x d after = (
  step_computed g i c x d after,
  λ h. subst (λ (a : Config). IsStep g i c x d a) (sym h.1) (computed_step g i c x d h.0),
)

-- ---- runs

-- a run on its way becomes ready by the rule as it is computed, where the initiator isn't awake
computed_ready : (g : Graph) (i : ℕ) (s : Going) → IsFalse (is_awake g i) → BecomesReady g i s (after_due_restart g i s)
computed_ready g i s asleep = by_restarts s.restarts refl
  where
    by_restarts : (ns : List ℕ) → s.restarts ≡ ns → BecomesReady g i s (after_first_restart g i s ns)
    by_restarts [] e = go_on (λ due. absurd (let h : ◌≡◌ {A = List ℕ} [] (s.done ∷ due.1) = sym e ∙ due.2 in cc))
    by_restarts (n ∷ rest) e =
        by_test (is_none s.config.ended && eqb n s.done)
        (λ b. BecomesReady g i s (cond b (after_restart g i s rest) s))
        (λ t. let parts = and_parts (is_none s.config.ended) (eqb n s.done) t in
        start_again rest (start g i s.config)
        (e ∙ ap (λ (k : ℕ). k ∷ rest) (eqb-true n s.done parts.1))
        (computed_start g i s.config asleep (is_none_true s.config.ended parts.0)))
        (λ f. go_on (λ due. let h : (n ∷ rest) ≡ (s.done ∷ due.1) = sym e ∙ due.2 in
        let now : eqb n s.done ≡ true = eq-eqb n s.done cc in
        true≢false (sym (and_from (is_none s.config.ended) (eqb n s.done) (rw due.0 refl) now) ∙ f)))

-- a run on its way that becomes ready by the rule does so as it is computed
ready_computed : (g : Graph) (i : ℕ) (s now : Going) → BecomesReady g i s now → now ≡ after_due_restart g i s
ready_computed g i s now (go_on undue) = by_restarts s.restarts refl
  where
    by_restarts : (ns : List ℕ) → s.restarts ≡ ns → s ≡ after_first_restart g i s ns
    by_restarts [] e = refl
    by_restarts (n ∷ rest) e =
        by_test (is_none s.config.ended && eqb n s.done)
        (λ b. s ≡ cond b (after_restart g i s rest) s)
        (λ t. let parts = and_parts (is_none s.config.ended) (eqb n s.done) t in
        absurd (undue (
          is_none_true s.config.ended parts.0,
          rest,
          e ∙ ap (λ (k : ℕ). k ∷ rest) (eqb-true n s.done parts.1),
        )))
        (λ f. refl)
ready_computed g i s now (start_again rest c due begins) =
    rw (due, begins.going, eq-eqb s.done s.done refl, start_computed g i s.config c begins) refl

-- a restart adds no delivery
ready_done : (g : Graph) (i : ℕ) (s now : Going) → BecomesReady g i s now → now.done ≡ s.done
ready_done g i s now (go_on undue) = refl
ready_done g i s now (start_again rest c due begins) = refl

-- where deliveries lead, steps lead, if the initiator isn't awake
deliveries_are_steps : (rule : Rule) (g : Graph) (i : ℕ) → IsFalse (is_awake g i) → (log : List Delivery)
    (s end : Going) → DeliveriesLead rule g i s log end → StepsLead rule g i s log end
deliveries_are_steps rule g i asleep [] s end l =
    subst (λ (t : Going). BecomesReady g i s t) l (computed_ready g i s asleep)
deliveries_are_steps rule g i asleep (d ∷ log) s end l =
    let now : Going = after_due_restart g i s in
    let ready : BecomesReady g i s now = computed_ready g i s asleep in (
      now,
      ready,
      l.0,
      subst (λ (n : ℕ). IsTrue (rule n now.config l.0)) (sym (ready_done g i s now ready)) l.2,
      after_delivery g i now.config l.0 d.message d.hint,
      computed_step g i now.config l.0 d l.1,
      deliveries_are_steps rule g i asleep log (going_after g i now l.0 d) end l.3,
    )

-- where steps lead, deliveries lead
steps_are_deliveries : (rule : Rule) (g : Graph) (i : ℕ) (log : List Delivery) (s end : Going)
    → StepsLead rule g i s log end → DeliveriesLead rule g i s log end
steps_are_deliveries rule g i [] s end l = sym (ready_computed g i s end l)
steps_are_deliveries rule g i (d ∷ log) s end l =
    let now : Going = l.0 in
    let step = step_computed g i now.config l.2 d l.4 l.5 in
    let to : ◌≡◌ {A = Going} (record now { config = l.4; done = now.done + 1 }) (going_after g i now l.2 d) =
    rw (step.1) refl in
    subst (λ (t : Going). (x : ℕ) × MayCome g t.config x d × IsTrue (rule s.done t.config x)
    × DeliveriesLead rule g i (going_after g i t x d) log end)
    (ready_computed g i s now l.1) (
      l.2,
      step.0,
      subst (λ (n : ℕ). IsTrue (rule n now.config l.2)) (ready_done g i s now l.1) l.3,
      subst (λ (t : Going). DeliveriesLead rule g i t log end) to
          (steps_are_deliveries rule g i log (record now { config = l.4; done = now.done + 1 }) end l.6),
    )

-- where no process has heard of anything no delivery leads anywhere
nothing_leads : (rule : Rule) (g : Graph) (i : ℕ) (log : List Delivery) (end : Going)
    → DeliveriesLead rule g i (going_from (nothing_yet g) []) log end
    → (log ≡ []) × (going_from (nothing_yet g) [] ≡ end)
nothing_leads rule g i [] end l = (refl, l)
nothing_leads rule g i (d ∷ log) end l = absurd (none-some _ l.1.there)

-- a legal run is a sequence of steps by the rules
run_of_steps : (rule : Rule) (g : Graph) (i : ℕ) (restarts : List ℕ) (log : List Delivery) (ending : Ending)
    (end : Going) → IsRun rule g i restarts log ending end → IsRunOfSteps rule g i restarts log ending end
run_of_steps rule g i restarts log ending end run = record {
  asleep = λ e.
      let first : Config = start g i (nothing_yet g) in
      let leads : DeliveriesLead rule g i (going_from first restarts) log end = rw e at run.leads in (
        first,
        computed_start g i (nothing_yet g) e refl,
        deliveries_are_steps rule g i e log (going_from first restarts) end leads,
        run.ends,
      );
  awake = λ e.
      let leads : DeliveriesLead rule g i (going_from (nothing_yet g) []) log end = rw e at run.leads in
      let nothing = nothing_leads rule g i log end leads in
      (nothing.0, (awake_ones_start_nothing rule g i restarts log ending end e run).at_rest, sym nothing.1);
}

-- a sequence of steps by the rules is a legal run
steps_of_run : (rule : Rule) (g : Graph) (i : ℕ) (restarts : List ℕ) (log : List Delivery) (ending : Ending)
    (end : Going) → IsRunOfSteps rule g i restarts log ending end → IsRun rule g i restarts log ending end
steps_of_run rule g i restarts log ending end r = by_awake (is_awake g i) refl
  where
    by_awake : (b : Bool) → is_awake g i ≡ b → IsRun rule g i restarts log ending end
    by_awake true e =
        let h = r.awake e in
        record { leads = rw (e, h.0, h.2) refl; ends = rw (h.1, h.2) (refl, refl) }
    by_awake false e =
        let h = r.asleep e in
        record {
          leads = rw e (subst (λ (c : Config). DeliveriesLead rule g i (going_from c restarts) log end)
              (start_computed g i (nothing_yet g) h.0 h.1)
              (steps_are_deliveries rule g i log (going_from h.0 restarts) end h.2));
          ends = h.3;
        }

-- legal runs are the sequences of steps by the rules, and no others
pub runs_are_steps : (rule : Rule) (g : Graph) (i : ℕ) (restarts : List ℕ) (log : List Delivery) (ending : Ending)
    (end : Going) → IsRun rule g i restarts log ending end ↔ IsRunOfSteps rule g i restarts log ending end
runs_are_steps rule g i restarts log ending end = (
  run_of_steps rule g i restarts log ending end,
  steps_of_run rule g i restarts log ending end,
)
