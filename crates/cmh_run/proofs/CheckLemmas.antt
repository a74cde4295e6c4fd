-- What a checker answers, against the run that the deliveries make.
use Rattle.cmh_run.proofs.Common.{◌≡◌, ℕ, ◌<◌, Bool, true, false, not, ◌&&◌, cond, List, [], ◌∷◌, ◌++◌, length, get_or, Option, Some, None, refl, sym, ◌∙◌, ap, ◌⊎◌, inl, inr, IfSome, IfOk, IfErr, ◌↔◌, true≢false, cases_Bool, Message, Verdict, none-some, the_type, Graph, process_count, is_idle, is_awake, IsWellFormed, verdicts, IsDeadlocked, Delivery, Ending, Declared, AtRest, CutFree, Config, proc_at, asks_hint, after_message, Going, going_after, HintIsFit, any_place, EndsAs, CheckFault, NotIdle, NotUndelivered, FalseHint, AfterEnd, NotEnded, Memory, LeadTo, IsUndelivered, IsLegalRun, IsFlaw, IsFirstCheckFault, is_waiting, goes_like, CheckState, with_bag, Agrees, IsSettled, IsChecked}
use Rattle.std.proofs.Common.{is_some, IsTrue}
use Rattle.std.specs.Prelude.{IfNone, ok_or}
use denote.Enum.Bare.{sameb}
use Rattle.cmh_graph.proofs.Verdicts.{verdict_listed}
use Rattle.cmh_run.proofs.Scripts.{verdict_decides}
pub use Rattle.cmh_run.proofs.Scripts.{truth_at}
use Rattle.cmh_run.specs.Check.{ComesAt, HasEnded}
use Rattle.cmh_run.specs.Progress.{MayAct}
use Rattle.cmh_run.proofs.Soundness.{runs_are_sound}
use Rattle.cmh_run.proofs.Tokens.{each_at}
use Rattle.cmh_run.proofs.LiveInvariant.{IsSoundMessage}
use Rattle.cmh_run.proofs.Places.{in_nothing, none_in}
use Rattle.cmh_run.proofs.CheckStateLemmas.{Own, Firm, firm, undelivered_waits, agrees_after}

-- a hint that is fit with one bag is fit with any
bag_fit : (g : Graph) (c : Config) (bag : List Message) (m : Message) (hint : Option Verdict)
    → HintIsFit g (with_bag c bag) m hint → HintIsFit g c m hint
bag_fit g c bag m None h = h
bag_fit g c bag m (Some v) h = h

module _ (g : Graph) (i : ℕ) (log : List Delivery) (s : Going) (a : CheckState) (h : Agrees g i log s a) where
  -- where what is kept agrees with the run, what a checker may count on is true of the run
  here : Firm g i s
  here = firm g i h.graph h.idle log s h.leads

  -- the network that is kept has ended as the run has
  same_ended : s.config.ended ≡ a.network.ended
  same_ended = ap (λ (c : Config). c.ended) (sym h.network)

  -- the network that is kept has as many processes as the graph
  pub network_size : length a.network.procs ≡ process_count g
  network_size = ap (λ (c : Config). length c.procs) h.network ∙ here.size

  -- where the network that is kept has an ending, the run has ended so
  pub ended_as : (e : Ending) → a.network.ended ≡ Some e → EndsAs s.config e
  ended_as Declared e = same_ended ∙ e
  ended_as (CutFree k) e = same_ended ∙ e
  ended_as AtRest e = absurd (here.not_at_rest (same_ended ∙ e))

  -- where the run hasn't ended, no declaration and no hint has ended it
  is_going : ¬ (HasEnded s.config) → s.config.ended ≡ None
  is_going no_end = by_ended s.config.ended refl
    where
      by_ended : (o : Option Ending) → s.config.ended ≡ o → o ≡ None
      by_ended None e = refl
      by_ended (Some last) e = absurd (no_end (last, ended_as last (sym same_ended ∙ e)))

  module _ (settled : IsSettled a) where
    -- an undelivered message is awaited
    pub awaited : (m : Message) → IsUndelivered s.config m
        → (m.initiator ≡ i) × (m.number ≡ 1) × IsTrue (is_waiting a.undelivered m)
    awaited m u =
        let mine = each_at (Own i) s.config.bag u.0 m here.own u.1 in
        (mine.mine, mine.first, undelivered_waits g i log s a a h settled m u)

    -- where nothing is awaited, the run is at rest unless it was ended
    pub rests : a.network.ended ≡ None → ((m : Message) → is_waiting a.undelivered m ≡ false) → EndsAs s.config AtRest
    rests e none = (same_ended ∙ e, none_in s.config.bag (λ m u. true≢false (sym (awaited m u).2 ∙ none m)))

    -- where some message is waiting and nothing has ended the network, the run hasn't ended
    pub goes_on : a.network.ended ≡ None → (((m : Message) → is_waiting a.undelivered m ≡ false) → ⊥)
        → ¬ (HasEnded s.config)
    goes_on e some (Declared, f) = none-some _ (sym (same_ended ∙ e) ∙ f)
    goes_on e some (CutFree k, f) = none-some _ (sym (same_ended ∙ e) ∙ f)
    goes_on e some (AtRest, f) = some (λ m. elim (cases_Bool (is_waiting a.undelivered m)) [
      | inl waits ↦ absurd (in_nothing _ (rw f.1 at (h.waiting
          (record { kind = m.kind; initiator = i; number = 1; from = m.from; to = m.to }) refl refl waits)))
      | inr never ↦ never
    ])

-- ---- hints

-- a hint that is asked for is fit where it is the verdict of the list
pub fit_where_true : (g : Graph) (c : Config) (m : Message) (hint : Option Verdict) (v d : Verdict)
    (truth : List Verdict) (b : Bool) → IsWellFormed g → hint ≡ Some v → asks_hint g c m ≡ true
    → truth ≡ verdicts g → m.to < process_count g → b ≡ sameb the_type (get_or truth m.to d) v
    → (b ≡ true → HintIsFit g c m hint) × (HintIsFit g c m hint → b ≡ true)
fit_where_true g c m hint v d truth b w is asked all within test =
    rw (is, test, verdict_listed g truth m.to d all within) (
      λ e. (asked, (verdict_decides g m.to v w.within).0 e),
      λ fit. (verdict_decides g m.to v w.within).1 fit.1,
    )

-- ---- a delivery

-- where the test says that there is no answer, what is true of no answer is true
pub where_none : (o : Option Ending) (P : Type 0) → false ≡ is_some o → IfNone o P → P
where_none None P e h = h
where_none (Some x) P e h = absurd (cc)

module _ (g : Graph) (i : ℕ) (log : List Delivery) (s : Going) (a : CheckState) (d : Delivery) (h : Agrees g i log s a)
    (settled : IsSettled a) (going : ¬ (HasEnded s.config))
    (aw : (d.message.initiator ≡ i) × (d.message.number ≡ 1) × IsTrue (is_waiting a.undelivered d.message)) where
  -- the message of the delivery is undelivered
  pub is_there : IsUndelivered s.config d.message
  is_there = h.waiting d.message aw.0 aw.1 aw.2

  -- an awaited message of a run that hasn't ended goes to a process of the graph
  pub delivery_within : d.message.to < process_count g
  delivery_within =
      let live = (here g i log s a h).live d.message is_there (is_going g i log s a h going) in
      (each_at (IsSoundMessage g i s.config.number (proc_at s.config.procs)) s.config.bag is_there.0 d.message live.fine
      is_there.1).to_in

  -- a network like the one that is kept has the receiver, and hasn't ended
  pub has_receiver : (c : Config) → c ≡ a.network → MayAct g c d.message.to
  has_receiver c same = rw same (record {
    size = network_size g i log s a h;
    within = delivery_within;
    going = ap (λ (x : Config). x.ended) h.network ∙ is_going g i log s a h going;
  })

  -- once an awaited message is delivered with a fit hint, what is kept agrees with the longer run
  pub after_delivery : (t b : CheckState) → t.network ≡ a.network
      → ((m : Message) → is_waiting t.undelivered m ≡ (not (goes_like d.message m) && is_waiting a.undelivered m))
      → HintIsFit g t.network d.message d.hint
      → b.network ≡ cond (is_awake g d.message.to) t.network
      (after_message g i t.network d.message d.message.kind d.hint)
      → b.undelivered ≡ t.undelivered
      → Agrees g i (log ++ d ∷ []) (going_after g i s is_there.0 d) b
  after_delivery t b same fewer fit moved kept =
      let whole : t.network ≡ with_bag s.config [] = same ∙ h.network ∙ rw settled refl in
      agrees_after g i log s a b h settled is_there.0 d
      (record {
        going = is_going g i log s a h going;
        there = is_there.1;
        hint = bag_fit g s.config [] d.message d.hint (rw whole at fit);
      })
      (rw (moved, whole) refl) (λ m. rw kept (fewer m))

-- ---- the whole log

-- what is wrong with delivery t is the first fault of the log
pub flaw_is_fault : (g : Graph) (i : ℕ) (log : List Delivery) (t : ℕ) (d : Delivery) (s : Going) (e : CheckFault)
    → ComesAt g i log t d s → IsFlaw g s.config t d e → IsFirstCheckFault g i log e
flaw_is_fault g i log t d s (AfterEnd n) comes f = (t, d, s, comes, f)
flaw_is_fault g i log t d s (NotUndelivered n) comes f = (t, d, s, comes, f)
flaw_is_fault g i log t d s (FalseHint n) comes f = (t, d, s, comes, f)
flaw_is_fault g i log t d s NotIdle comes f = absurd f
flaw_is_fault g i log t d s NotEnded comes f = absurd f
flaw_is_fault g i log t d s Memory comes f = absurd f

-- an idle process is deadlocked just where a legal run of it ends with its declaration
ending_tells : (g : Graph) (i : ℕ) (log : List Delivery) (s : Going) (e : Ending) → IsWellFormed g → is_idle g i ≡ true
    → LeadTo g i log s → EndsAs s.config e → (e ≡ Declared) ↔ IsDeadlocked g i
ending_tells g i log s e w idle leads ends =
    let right = runs_are_sound any_place g i [] log e s w.within idle (record { leads = leads; ends = ends }) in
    (right.declared, λ dead. by_ending e (λ other. right.free other dead))
  where
    by_ending : (e : Ending) → ((e ≡ Declared → ⊥) → ⊥) → e ≡ Declared
    by_ending Declared h = refl
    by_ending AtRest h = absurd (h (λ q. cc))
    by_ending (CutFree k) h = absurd (h (λ q. cc))

-- Where a checker answers an ending, each run that agrees with what it keeps has ended so. Where it answers none, none
-- has ended. Then an ending that is answered makes the whole log a legal run, and is a declaration just where the
-- initiator is deadlocked; and where none is answered, the first fault of the log is that it is cut short.
pub answer_right : (g : Graph) (i : ℕ) (log : List Delivery) (a : CheckState) → IsChecked g i log a
    → (o : Option Ending)
    → IfSome o (λ e. (g : Graph) (i : ℕ) (log : List Delivery) (s : Going) → Agrees g i log s a → IsSettled a
    → EndsAs s.config e)
    → IfNone o ((g : Graph) (i : ℕ) (log : List Delivery) (s : Going) → Agrees g i log s a → IsSettled a
    → ¬ (HasEnded s.config))
    → IfOk (ok_or o NotEnded) (IsLegalRun g i log)
    × IfOk (ok_or o NotEnded) (λ e. (e ≡ Declared) ↔ IsDeadlocked g i)
    × IfErr (ok_or o NotEnded) (λ e. (e ≡ Memory) ⊎ IsFirstCheckFault g i log e)
answer_right g i log a (s, h, settled) None some none =
    (tt, tt, inr (h.idle, s, h.leads, none g i log s h settled))
answer_right g i log a (s, h, settled) (Some e) some none =
    let ends = some g i log s h settled in (
      record { idle = h.idle; end = s; legal = record { leads = h.leads; ends = ends } },
      ending_tells g i log s e h.graph h.idle h.leads ends,
      tt,
    )
