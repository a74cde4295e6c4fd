-- A run that is led on by one delivery, and what its steps may count on.
use Rattle.cmh_run.proofs.Common.{inl, inr, zero, suc, ◌%◌, lt-ltb, true≢false, ◌≡◌, ℕ, ◌+◌, ◌-◌, ◌*◌, ◌^◌, ◌<◌, ◌≤◌, ◌≢◌, length-set, true, false, ◌&&◌, cond, eqb, List, [], ◌∷◌, ◌++◌, length, slice_get, Option, Some, None, is_none, same_Some, refl, sym, ◌∙◌, ap, subst, arith, ◌⊎◌, ⊎_elim, length-append, mul-le-mul_left, eq-eqb, and_parts, none-some, unwrap_or, length-replicate, Message, Verdict, Delivery, Ending, Declared, AtRest, CutFree, Graph, process_count, is_awake, IsWithinGraph, dependency_count, idle_within, by_test, new_proc, Config, proc_at, nothing_yet, start, after_message, without_message, Going, going_from, going_at_start, after_restart, after_first_restart, after_due_restart, going_after, Rule, MayCome, DeliveriesLead, EndsAs, IsRun, HintIsFit, IsRight, chosen_place, HasNoHints, Run, IsRunAnswer, RunState, IsUnderWay, MAX_RESTARTS, IsVerdict}
use Rattle.std.specs.Prelude.{slice_index}
use Rattle.cmh_run.specs.Config.{blank_config}
use Rattle.cmh_run.specs.Run.{TellsTruth, verdict_of}
use Rattle.cmh_run.specs.Progress.{IsAtEnd, IsNextChoice, IsReady, IsRunState, MayReceive, MayStart}
use Rattle.cmh_run.proofs.LiveInvariant.{IsSoundMessage, IsSoundRun}
use Rattle.cmh_run.proofs.Tokens.{each_at}
use Rattle.cmh_run.proofs.Soundness.{number_kept, runs_are_sound}
use Rattle.cmh_run.proofs.Configurations.{is_none_true, Status, IsSoundConfig, first_start, status_none, fresh_at, delivered, nothing_led, ready_stands}
use Rattle.cmh_run.proofs.LastComputation.{last_computation_is_a_run}
use Rattle.cmh_run.proofs.Determinism.{same_run}
use Rattle.cmh_run.proofs.EngagedLemmas.{who_engages, awake_ones_start_nothing}
use Rattle.cmh_run.proofs.DeliveryBound.{leads_are_short, few_dependencies}

-- a restart leaves the number of deliveries as it was
restart_keeps_count : (g : Graph) (i : ℕ) (s : Going) (ns : List ℕ) → (after_first_restart g i s ns).done ≡ s.done
restart_keeps_count g i s [] = refl
restart_keeps_count g i s (n ∷ ns) =
    by_test (is_none s.config.ended && eqb n s.done) (λ b. (cond b (after_restart g i s ns) s).done ≡ s.done)
    (λ e. refl)
    (λ e. refl)

-- deliveries that lead somewhere lead on by one more that may come there and that the rule allows
pub leads_on : (rule : Rule) (g : Graph) (i : ℕ) (log : List Delivery) (s mid : Going) (x : ℕ) (d : Delivery)
    → DeliveriesLead rule g i s log mid → MayCome g mid.config x d → rule mid.done mid.config x ≡ true
    → DeliveriesLead rule g i s (log ++ d ∷ []) (after_due_restart g i (going_after g i mid x d))
leads_on rule g i [] s mid x d l may chosen = (
  x,
  subst (λ (t : Going). MayCome g t.config x d) (sym l) may,
  subst (λ (n : ℕ). rule n (after_due_restart g i s).config x ≡ true) (restart_keeps_count g i s s.restarts)
      (subst (λ (t : Going). rule t.done t.config x ≡ true) (sym l) chosen),
  subst (λ (t : Going). after_due_restart g i (going_after g i (after_due_restart g i s) x d)
      ≡ after_due_restart g i (going_after g i t x d)) l refl,
)
leads_on rule g i (e ∷ log) s mid x d l may chosen =
    (l.0, l.1, l.2, leads_on rule g i log (going_after g i (after_due_restart g i s) l.0 e) mid x d l.3 may chosen)

-- a run after its start, with at most this number of restarts that were made or are to come
record Steady (g : Graph) (i most : ℕ) (s : Going) : Type 0 where
  rests : is_awake g i ≡ false
  stands : IsSoundConfig g i s.config
  numbered : s.config.number ≡ s.restarted + 1
  few : s.restarted + length s.restarts ≤ most

module _ (g : Graph) (i most : ℕ) (ok : IsWithinGraph g) (within : i < process_count g) (rests : is_awake g i ≡ false)
  where
    -- a run is steady after its first start
    steady_at_start : (restarts : List ℕ) → length restarts ≤ most
        → Steady g i most (going_from (start g i (nothing_yet g)) restarts)
    steady_at_start restarts few = record {
      rests = rests;
      stands = first_start g i ok within rests;
      numbered = rw (fresh_at (process_count g) i) refl;
      few = omega (arith, few);
    }

    -- a restart that is due keeps it steady
    ready_steady : (s : Going) (ns : List ℕ) → s.restarts ≡ ns → Steady g i most s
        → Steady g i most (after_first_restart g i s ns)
    ready_steady s [] e h = h
    ready_steady s (n ∷ ns) e h =
        let stands = ready_stands g i s ok within rests h.stands (n ∷ ns) in
        by_test (is_none s.config.ended && eqb n s.done)
        (λ b. IsSoundConfig g i (cond b (after_restart g i s ns) s).config
        → Steady g i most (cond b (after_restart g i s ns) s))
        (λ t stands. let live = status_none g i s.config h.stands (is_none_true _ (and_parts _ _ t).0) in record {
          rests = rests;
          stands = stands;
          numbered = omega (arith, live.0.sound.root_in, h.numbered);
          few = omega (arith, h.few, ap length e);
        })
        (λ t stands. h) stands

    -- a delivery that may come keeps it steady
    delivered_steady : (s : Going) (x : ℕ) (d : Delivery) → Steady g i most s → MayCome g s.config x d
        → Steady g i most (going_after g i s x d)
    delivered_steady s x d h may = record {
      rests = rests;
      stands = delivered ok h.stands may;
      numbered = number_kept g i s.config x d.message d.hint ∙ h.numbered;
      few = h.few;
    }

    -- deliveries keep it steady
    leads_steady : (rule : Rule) (log : List Delivery) (s end : Going) → Steady g i most s
        → DeliveriesLead rule g i s log end → Steady g i most end
    leads_steady rule [] s end h l = subst (λ (t : Going). Steady g i most t) l (ready_steady s s.restarts refl h)
    leads_steady rule (d ∷ log) s end h l =
        leads_steady rule log (going_after g i (after_due_restart g i s) l.0 d) end
        (delivered_steady (after_due_restart g i s) l.0 d (ready_steady s s.restarts refl h) l.1) l.3

-- a log without hints, with one delivery more that has none, is a log without hints
pub no_hints_on : (log : List Delivery) (d : Delivery) → HasNoHints log → d.hint ≡ None → HasNoHints (log ++ d ∷ [])
no_hints_on [] d h e = (e, tt)
no_hints_on (x ∷ log) d h e = (h.0, no_hints_on log d h.1 e)

module _ (restarts : List ℕ) (r : RunState) (way : IsReady restarts r) where
  -- the initiator is a process of the graph
  within : r.initiator < process_count r.graph
  within = idle_within r.graph r.initiator way.accepted.idle

  -- nothing was started, since the initiator is awake, or the run is steady
  started : (r.going ≡ going_from (nothing_yet r.graph) []) ⊎ Steady r.graph r.initiator (length restarts) r.going
  started =
      by_test (is_awake r.graph r.initiator)
      (λ b. DeliveriesLead (chosen_place r.choices) r.graph r.initiator
      (cond b (going_from (nothing_yet r.graph) [])
      (going_from (start r.graph r.initiator (nothing_yet r.graph)) restarts)) r.log r.going
      → (r.going ≡ going_from (nothing_yet r.graph) []) ⊎ Steady r.graph r.initiator (length restarts) r.going)
      (λ e l. inl (nothing_led (chosen_place r.choices) r.graph r.initiator r.log r.going l).1)
      (λ e l. inr (leads_steady r.graph r.initiator (length restarts) way.well_formed.within within e
      (chosen_place r.choices) r.log (going_from (start r.graph r.initiator (nothing_yet r.graph)) restarts) r.going
      (steady_at_start r.graph r.initiator (length restarts) way.well_formed.within within e restarts (omega arith)) l))
      way.leads

  -- wherever the run is, there are as many processes as the graph has
  all_there : length r.going.config.procs ≡ process_count r.graph
  all_there =
      ⊎_elim
      (λ (e : r.going ≡ going_from (nothing_yet r.graph) []). ap (λ (t : Going). length t.config.procs) e
      ∙ length-replicate (process_count r.graph) new_proc)
      (λ (h : Steady r.graph r.initiator (length restarts) r.going). h.stands.size) started

  -- no more restarts have come than were to
  few_restarts : r.going.restarted ≤ length restarts
  few_restarts =
      ⊎_elim
      (λ (e : r.going ≡ going_from (nothing_yet r.graph) []). omega (arith, ap (λ (t : Going). t.restarted) e))
      (λ (h : Steady r.graph r.initiator (length restarts) r.going). omega (arith, h.few)) started

  -- the deliveries are at most two for each dependency and each start that a run may have
  log_bound : length r.log ≤ 2 * dependency_count r.graph * (MAX_RESTARTS + 1)
  log_bound =
      let short = leads_are_short (chosen_place r.choices) r.graph r.initiator restarts r.log r.going
      way.well_formed.within way.accepted.idle way.leads in
      let most : r.going.restarted + 1 ≤ MAX_RESTARTS + 1 =
      omega (arith, few_restarts, way.accepted.restarts_good.few) in
      omega (arith, short, mul-le-mul_left (2 * dependency_count r.graph) most)

  -- one more delivery can be counted
  pub room : r.going.done + 1 < 2 ^ 64
  room = omega (arith, way.count, log_bound, few_dependencies r.graph way.well_formed)

  -- the place that the next choice names
  abbrev place : ℕ
  place = slice_index r.choices r.going.done % length r.going.config.bag

  module _ (m : Message) (taken : Config) (going : r.going.config.ended ≡ None)
      (there : slice_get r.going.config.bag place ≡ Some m) (is : taken ≡ without_message r.going.config place) where
    -- while a message is undelivered the run is steady
    steady : Steady r.graph r.initiator (length restarts) r.going
    steady =
        ⊎_elim
        (λ (e : r.going ≡ going_from (nothing_yet r.graph) []). absurd (none-some _
        (subst (λ (t : Going). slice_get t.config.bag place ≡ Some m) e there)))
        (λ (h : Steady r.graph r.initiator (length restarts) r.going). h) started

    -- the message that was taken may be delivered
    pub may_receive : MayReceive r.graph taken m
    may_receive =
        subst (λ (c : Config). MayReceive r.graph c m) (sym is) (record {
          process = record { size = steady.stands.size; within = sent.to_in; going = going };
          unheard = λ awake.
              lt-ltb _ _ (above (proc_at r.going.config.procs m.to).latest (live.0.sound.rests m.to) awake);
        })
      where
        live : IsSoundRun r.graph r.initiator r.going.config.number (proc_at r.going.config.procs) r.going.config.bag
            r.going.config.engaged × (0 < (proc_at r.going.config.procs r.initiator).num)
        live = status_none r.graph r.initiator r.going.config steady.stands going

        sent : IsSoundMessage r.graph r.initiator r.going.config.number (proc_at r.going.config.procs) m
        sent = each_at (IsSoundMessage r.graph r.initiator r.going.config.number (proc_at r.going.config.procs))
            r.going.config.bag place m live.0.fine there

        above : (n : ℕ) → (0 < n → is_awake r.graph m.to ≡ false) → is_awake r.graph m.to ≡ true → n < m.number
        above zero h awake = omega (arith, sent.positive)
        above (suc n) h awake = absurd (true≢false (sym awake ∙ h (omega arith)))

    module _ (hint : Option Verdict) (fit : HintIsFit r.graph taken m hint) (config : Config)
        (moved : config ≡ cond (is_awake r.graph m.to) taken
        (after_message r.graph r.initiator taken m m.kind hint)) where
      -- its delivery
      abbrev d : Delivery
      d = record { message = m; hint = hint }

      -- it may come, by the next choice
      may_come : MayCome r.graph r.going.config place d
      may_come = record {
        going = going;
        there = there;
        hint = same_fit hint (subst (λ (c : Config). HintIsFit r.graph c m hint) is fit);
      }
        where
          same_fit : (h : Option Verdict) → HintIsFit r.graph (without_message r.going.config place) m h
              → HintIsFit r.graph r.going.config m h
          same_fit None e = tt
          same_fit (Some v) e = e

      -- the run once it is delivered
      abbrev next : Going
      next = record r.going { config = config; done = r.going.done + 1 }

      -- it is where this delivery leads
      next_is : next ≡ going_after r.graph r.initiator r.going place d
      next_is = rw (moved, is) refl

      -- once it is delivered the run is under way
      pub next_under_way : (log : List Delivery) → log ≡ r.log ++ d ∷ [] → (v : RunState)
          → v ≡ record r { going = next; log = log } → IsUnderWay restarts v
      next_under_way log longer v e =
          subst (λ (x : RunState). IsUnderWay restarts x) (sym e) (record {
            accepted = way.accepted;
            well_formed = way.well_formed;
            leads = rw (longer, next_is) (leads_on (chosen_place r.choices) r.graph r.initiator r.log
                (going_at_start r.graph r.initiator restarts) r.going place d way.leads may_come
                (eq-eqb place place refl));
            count = restart_keeps_count r.graph r.initiator next r.going.restarts
                ∙ rw (longer, length-append r.log (d ∷ []), way.count) refl;
          })

-- where a restart is due in a run under way, the initiator may start again, and the restart can be counted
pub may_start : (restarts : List ℕ) (r : RunState) (n : ℕ) → IsUnderWay restarts r
    → slice_get r.going.restarts 0 ≡ Some n → n ≡ r.going.done → r.going.config.ended ≡ None
    → MayStart r.graph r.going.config r.initiator × (r.going.restarted + 1 < 2 ^ 32)
may_start restarts r n way first due going = by_restarts r.going.restarts refl
  where
    next : Going
    next = after_due_restart r.graph r.initiator r.going

    by_restarts : (ns : List ℕ) → r.going.restarts ≡ ns
        → MayStart r.graph r.going.config r.initiator × (r.going.restarted + 1 < 2 ^ 32)
    by_restarts [] e = absurd (none-some n (rw e at first))
    by_restarts (m ∷ rest) e =
        let same : m ≡ n = same_Some m n (rw e at first) in
        let is : next ≡ after_restart r.graph r.initiator r.going rest =
        rw (e, going, eq-eqb m r.going.done (same ∙ due)) refl in
        ⊎_elim
        (λ (none : next ≡ going_from (nothing_yet r.graph) []).
        absurd (omega (arith, ap (λ (s : Going). s.restarted) (sym is ∙ none))))
        (λ (h : Steady r.graph r.initiator (length restarts) next).
        let steady = subst (λ (s : Going). Steady r.graph r.initiator (length restarts) s) is h in (
          record {
            process = record {
              size = sym (length-set r.going.config.procs r.initiator _) ∙ steady.stands.size;
              within = within restarts (record r { going = next }) way;
              going = going;
            };
            next = omega (arith, steady.numbered, steady.few, way.accepted.restarts_good.few);
          },
          omega (arith, steady.few, way.accepted.restarts_good.few),
        ))
        (started restarts (record r { going = next }) way)

-- once the next choice of a run under way is known, the run is ready for its delivery, by the choice of the list
pub ready_by_choice : (restarts : List ℕ) (before after r : RunState) (choice : ℕ) → IsUnderWay restarts before
    → IsNextChoice before after choice → r ≡ after
    → IsReady restarts r × (choice ≡ slice_index r.choices r.going.done)
ready_by_choice restarts before after r choice way next e =
    rw e (subst (λ (t : RunState). IsReady restarts t) (sym next.ready) way, next.chosen)

-- a run under way has made fewer deliveries than it may make, and one more leaves fewer to come
pub log_falls : (restarts : List ℕ) (g : Graph) (r v : RunState) → IsUnderWay restarts v → v.graph ≡ g
    → length v.log ≡ length r.log + 1
    → 2 * dependency_count g * (MAX_RESTARTS + 1) + 1 - length v.log
    < 2 * dependency_count g * (MAX_RESTARTS + 1) + 1 - length r.log
log_falls restarts g r v way same longer =
    let ready : RunState = record v { going = after_due_restart v.graph v.initiator v.going } in
    let bound = rw same at (log_bound restarts ready way) in
    omega (arith, bound, longer)

-- ---- the end

-- a network that is cleared at the end is as at first
pub cleared : (restarts : List ℕ) (r : RunState) (c : Config) → IsAtEnd restarts r
    → c ≡ blank_config (length r.going.config.procs) → c ≡ nothing_yet r.graph
cleared restarts r c at_end e = e ∙ ap blank_config (all_there restarts r at_end.ready)

-- what a legal run says of its initiator is true
verdict_right : (g : Graph) (i : ℕ) (restarts : List ℕ) (ending : Ending) (end : Going)
    → IsRight g i restarts ending end → IsVerdict g i (verdict_of ending)
verdict_right g i restarts Declared end h = h.declared refl
verdict_right g i restarts AtRest end h = h.free (λ e. cc)
verdict_right g i restarts (CutFree k) end h = h.free (λ e. cc)

module _ (restarts : List ℕ) (r : RunState) (at_end : IsAtEnd restarts r) where
  -- the deliveries have led to it
  way : IsReady restarts r
  way = at_end.ready

  -- a run that is over has ended as it says
  ends_as : (o : Option Ending) → r.going.config.ended ≡ o → EndsAs r.going.config (unwrap_or o AtRest)
  ends_as None e =
      (e, ⊎_elim (λ (n : r.going.config.ended ≢ None). absurd (n e)) (λ (b : r.going.config.bag ≡ []). b) at_end.over)
  ends_as (Some Declared) e = e
  ends_as (Some (CutFree k)) e = e
  ends_as (Some AtRest) e =
      ⊎_elim
      (λ (s : r.going ≡ going_from (nothing_yet r.graph) []).
      absurd (none-some _ (ap (λ (t : Going). t.config.ended) (sym s) ∙ e)))
      (λ (s : Steady r.graph r.initiator (length restarts) r.going). absurd (subst (λ (o : Option Ending).
      Status r.graph r.initiator r.going.config.number (proc_at r.going.config.procs) r.going.config.bag
      r.going.config.engaged o) e s.stands.status)) (started restarts r way)

  -- its ending
  abbrev ending : Ending
  ending = unwrap_or r.going.config.ended AtRest

  -- it is a legal run
  legal : IsRun (chosen_place r.choices) r.graph r.initiator restarts r.log ending r.going
  legal = record { leads = way.leads; ends = ends_as r.going.config.ended refl }

  -- what is kept of it
  abbrev kept : Run
  kept = record {
    initiator = r.initiator;
    log = r.log;
    ending = ending;
    engaged = r.going.config.engaged;
    restarted = r.going.restarted;
  }

  -- what is kept of it says what is true
  kept_is_true : TellsTruth r.graph kept
  kept_is_true =
      let right = runs_are_sound (chosen_place r.choices) r.graph r.initiator restarts r.log ending r.going
      way.well_formed.within way.accepted.idle legal in record {
        idle = way.accepted.idle;
        verdict = verdict_right r.graph r.initiator restarts ending r.going right;
        engaged = right.engaged;
        begins = right.begins;
        once = right.once;
        end = λ rule others end run.
            runs_are_sound rule r.graph r.initiator others r.log ending end way.well_formed.within
            way.accepted.idle run;
        last = λ rule others end run.
            last_computation_is_a_run rule r.graph r.initiator others r.log ending end way.well_formed.within
            way.accepted.idle run;
        short = leads_are_short (chosen_place r.choices) r.graph r.initiator restarts r.log r.going
            way.well_formed.within way.accepted.idle way.leads;
      }

  -- what is kept of the run of an awake initiator is the empty run
  kept_of_awake : is_awake r.graph r.initiator ≡ true
      → kept ≡ record { initiator = r.initiator; log = []; ending = AtRest; engaged = []; restarted = 0 }
  kept_of_awake awake =
      let none =
      awake_ones_start_nothing (chosen_place r.choices) r.graph r.initiator restarts r.log ending r.going awake legal in
      same_run kept (record { initiator = r.initiator; log = []; ending = AtRest; engaged = []; restarted = 0 }) refl
      none.silent none.at_rest none.nobody none.once

  -- what is kept of it is what is answered
  pub answer_of : (g : Graph) (i : ℕ) (choices : List ℕ) → IsRunState g i choices r → (k : Run) → k ≡ kept
      → IsRunAnswer g i choices restarts k
  answer_of g i choices same k e =
      rw (← same.graph, ← same.initiator, ← same.choices, e) (record {
        accepted = way.accepted;
        initiator = refl;
        legal = record { end = r.going; legal = legal; engaged = refl; restarted = refl };
        restarted = few_restarts restarts r way;
        true_verdict = kept_is_true;
        engaged = who_engages (chosen_place r.choices) r.graph r.initiator restarts r.log ending r.going
            way.well_formed.within way.accepted.idle legal;
        awake = kept_of_awake;
      })
