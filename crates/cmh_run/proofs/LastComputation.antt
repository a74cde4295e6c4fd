-- The last computation of a run, taken alone, begins a run.
use Rattle.cmh_run.proofs.Common.{eqb, eqb-true, eqb-false, IsTrue, ◌≡◌, ℕ, zero, suc, ◌+◌, ◌<◌, ◌≤◌, false, List, [], ◌∷◌, ◌++◌, length, Option, Some, None, refl, sym, ◌∙◌, ap, arith, ◌⊎◌, inl, inr, eq-eqb, length-replicate, Message, new_proc, start_action, Graph, process_count, dependents_of, is_awake, IsWithinGraph, is_idle, Delivery, Ending, Declared, AtRest, CutFree, Config, proc_at, nothing_yet, start, after_delivery, Going, going_from, after_due_restart, going_after, Rule, MayCome, any_place, DeliveriesLead, EndsAs, IsRun, renumber, computation_log}
use Rattle.std.proofs.lemmas.List.{map-set}
use Rattle.cmh_run.specs.Last.{LastIsRun}
use Rattle.cmh_run.proofs.LiveInvariant.{IsSoundMessage}
use Rattle.cmh_run.proofs.Soundness.{number_kept}
use Rattle.cmh_run.proofs.Configurations.{IsSoundConfig, either, coming, by_restart, by_start, leads_keep, leads_stands, status_none, fresh_at, ready_stands, delivered}
use Rattle.cmh_run.proofs.DeliveryBound.{phi_of, delivered_falls}
use Rattle.cmh_run.proofs.OneComputation.{kept, place_among, kept_at, kept_append, kept_sent, all_fresh}
use Rattle.cmh_run.proofs.LastComputationSteps.{same_end, IsAlike, shadow, delivered_alike, fit_alike, unseen_delivered, none_kept}

-- a run without restarts on its way
abbrev plain : Config → ℕ → Going
plain c k = record { config = c; done = k; restarts = []; restarted = 0 }

-- what the run of computation n alone is at, while the whole run is at c
record Shadows (g : Graph) (i n : ℕ) (c a : Config) : Type 0 where
  newest : c.number ≡ n → IsAlike n c a
  before : c.number < n → a ≡ start g i (nothing_yet g)

-- deliveries that lead on from where others led
joined : (g : Graph) (i : ℕ) (log rest : List Delivery) (a b : Config) (k j : ℕ) (end : Going)
    → DeliveriesLead any_place g i (plain a k) log (plain b j) → DeliveriesLead any_place g i (plain b j) rest end
    → DeliveriesLead any_place g i (plain a k) (log ++ rest) end
joined g i [] rest a b k j end l r = rw l r
joined g i (d ∷ log) rest a b k j end l r =
    (l.0, l.1, l.2, joined g i log rest (after_delivery g i a l.0 d.message d.hint) b (k + 1) j end l.3 r)

module _ (rule : Rule) (g : Graph) (i : ℕ) (ok : IsWithinGraph g) (within : i < process_count g)
    (rests : is_awake g i ≡ false) where
  -- deliveries and restarts never lower the number of the last start
  leads_rises : (log : List Delivery) (s end : Going) → IsSoundConfig g i s.config → DeliveriesLead rule g i s log end
      → s.config.number ≤ end.config.number
  leads_rises log s end h l =
      leads_keep (λ t. s.config.number ≤ t.config.number) rule g i ok within rests
      (λ t ns now e low. let live = status_none g i t.config now e in omega (arith, live.0.sound.root_in))
      (λ t x d now may low. omega (arith, number_kept g i t.config x d.message d.hint)) log s end h (omega arith) l

  module _ (n : ℕ) where
    -- where no process and no message has a number above the initiator's, a start begins its computation alone
    started : (c a : Config) → length c.procs ≡ process_count g
        → ((k : ℕ) → (proc_at c.procs k).latest ≤ (proc_at c.procs i).latest)
        → ((start g i c).number ≡ n → kept n c.bag ≡ []) → a ≡ start g i (nothing_yet g)
        → Shadows g i n (start g i c) a
    started c a size low bag now = record {
      newest = λ q. (
        (start g i c).ended,
        same_end (start_action (length (dependents_of g i))),
        rw (
          now,
          kept_append,
          bag q,
          map-set,
          all_fresh n c.procs (λ k. omega (arith, low k)),
          size,
          q,
          eq-eqb n n refl,
          kept_sent,
          fresh_at,
        ),
      );
      before = λ q. now;
    }

    -- a restart changes nothing of where the run of computation n alone is
    ready_shadows : (s : Going) (a : Config) → IsSoundConfig g i s.config → Shadows g i n s.config a
        → (after_due_restart g i s).config.number ≤ n → Shadows g i n (after_due_restart g i s).config a
    ready_shadows s a h sh =
        by_restart (λ t. t.config.number ≤ n → Shadows g i n t.config a) g i s s.restarts (λ low. sh)
        (λ going ns low.
        let live = status_none g i s.config h going in
        started s.config a h.size (λ k. omega (arith, live.0.sound.latest k, live.0.sound.root_in))
        (λ q. none_kept (IsSoundMessage g i s.config.number (proc_at s.config.procs)) n
        (λ m f. omega (arith, f.low, live.0.sound.root_in)) s.config.bag live.0.fine)
        (sh.before (omega (arith, live.0.sound.root_in))))

    -- where these deliveries, those of computation n, lead its run alone
    record Alone (own : List Delivery) (a : Config) (k : ℕ) (end : Going) : Type 0 where
      at : Config
      done : ℕ
      leads : DeliveriesLead any_place g i (plain a k) own (plain at done)
      shadows : Shadows g i n end.config at

    module _ {c : Config} {x : ℕ} {d : Delivery} (h : IsSoundConfig g i c) (may : MayCome g c x d) (low : c.number ≤ n)
      where
        -- a run that is led on hasn't ended, and no more has the run of computation n alone
        still_shadow : (a : Config) → IsAlike n c a → a ≡ shadow n c None
        still_shadow a now = now.2 ∙ ap (shadow n c) (rw may.going at now.1)

        -- the delivery of a message of another computation leaves the run of computation n alone where it is
        older_shadows : (d.message.number ≡ n → ⊥) → (a : Config) → Shadows g i n c a
            → Shadows g i n (after_delivery g i c x d.message d.hint) a
        older_shadows other a sh = record {
          newest = λ q.
              let is_n : c.number ≡ n = sym (number_kept g i c x d.message d.hint) ∙ q in
              let same = unseen_delivered h may n is_n other in
              (None, same.0, still_shadow a (sh.newest is_n) ∙ same.1);
          before = λ q. sh.before (omega (arith, number_kept g i c x d.message d.hint));
        }

        -- the delivery of a message of computation n leads its run alone on
        own_leads : d.message.number ≡ n → (own : List Delivery) (end : Going) (k : ℕ)
            → ((b : Config) → Shadows g i n (after_delivery g i c x d.message d.hint) b → Alone own b (k + 1) end)
            → (a : Config) → Shadows g i n c a
            → Alone (record { message = renumber d.message; hint = d.hint } ∷ own) a k end
        own_leads is_n own end k on a sh =
            let is_newest : c.number ≡ n = omega (arith, (coming h may).low) in
            let next =
            on (after_delivery g i (shadow n c None) (place_among n c.bag x) (renumber d.message) d.hint)
            (record {
              newest = λ q. delivered_alike h may n is_newest is_n;
              before = λ q. absurd (omega (arith, number_kept g i c x d.message d.hint));
            }) in
            record {
              at = next.at;
              done = next.done;
              leads = rw (still_shadow a (sh.newest is_newest)) (
                place_among n c.bag x,
                record {
                  going = refl;
                  there = kept_at n c.bag x d.message may.there is_n;
                  hint = fit_alike h may n is_newest is_n d.hint may.hint;
                },
                refl,
                next.leads,
              );
              shadows = next.shadows;
            }

    -- the deliveries of computation n, the last one, lead its run alone on by themselves
    chain : (log : List Delivery) (s end : Going) (a : Config) (k : ℕ) → IsSoundConfig g i s.config
        → end.config.number ≡ n
        → Shadows g i n s.config a → DeliveriesLead rule g i s log end → Alone (computation_log n log) a k end
    chain [] s end a k h is_end sh l = record {
      at = a;
      done = k;
      leads = refl;
      shadows = rw (← l) (ready_shadows s a h sh (omega (arith, rw (← l) at is_end)));
    }
    chain (d ∷ log) s end a k h is_end sh l =
        let going : Going = after_due_restart g i s in
        let now : IsSoundConfig g i going.config = ready_stands g i s ok within rests h s.restarts in
        let next = delivered ok now l.1 in
        let low : going.config.number ≤ n = omega (
          arith,
          number_kept g i going.config l.0 d.message d.hint,
          leads_rises log (going_after g i going l.0 d) end next l.3,
        ) in
        let shadows = ready_shadows s a h sh low in
        let on = λ (b : Config) (j : ℕ) (after : Shadows g i n (going_after g i going l.0 d).config b).
        chain log (going_after g i going l.0 d) end b j next is_end after l.3 in
        either (eqb d.message.number n)
        (λ e. rw e (own_leads now l.1 low (eqb-true d.message.number n e) (computation_log n log) end k
        (λ b after. on b (k + 1) after) a shadows))
        (λ e. rw e (on a k (older_shadows now l.1 low (eqb-false d.message.number n e) a shadows)))

  -- a run can be finished from here: there are fewer and fewer messages to come
  record Finish (c : Config) (k : ℕ) : Type 0 where
    rest : List Delivery
    ending : Ending
    end : Going
    leads : DeliveriesLead any_place g i (plain c k) rest end
    ends : EndsAs end.config ending

  -- a run is over, or the first message in the bag may come next
  over_or_on : (c : Config) → IsSoundConfig g i c → (o : Option Ending) → c.ended ≡ o
      → (bag : List Message) → c.bag ≡ bag
      → ((ending : Ending) × EndsAs c ending)
      ⊎ ((m : Message) × MayCome g c 0 (record { message = m; hint = None }))
  over_or_on c h None e [] f = inl (AtRest, (e, f))
  over_or_on c h None e (m ∷ bag) f = inr (m, record { going = e; there = rw f; hint = tt })
  over_or_on c h (Some Declared) e bag f = inl (Declared, e)
  over_or_on c h (Some (CutFree p)) e bag f = inl (CutFree p, e)
  over_or_on c h (Some AtRest) e bag f = absurd (rw e at h.status)

  -- a run can be finished by the delivery of the first message, again and again
  finish : (fuel : ℕ) (c : Config) (k : ℕ) → IsSoundConfig g i c → phi_of g c < fuel → Finish c k
  finish zero c k h enough = absurd (omega arith)
  finish (suc fuel) c k h enough = elim (over_or_on c h c.ended refl c.bag refl) [
    | inl over ↦ record { rest = []; ending = over.0; end = plain c k; leads = refl; ends = over.1 }
    | inr next ↦
        let d : Delivery = record { message = next.0; hint = None } in
        let on = finish fuel (after_delivery g i c 0 next.0 None) (k + 1) (delivered ok h next.1)
        (omega (arith, delivered_falls h next.1)) in
        record {
          rest = d ∷ on.rest;
          ending = on.ending;
          end = on.end;
          leads = (0, next.1, refl, on.leads);
          ends = on.ends;
        }
  ]

-- the last computation of every run, taken alone, begins a run
pub last_computation_is_a_run : (rule : Rule) (g : Graph) (i : ℕ) (restarts : List ℕ)
    (log : List Delivery) (ending : Ending) (end : Going)
    → IsWithinGraph g → IsTrue (is_idle g i) → IsRun rule g i restarts log ending end
    → LastIsRun g i log ending end
last_computation_is_a_run rule g i restarts log ending end ok idle run =
    by_start rule g i restarts log end ok idle run.leads
    (λ up silent still.
    let same : IsRun any_place g i [] [] ending end = record { leads = rw up (sym still); ends = run.ends } in
    rw silent (record { begins = ([], ending, end, same); whole = λ uncut. (end, same, refl) }))
    (λ rests within first l.
    let began : Config = start g i (nothing_yet g) in
    let n : ℕ = end.config.number in
    let fresh = started rule g i ok within rests n (nothing_yet g) began (length-replicate (process_count g) new_proc)
    (λ k. rw (fresh_at (process_count g) k) (omega arith)) (λ q. refl) refl in
    let alone = chain rule g i ok within rests n log (going_from began restarts) end began 0 first refl fresh l in
    let stands = leads_stands any_place g i ok within rests (computation_log n log) (plain began 0)
    (plain alone.at alone.done) first alone.leads in
    let on = finish rule g i ok within rests (suc (phi_of g alone.at)) alone.at alone.done stands (omega arith) in
    let here = alone.shadows.newest refl in
    record {
      begins = (
        on.rest,
        on.ending,
        on.end,
        record {
          leads = rw rests
              (joined g i (computation_log n log) on.rest began alone.at 0 alone.done on.end alone.leads on.leads);
          ends = on.ends;
        },
      );
      whole = λ uncut. (
        plain alone.at alone.done,
        record { leads = rw rests alone.leads; ends = grind (arith, here, uncut, run.ends) },
        ap (λ (c : Config). c.engaged) here.2,
      );
    })
