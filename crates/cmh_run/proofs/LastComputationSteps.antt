-- The steps of a run, seen from its last computation alone.
use Rattle.cmh_run.proofs.Common.{sym, ◌∙◌, Delivery, MayCome, ◌≡◌, ℕ, ◌<◌, ◌≤◌, List, [], ◌∷◌, map, length, Option, Some, None, refl, subst, arith, append-nil, eq-eqb, ne_eqb, Message, Proc, Action, new_proc, proc_queried, query_action, repeat_action, proc_replied, reply_action, Verdict, Deadlocked, Free, Graph, dependents_of, Ending, Declared, AtRest, CutFree, Config, proc_at, ending_after, after_step, after_engagement, after_hint, without_message, after_delivery, HintIsFit, renumber}
use Rattle.std.proofs.lemmas.List.{map-set}
use Rattle.std.proofs.Math.Seq.{map-set_same}
use Rattle.cmh_run.proofs.Tokens.{Each}
use Rattle.cmh_run.proofs.LiveInvariant.{IsSoundRun, IsSoundMessage}
use Rattle.cmh_run.proofs.Configurations.{by_delivery, counts_parts, IsSoundConfig, coming}
use Rattle.cmh_run.proofs.OneComputation.{recast, kept, place_among, kept_append, kept_taken, kept_other, kept_sent, kept_other_sent, same_engages, same_queried, same_query_action, same_replied, same_reply_action, queried_below, replied_below, recast_at}

-- how the computation alone has ended: it hasn't where an older one was cut
abbrev pub SameEnd : Option Ending → Option Ending → Type 0
SameEnd None e = e ≡ None
SameEnd (Some Declared) e = e ≡ Some Declared
SameEnd (Some AtRest) e = ⊥
SameEnd (Some (CutFree k)) e = Unit {0}

-- an action that ends the run ends the computation alone in the same way
pub same_end : (action : Action) → SameEnd (ending_after action) (ending_after action)
same_end action = grind arith

-- the configuration as computation n has it
abbrev pub shadow : ℕ → Config → Option Ending → Config
shadow n c e = record { bag = kept n c.bag; procs = map (recast n) c.procs; number = 1; engaged = c.engaged; ended = e }

-- the second configuration is the first one, as computation n has it
abbrev pub IsAlike : ℕ → Config → Config → Type 0
IsAlike n c far = (e : Option Ending) × SameEnd c.ended e × (far ≡ shadow n c e)

module _ {g : Graph} {i : ℕ} {c : Config} {x : ℕ} {d : Delivery} (h : IsSoundConfig g i c) (may : MayCome g c x d)
    (n : ℕ) (newest : c.number ≡ n) where
  -- the message that comes
  abbrev m : Message
  m = d.message

  -- the receiver of m
  abbrev to : Proc
  to = proc_at c.procs m.to

  -- the run that is led on is live
  live : IsSoundRun g i c.number (proc_at c.procs) c.bag c.engaged
  live = (rw may.going at h.status).0

  -- what is true of each undelivered message is true of m
  fine : IsSoundMessage g i c.number (proc_at c.procs) m
  fine = coming h may

  -- ---- a message of the computation

  module _ (own : m.number ≡ n) where
    -- the receiver has heard of no later computation
    low : to.latest ≤ m.number
    low = omega (arith, live.sound.latest m.to)

    -- the configuration as the computation of m has it, without m
    abbrev far : Config
    far = without_message (shadow m.number c None) (place_among m.number c.bag x)

    -- in the receiver's place the computation alone has the receiver as seen from it
    here : proc_at (map (recast m.number) c.procs) m.to ≡ recast m.number to
    here = recast_at m.number c.procs m.to fine.positive

    -- where the receiver becomes p and acts, the computation alone is led to the same as seen from it
    acted : (ds : List ℕ) (act : Action) (p : Proc)
        → IsAlike m.number (after_step i (without_message c x) m.number m.to ds p act)
        (after_step i far 1 m.to ds (recast m.number p) act)
    acted ds act p = (
      ending_after act,
      same_end act,
      rw (kept_append, kept_taken m.number c.bag x m may.there refl, map-set, kept_sent),
    )

    -- a query that engages its receiver leads to the same, seen from the computation alone
    engaging : (ds : List ℕ)
        → IsAlike m.number (after_engagement i (without_message c x) m ds) (after_engagement i far (renumber m) ds)
    engaging ds = (
      None,
      refl,
      rw (
        here,
        same_queried m.number to low fine.positive m.from (length ds),
        same_query_action m.number to low fine.positive m.from (length ds),
        eq-eqb m.number c.number (own ∙ sym newest),
        kept_append,
        kept_taken m.number c.bag x m may.there refl,
        map-set,
        kept_sent,
      ),
    )

    -- a query that would engage its receiver leads to the same, with any hint, seen from the computation alone
    asked : (hint : Option Verdict)
        → IsAlike m.number (after_hint g i (without_message c x) m hint) (after_hint g i far (renumber m) hint)
    asked None = engaging (dependents_of g m.to)
    asked (Some Deadlocked) = engaging []
    asked (Some Free) = (Some (CutFree m.to), tt, rw (kept_taken m.number c.bag x m may.there refl) refl)

    -- a delivery leads to the same, seen from the computation alone
    pub delivered_alike : IsAlike n (after_delivery g i c x m d.hint)
        (after_delivery g i (shadow n c None) (place_among n c.bag x) (renumber m) d.hint)
    delivered_alike =
        subst (λ (z : ℕ). IsAlike z (after_delivery g i c x m d.hint)
        (after_delivery g i (shadow z c None) (place_among z c.bag x) (renumber m) d.hint)) own
        (by_delivery (λ next. IsAlike m.number next
        (after_delivery g i (shadow m.number c None) (place_among m.number c.bag x) (renumber m) d.hint))
        g i c x m d.hint
        (λ up. rw up (None, rw may.going refl, rw (kept_taken m.number c.bag x m may.there refl) refl))
        (λ rests kind new. rw (rests, kind, here, same_engages m.number to low fine.positive, new) (asked d.hint))
        (λ rests kind old.
        let same = rw (same_engages m.number to low fine.positive, old) at
        (same_query_action m.number to low fine.positive m.from 0) in
        rw (rests, kind, here, same_engages m.number to low fine.positive, old, same)
        (acted [] (repeat_action to m.number m.from) to))
        (λ rests kind.
        rw (
          rests,
          kind,
          here,
          same_replied m.number to low fine.positive,
          same_reply_action m.number to low fine.positive,
        )
        (acted [] (reply_action to m.number) (proc_replied to m.number))))

    -- a hint that is fit for a configuration is fit for it as the computation alone has it
    pub fit_alike : (hint : Option Verdict) → HintIsFit g c m hint → HintIsFit g (shadow n c None) (renumber m) hint
    fit_alike None fit = tt
    fit_alike (Some v) fit = (rw (← own, here, same_engages m.number to low fine.positive) fit.0, fit.1)

  -- ---- a message of an older computation

  module _ (other : m.number ≡ n → ⊥) where
    -- m is of an older computation
    below : m.number < n
    below = omega (arith, other, fine.low)

    -- seen from computation n, nothing has changed
    abbrev pub IsUnseen : Config → Type 0
    IsUnseen next = SameEnd next.ended None × (shadow n c None ≡ shadow n next None)

    -- an action in an older computation that doesn't end the run changes nothing as seen from computation n
    unseen_acting : (ds : List ℕ) (act : Action) (p : Proc) → ending_after act ≡ None → recast n p ≡ recast n to
        → IsUnseen (after_step i (without_message c x) m.number m.to ds p act)
    unseen_acting ds act p calm same = (
      rw calm refl,
      rw (
        kept_append,
        kept_other n c.bag x m may.there other,
        kept_other_sent n m.number i m.to ds act other,
        append-nil,
        map-set_same (recast n) c.procs m.to p new_proc same,
      ),
    )

    -- after an older query, which its receiver answers or asks these about, nothing changes as seen from computation n
    unseen_queried : (ds : List ℕ)
        → IsUnseen (after_step i (without_message c x) m.number m.to ds
        (proc_queried to m.number m.from (length ds)) (query_action to m.number m.from (length ds)))
    unseen_queried ds = unseen_acting ds (query_action to m.number m.from (length ds))
        (proc_queried to m.number m.from (length ds)) (grind arith)
        (queried_below n m.number to below m.from (length ds))

    -- where an older query engages its receiver, nothing changes as seen from computation n
    unseen_engaging : (ds : List ℕ) → IsUnseen (after_engagement i (without_message c x) m ds)
    unseen_engaging ds = (refl, rw (ne_eqb m.number c.number (λ e. omega (arith, below))) (unseen_queried ds).1)

    -- an older query that would engage changes nothing as seen from computation n, whatever the hint
    unseen_asked : (hint : Option Verdict) → IsUnseen (after_hint g i (without_message c x) m hint)
    unseen_asked None = unseen_engaging (dependents_of g m.to)
    unseen_asked (Some Deadlocked) = unseen_engaging []
    unseen_asked (Some Free) = (tt, rw (kept_other n c.bag x m may.there other) refl)

    -- the delivery of an older message changes nothing as seen from computation n
    pub unseen_delivered : IsUnseen (after_delivery g i c x m d.hint)
    unseen_delivered =
        by_delivery IsUnseen g i c x m d.hint
        (λ up. (rw may.going refl, rw (kept_other n c.bag x m may.there other) refl))
        (λ rests kind new. unseen_asked d.hint) (λ rests kind old. unseen_queried [])
        (λ rests kind. unseen_acting [] (reply_action to m.number) (proc_replied to m.number)
        (grind (arith, counts_parts to m.number, live.sound.tops m.to, live.sound.root_in, fine.positive, below))
        (replied_below n m.number to below))

-- ---- a start

-- where all messages have lower numbers, none is of computation n
pub none_kept : (P : Message → Type 0) (n : ℕ) → ((m : Message) → P m → m.number < n) → (bag : List Message)
    → Each P bag → kept n bag ≡ []
none_kept P n low [] a = refl
none_kept P n low (m ∷ bag) a = rw (ne_eqb m.number n (λ e. omega (arith, low m a.0)), none_kept P n low bag a.1)
