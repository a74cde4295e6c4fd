-- Without hints the choices leave one run.
use Rattle.cmh_run.proofs.Common.{◌≡◌, ℕ, List, [], ◌∷◌, refl, sym, ◌∙◌, eqb-true, arith, Delivery, Ending, Graph, Config, Run, IsRunOf, Going, going_at_start, after_due_restart, going_after, MayCome, DeliveriesLead, EndsAs, IsRun, chosen_place, HasNoHints}

-- once a run has ended no delivery may come
pub ended_delivers_nothing : (g : Graph) (c : Config) (x : ℕ) (d : Delivery) (ending : Ending) → EndsAs c ending
    → MayCome g c x d → ⊥
ended_delivers_nothing g c x d ending e may = grind arith

-- from the same state, without hints, the choices lead to one end by one list of deliveries
decides : (choices : List ℕ) (g : Graph) (i : ℕ) (log other : List Delivery) (s end far : Going) (ending last : Ending)
    → DeliveriesLead (chosen_place choices) g i s log end → DeliveriesLead (chosen_place choices) g i s other far
    → EndsAs end.config ending → EndsAs far.config last
    → HasNoHints log → HasNoHints other → (log ≡ other) × (end ≡ far)
decides choices g i [] [] s end far ending last l k e f a b = (refl, sym l ∙ k)
decides choices g i [] (d ∷ other) s end far ending last l k e f a b =
    absurd (ended_delivers_nothing g (after_due_restart g i s).config k.0 d ending (rw (← l) at e) k.1)
decides choices g i (d ∷ log) [] s end far ending last l k e f a b =
    absurd (ended_delivers_nothing g (after_due_restart g i s).config l.0 d last (rw (← k) at f) l.1)
decides choices g i (d ∷ log) (h ∷ other) s end far ending last l k e f a b =
    let place : l.0 ≡ k.0 = eqb-true _ _ l.2 ∙ sym (eqb-true _ _ k.2) in
    let message : d.message ≡ h.message = cc in
    let hint : d.hint ≡ h.hint = a.0 ∙ sym b.0 in
    let same : d ≡ h = λ j. record { message = message j; hint = hint j } in
    let rest = decides choices g i log other (going_after g i (after_due_restart g i s) l.0 d) end far ending last l.3
    (rw (← place, ← same) at k.3) e f a.1 b.1 in
    (cc (same, rest.0), rest.1)

-- without hints the choices leave one run
pub runs_are_deterministic : (choices : List ℕ) (g : Graph) (i : ℕ) (restarts : List ℕ)
    (log other : List Delivery) (ending last : Ending) (end far : Going)
    → IsRun (chosen_place choices) g i restarts log ending end
    → IsRun (chosen_place choices) g i restarts other last far
    → HasNoHints log → HasNoHints other → (log ≡ other) × (end ≡ far)
runs_are_deterministic choices g i restarts log other ending last end far r t a b =
    decides choices g i log other (going_at_start g i restarts) end far ending last r.leads t.leads r.ends t.ends a b

-- a configuration has one ending
pub one_ending : (c : Config) (ending last : Ending) → EndsAs c ending → EndsAs c last → ending ≡ last
one_ending c ending last e f = grind arith

-- two runs that are kept are equal where all that is kept of them is
pub same_run : (r s : Run) → r.initiator ≡ s.initiator → r.log ≡ s.log → r.ending ≡ s.ending → r.engaged ≡ s.engaged
    → r.restarted ≡ s.restarted → r ≡ s
same_run r s a b c d e =
    λ j. record { initiator = a j; log = b j; ending = c j; engaged = d j; restarted = e j }

-- without hints there is one run to be kept
pub one_run : (g : Graph) (choices restarts : List ℕ) (r s : Run) → r.initiator ≡ s.initiator
    → IsRunOf g choices restarts r → IsRunOf g choices restarts s
    → HasNoHints r.log → HasNoHints s.log → r ≡ s
one_run g choices restarts r s mine a b c d =
    let same =
    runs_are_deterministic choices g r.initiator restarts r.log s.log r.ending s.ending a.end b.end a.legal
    (rw (← mine) at b.legal) c d in
    same_run r s mine same.0
    (one_ending a.end.config r.ending s.ending a.legal.ends (rw (← same.1) at b.legal.ends)) (cc same.1) (cc same.1)
