-- A log has one answer: since a message stands at one place, the deliveries lead to one state.
use Rattle.cmh_run.proofs.Common.{◌≡◌, ℕ, zero, suc, ◌<◌, true, false, List, [], ◌∷◌, ◌++◌, length, take, slice_get, slice_get_within, Some, refl, sym, ◌∙◌, ap, subst, ◌⊎◌, inl, inr, arith, same_Some, Graph, is_idle, IsWellFormed, Delivery, Ending, CheckFault, NotIdle, NotUndelivered, FalseHint, AfterEnd, NotEnded, Memory, Going, going_at_start, after_due_restart, going_after, MayCome, any_place, DeliveriesLead, LeadTo, IsUndelivered, IsLegalRun, HintIsFit, IsFirstCheckFault, Config}
use Rattle.std.proofs.lemmas.List.{take_all}
use Rattle.cmh_run.specs.Check.{ComesAt, HasEnded}
use Rattle.cmh_run.proofs.Determinism.{ended_delivers_nothing, one_ending}
use Rattle.cmh_run.proofs.Places.{one_place}
use Rattle.cmh_run.proofs.ProgressLemmas.{leads_on}
use Rattle.cmh_run.proofs.CheckStateLemmas.{still, firm, begins}

-- where the first n deliveries lead on, each of them may come where those before it have led
reached : (g : Graph) (i : ℕ) (log : List Delivery) (t n : ℕ) (d : Delivery) (s end : Going) → t < n
    → slice_get log t ≡ Some d → DeliveriesLead any_place g i s (take n log) end
    → (at : Going) × DeliveriesLead any_place g i s (take t log) at × (x : ℕ) × MayCome g at.config x d
reached g i [] t n d s end h e l = absurd (cc)
reached g i (x ∷ log) t zero d s end h e l = absurd (omega arith)
reached g i (x ∷ log) zero (suc n) d s end h e l = (
  after_due_restart g i s,
  refl,
  l.0,
  subst (λ (y : Delivery). MayCome g (after_due_restart g i s).config l.0 y) (same_Some x d e) l.1,
)
reached g i (x ∷ log) (suc t) (suc n) d s end h e l =
    let rest = reached g i log t n d (going_after g i (after_due_restart g i s) l.0 x) end (omega arith) e l.3 in
    (rest.0, (l.0, l.1, l.2, rest.1), rest.2, rest.3)

-- what is wrong with d, which is delivery t and comes at c, by cases: the run has ended, or it hasn't
abbrev Flaw : Graph → Config → ℕ → Delivery → CheckFault → Type 0
Flaw g c t d e = (HasEnded c × (e ≡ AfterEnd t))
    ⊎ (¬ (HasEnded c)
    × ((¬ (IsUndelivered c d.message) × (e ≡ NotUndelivered t))
    ⊎ (IsUndelivered c d.message × ¬ (HintIsFit g c d.message d.hint) × (e ≡ FalseHint t))))

-- a delivery with which something is wrong may not come
flaw_stops : (g : Graph) (c : Config) (t x : ℕ) (d : Delivery) (e : CheckFault) → Flaw g c t d e → MayCome g c x d → ⊥
flaw_stops g c t x d e (inl f) may = ended_delivers_nothing g c x d f.0.0 f.0.1 may
flaw_stops g c t x d e (inr (going, inl f)) may = f.0 (x, may.there)
flaw_stops g c t x d e (inr (going, inr f)) may = f.1 may.hint

-- one thing alone is wrong with a delivery
one_flaw : (g : Graph) (c : Config) (t : ℕ) (d : Delivery) (e f : CheckFault) → Flaw g c t d e → Flaw g c t d f → e ≡ f
one_flaw g c t d e f (inl a) (inl b) = cc
one_flaw g c t d e f (inl a) (inr b) = absurd (b.0 a.0)
one_flaw g c t d e f (inr a) (inl b) = absurd (a.0 b.0)
one_flaw g c t d e f (inr (n, inl a)) (inr (m, inl b)) = cc
one_flaw g c t d e f (inr (n, inl a)) (inr (m, inr b)) = absurd (a.0 b.0)
one_flaw g c t d e f (inr (n, inr a)) (inr (m, inl b)) = absurd (b.0 a.0)
one_flaw g c t d e f (inr (n, inr a)) (inr (m, inr b)) = cc

module _ (g : Graph) (i : ℕ) (w : IsWellFormed g) where
  -- from where deliveries have led, the same deliveries lead on to one state
  one_way : is_idle g i ≡ true → (log before : List Delivery) (r s u : Going) → LeadTo g i before r
      → DeliveriesLead any_place g i r log s → DeliveriesLead any_place g i r log u → s ≡ u
  one_way idle [] before r s u leads l k = sym l ∙ k
  one_way idle (d ∷ log) before r s u leads l k =
      let here = firm g i w idle before r leads in
      let a = rw (still g i r here.no_restart) at l in
      let b = rw (still g i r here.no_restart) at k in
      let there : IsUndelivered r.config d.message = (a.0, a.1.there) in
      let place : a.0 ≡ b.0 =
      one_place g i r.config w (here.live d.message there a.1.going)
      (here.number d.message there) a.0 b.0 d.message a.1.there b.1.there in
      one_way idle log (before ++ d ∷ []) (going_after g i r a.0 d) s u
      (rw (still g i (going_after g i r a.0 d) here.no_restart)
      at (leads_on any_place g i before (going_at_start g i []) r a.0 d leads a.1 refl))
      a.3 (rw (← place) at b.3)

  -- from the start the same deliveries lead to one state
  one_state : is_idle g i ≡ true → (log : List Delivery) (s u : Going) → LeadTo g i log s → LeadTo g i log u → s ≡ u
  one_state idle log s u l k = one_way idle log [] (going_at_start g i []) s u (begins g i) l k

  module _ (log : List Delivery) where
    -- something is wrong with a delivery of the log, and those before it are legal
    abbrev HasFlaw : CheckFault → Type 0
    HasFlaw e = (t : ℕ) × (d : Delivery) × (s : Going) × ComesAt g i log t d s × Flaw g s.config t d e

    -- among legal first deliveries there is none with which something is wrong
    none_among : (n : ℕ) (end : Going) (e : CheckFault) → LeadTo g i (take n log) end → (flaw : HasFlaw e)
        → flaw.0 < n → ⊥
    none_among n end e l (t, d, s, comes, f) h =
        let r = reached g i log t n d (going_at_start g i []) end h comes.there l in
        flaw_stops g s.config t r.2 d e f
        (rw (one_state comes.idle (take t log) r.0 s r.1 comes.before) at r.3)

    -- a log of legal deliveries has none with which something is wrong
    no_flaw : (end : Going) (e : CheckFault) → LeadTo g i log end → HasFlaw e → ⊥
    no_flaw end e l flaw =
        none_among (length log) end e (rw (take_all (length log) log (omega arith)) l) flaw
        (slice_get_within log flaw.0 flaw.1 flaw.3.there)

    -- a log has one delivery with which something is wrong while those before it are legal, and one thing is
    one_wrong : (e f : CheckFault) → HasFlaw e → HasFlaw f → e ≡ f
    one_wrong e f (t, d, s, comes, a) (n, c, u, there, b) =
        let one : t < n → ⊥ = none_among n u e there.before (t, d, s, comes, a) in
        let other : n < t → ⊥ = none_among t s f comes.before (n, c, u, there, b) in
        let at : n ≡ t = omega arith in
        let state : u ≡ s = one_state comes.idle (take t log) u s (rw at at there.before) comes.before in
        let delivery : c ≡ d = same_Some c d (sym there.there ∙ ap (slice_get log) at ∙ comes.there) in
        one_flaw g s.config t d e f a (rw (at, state, delivery) at b)

    -- what the first fault is: the initiator isn't idle, or the log is cut short, or something is wrong with a delivery
    abbrev Sort : CheckFault → Type 0
    Sort e = ((e ≡ NotIdle) × (is_idle g i ≡ false))
        ⊎ ((is_idle g i ≡ true) × (((e ≡ NotEnded) × IsFirstCheckFault g i log NotEnded) ⊎ HasFlaw e))

    -- a first fault is of one of these sorts
    sort_of : (e : CheckFault) → IsFirstCheckFault g i log e → Sort e
    sort_of NotIdle h = inl (refl, h)
    sort_of NotEnded h = inr (h.0, inl (refl, h))
    sort_of (AfterEnd n) (t, d, s, comes, f) = inr (comes.idle, inr (t, d, s, comes, inl (f.1, ap AfterEnd f.0)))
    sort_of (NotUndelivered n) (t, d, s, comes, f) =
        inr (comes.idle, inr (t, d, s, comes, inr (f.1, inl (f.2, ap NotUndelivered f.0))))
    sort_of (FalseHint n) (t, d, s, comes, f) =
        inr (comes.idle, inr (t, d, s, comes, inr (f.1, inr (f.2, f.3, ap FalseHint f.0))))
    sort_of Memory h = absurd h.4

    -- two first faults, each of a sort, are equal
    one_sort : (e f : CheckFault) → Sort e → Sort f → e ≡ f
    one_sort e f (inl a) (inl b) = cc
    one_sort e f (inl a) (inr b) = absurd (cc)
    one_sort e f (inr a) (inl b) = absurd (cc)
    one_sort e f (inr (p, inl a)) (inr (q, inl b)) = cc
    one_sort e f (inr (p, inl a)) (inr (q, inr b)) = absurd (no_flaw a.1.1 f a.1.2 b)
    one_sort e f (inr (p, inr a)) (inr (q, inl b)) = absurd (no_flaw b.1.1 e b.1.2 a)
    one_sort e f (inr (p, inr a)) (inr (q, inr b)) = one_wrong e f a b

    -- a legal log has no first fault of any sort
    legal_unsorted : (a : Ending) (e : CheckFault) → IsLegalRun g i log a → Sort e → ⊥
    legal_unsorted a e r (inl h) = cc
    legal_unsorted a e r (inr (q, inl h)) =
        h.1.3 (a, rw (one_state r.idle log r.end h.1.1 r.legal.leads h.1.2) at r.legal.ends)
    legal_unsorted a e r (inr (q, inr h)) = no_flaw r.end e r.legal.leads h

module _ (g : Graph) (i : ℕ) (log : List Delivery) where
  -- a legal log has one ending
  pub one_legal_ending : (a b : Ending) → IsWellFormed g → IsLegalRun g i log a → IsLegalRun g i log b → a ≡ b
  one_legal_ending a b w r s =
      one_ending r.end.config a b r.legal.ends
      (rw (one_state g i w r.idle log s.end r.end s.legal.leads r.legal.leads) at s.legal.ends)

  -- a legal log has no first fault
  pub legal_no_fault : (a : Ending) (e : CheckFault) → IsWellFormed g → IsLegalRun g i log a
      → IsFirstCheckFault g i log e → ⊥
  legal_no_fault a e w r h = legal_unsorted g i w log a e r (sort_of g i w log e h)

  -- a log has one first fault
  pub one_first_fault : (e f : CheckFault) → IsWellFormed g → IsFirstCheckFault g i log e → IsFirstCheckFault g i log f
      → e ≡ f
  one_first_fault e f w a b = one_sort g i w log e f (sort_of g i w log e a) (sort_of g i w log f b)
