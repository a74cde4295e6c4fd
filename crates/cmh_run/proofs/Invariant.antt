-- What stays true of a run, over plain functions, and what it says at the end.
use Rattle.cmh_run.proofs.Common.{◌≡◌, ℕ, zero, suc, ◌+◌, ◌<◌, ◌≤◌, Bool, true, false, ◌&&◌, eqb, ltb, List, [], ◌∷◌, length, Contains, Option, Some, None, refl, arith, inl, inr, ◌⊎◌, eq-eqb, Proc, Graph, dependents_of, is_awake, Depends, Leads, Reaches, IsDeadlocked, asleep_is_idle, reaches_more}
use Rattle.std.proofs.Common.{eq-zero-or-pos}
use Rattle.std.proofs.lemmas.Bool.Decides.{nat_tests}
use Rattle.cmh_run.proofs.Paths.{reaches_leading, leads_reached}
use Rattle.cmh_run.proofs.Tally.{one_if, tally, tally-le-length, some_tally}

abbrev pub is_engager : ℕ → Option ℕ → Bool
is_engager k None = false
is_engager k (Some e) = eqb e k

-- whether p was engaged by k in computation m and still waits
abbrev pub owes : ℕ → ℕ → Proc → Bool
owes m k p = eqb p.latest m && (is_engager k p.engager && ltb 0 p.num)

-- T k r: the number of messages of computation m that are on their way between k and its dependent r
abbrev pub weight : ℕ → (ℕ → Proc) → (ℕ → ℕ → ℕ) → ℕ → ℕ → ℕ
weight m P T k r = T k r + one_if (owes m k (P r))

-- process k is deadlocked, or each of its dependents stands in os or takes part in computation m
abbrev pub Settles : Graph → ℕ → (ℕ → Proc) → ℕ → List ℕ → Type 0
Settles g m P k os =
    IsDeadlocked g k ⊎ ((r : ℕ) → Contains (dependents_of g k) r → (0 < tally r os) ⊎ ((P r).latest ≡ m))

-- out k: the dependents of which k still waits to hear. rank: the order of engagement.
pub record Sound (g : Graph) (i m : ℕ) (P : ℕ → Proc) (T : ℕ → ℕ → ℕ) (out : ℕ → List ℕ) (rank : ℕ → ℕ)
    (clock : ℕ) : Type 0 where
  pub positive : 0 < m
  pub root_in : (P i).latest ≡ m
  pub root_top : (P i).engager ≡ None
  pub latest : (k : ℕ) → (P k).latest ≤ m
  pub waits : (k : ℕ) → 0 < (P k).latest → (P k).wait ≡ true
  pub tops : (k : ℕ) → 0 < (P k).latest → (P k).engager ≡ None → k ≡ i
  pub nums : (k : ℕ) → (P k).latest ≡ m → (P k).num ≡ length (out k)
  pub idle_out : (k : ℕ) → (P k).latest < m → length (out k) ≡ 0
  pub rests : (k : ℕ) → 0 < (P k).latest → is_awake g k ≡ false
  pub reached : (k : ℕ) → 0 < (P k).latest → Reaches g i k
  pub parents : (k e : ℕ) → (P k).latest ≡ m → (P k).engager ≡ Some e → ((P e).latest ≡ m) × (rank e < rank k)
  pub clocked : (k : ℕ) → (P k).latest ≡ m → rank k < clock
  pub held : (k r : ℕ) → weight m P T k r ≤ tally r (out k)
  pub kept : (k r : ℕ) → is_awake g r ≡ false → tally r (out k) ≤ weight m P T k r
  pub settled : (k : ℕ) → (P k).latest ≡ m → Settles g m P k (out k)
  pub known : (k r : ℕ) → 0 < tally r (out k) → Depends g k r
  pub few : (k r : ℕ) → tally r (out k) ≤ tally r (dependents_of g k)

-- what stays true of a run, with the dependents, the ranks and the clock for which it is true
pub record IsSoundState (g : Graph) (i m : ℕ) (P : ℕ → Proc) (T : ℕ → ℕ → ℕ) : Type 0 where
  pub out : ℕ → List ℕ
  pub rank : ℕ → ℕ
  pub clock : ℕ
  pub sound : Sound g i m P T out rank clock
  pub open sound use *

-- a process that owes k a reply is of computation m, was engaged by k, and still waits
owes_parts : (m k : ℕ) (p : Proc) → 0 < one_if (owes m k p) → (p.latest ≡ m) × (p.engager ≡ Some k) × (0 < p.num)
owes_parts m k p h = grind (arith, nat_tests)

module _ (g : Graph) (i m : ℕ) (P : ℕ → Proc) (T : ℕ → ℕ → ℕ) (out : ℕ → List ℕ) (rank : ℕ → ℕ) (clock : ℕ)
    (s : Sound g i m P T out rank clock) where
  -- once the initiator has all its replies, so has each process that is engaged
  none_waits_below : (P i).num ≡ 0 → (n k : ℕ) → rank k < n → (P k).latest ≡ m → (P k).num ≡ 0
  none_waits_below top zero k h l = absurd (omega arith)
  none_waits_below top (suc n) k h l = (elim (P k).engager as (λ o. (P k).engager ≡ o → (P k).num ≡ 0) [
    | None ↦ λ e. let same : k ≡ i = s.tops k (omega (arith, s.positive, l)) e in rw same top
    | Some e ↦ λ is.
        let up = s.parents k e l is in
        let held = rw (eq-eqb (P k).latest m l, is, eq-eqb e e refl) at (s.held e k) in
        let empty = none_waits_below top n e (omega (arith, up.1, h)) up.0 in
        grind (arith, nat_tests, held, empty, tally-le-length k (out e), s.nums e up.0)
  ]) refl

  -- once the initiator waits for no reply, no process in its computation waits
  none_waits : (P i).num ≡ 0 → (k : ℕ) → (P k).latest ≡ m → (P k).num ≡ 0
  none_waits top k l = none_waits_below top (suc (rank k)) k (omega arith) l

  -- once the initiator waits for no reply, no awake process can be reached from one that is engaged
  all_rest : (P i).num ≡ 0 → (path : List ℕ) (k q : ℕ) → (P k).latest ≡ m → Leads g k path q → is_awake g q ≡ false
  all_rest top [] k q l e = rw e at (s.rests k (omega (arith, s.positive, l)))
  all_rest top (r ∷ rest) k q l h = elim (s.settled k l) [
    | inl dead ↦ dead.1 q (reaches_leading g k q (r ∷ rest) h)
    | inr all ↦ elim (all r h.0.1) [
      | inl more ↦ absurd (omega (arith, tally-le-length r (out k), s.nums k l, none_waits top k l))
      | inr in_it ↦ all_rest top rest r q in_it h.1
    ]
  ]

  -- once the initiator waits for no reply, each process in its computation is deadlocked
  pub engaged_deadlocked : (P i).num ≡ 0 → (k : ℕ) → (P k).latest ≡ m → IsDeadlocked g k
  engaged_deadlocked top k l = (
    asleep_is_idle g k (s.rests k (omega (arith, s.positive, l))),
    λ q way. let on = leads_reached g k q way in
        all_rest top on.0 k q l on.1,
  )

  -- once the initiator waits for no reply, no message of its computation is on its way
  pub none_on_way : (P i).num ≡ 0 → (k r : ℕ) → T k r ≡ 0
  none_on_way top k r =
      grind (arith, s.held k r, tally-le-length r (out k), s.nums k, none_waits top k, s.idle_out k, s.latest k)

  -- where nothing is on its way and no awake process can be reached, no process waits
  at_rest_above : IsDeadlocked g i → ((k r : ℕ) → T k r ≡ 0) → (n k : ℕ) → clock ≤ rank k + n → (P k).latest ≡ m
      → (P k).num ≡ 0
  at_rest_above dead none zero k h l = absurd (omega (arith, s.clocked k l))
  at_rest_above dead none (suc n) k h l = elim (eq-zero-or-pos (P k).num) [
    | inl z ↦ z
    | inr more ↦
        let some : (r : ℕ) × (0 < tally r (out k)) = some_tally (out k) (omega (arith, s.nums k l)) in
        let way = reaches_more g i k some.0 (s.reached k (omega (arith, s.positive, l))) (s.known k some.0 some.1) in
        let kept = s.kept k some.0 (dead.1 some.0 way) in
        let owed = owes_parts m k (P some.0) (omega (arith, none k some.0, some.1)) in
        let later : rank k < rank some.0 = (s.parents some.0 k owed.0 owed.1).1 in
        absurd (omega (arith, owed.2, at_rest_above dead none n some.0 (omega arith) owed.0))
  ]

  -- while the initiator waits and nothing is on its way, it isn't deadlocked
  pub at_rest_free : ((k r : ℕ) → T k r ≡ 0) → 0 < (P i).num → ¬ (IsDeadlocked g i)
  at_rest_free none more dead = omega (arith, at_rest_above dead none clock i (omega arith) s.root_in)
