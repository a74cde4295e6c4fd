-- Each step keeps what is true of a run, over plain functions.
use Rattle.cmh_run.proofs.Common.{◌≡◌, ℕ, suc, ◌+◌, ◌<◌, ◌≤◌, Bool, true, false, ◌&&◌, cond, eqb, ltb, List, [], length, Contains, Some, None, refl, arith, inl, inr, ◌⊎◌, eqb-true, eqb-false, Proc, Graph, dependents_of, is_awake, Depends, Reaches, IsDeadlocked, by_test}
use Rattle.std.proofs.lemmas.Bool.Decides.{nat_tests}
use Rattle.cmh_run.proofs.Paths.{reaches_self}
use Rattle.cmh_run.proofs.Tally.{one_if, tally, without_one, tally-le-length, length-without_one, tally-without_one}
use Rattle.cmh_run.proofs.Invariant.{Sound, IsSoundState, Settles, weight}

-- f with another value at k
abbrev pub upd : {A : Type 0} → (ℕ → A) → ℕ → A → ℕ → A
upd f k v x = cond (eqb x k) v (f x)

-- a fact that goes by whether x is k
pub place : (k x : ℕ) (M : Bool → Type 0) → (x ≡ k → M true) → ((x ≡ k → ⊥) → M false) → M (eqb x k)
place k x M here there = by_test (eqb x k) M (λ e. here (eqb-true x k e)) (λ e. there (eqb-false x k e))

-- what must be true of process k, which becomes p, waits for ds and has the rank j
record IsSoundProcess (g : Graph) (i m : ℕ) (P : ℕ → Proc) (rank : ℕ → ℕ) (clock k : ℕ) (p : Proc) (ds : List ℕ)
    (j : ℕ) : Type 0 where
  latest : p.latest ≤ m
  waits : p.wait ≡ true
  tops : p.engager ≡ None → k ≡ i
  nums : p.latest ≡ m → p.num ≡ length ds
  idle_out : p.latest < m → length ds ≡ 0
  rests : is_awake g k ≡ false
  reached : Reaches g i k
  parents : (e : ℕ) → p.latest ≡ m → p.engager ≡ Some e → ((P e).latest ≡ m) × (rank e < j)
  clocked : p.latest ≡ m → j < clock
  settled : p.latest ≡ m → Settles g m P k ds
  known : (r : ℕ) → 0 < tally r ds → Depends g k r
  few : (r : ℕ) → tally r ds ≤ tally r (dependents_of g k)

module _ {g : Graph} {i m : ℕ} {P : ℕ → Proc} {T : ℕ → ℕ → ℕ} (s : IsSoundState g i m P T) where
  -- what is true of a run stays true where fewer messages go along dependencies on awake processes alone
  pub fewer : {T' : ℕ → ℕ → ℕ} → ((k r : ℕ) → T' k r ≤ T k r) → ((k r : ℕ) → is_awake g r ≡ false → T k r ≤ T' k r)
      → IsSoundState g i m P T'
  fewer {T'} less same = record {
    out = s.out;
    rank = s.rank;
    clock = s.clock;
    sound = grind (arith, less, same);
  }

  -- what is true of a run stays true where process k alone changes, and keeps its place if it is in the computation
  changed : (k : ℕ) (p : Proc) (ds : List ℕ) (j clock' : ℕ) (T' : ℕ → ℕ → ℕ) → s.clock ≤ clock'
      → IsSoundProcess g i m P s.rank clock' k p ds j
      → ((P k).latest ≡ m → (p.latest ≡ m) × (p.engager ≡ (P k).engager) × (j ≡ s.rank k))
      → ((x r : ℕ) → weight m (upd P k p) T' x r + tally r (s.out x) ≡ weight m P T x r + tally r (upd s.out k ds x))
      → IsSoundState g i m (upd P k p) T'
  changed k p ds j clock' T' later c keeps moved = record {
    out = upd s.out k ds;
    rank = upd s.rank k j;
    clock = clock';
    sound = record {
      positive = s.positive;
      root_in = (stays i s.root_in).0;
      root_top = grind (arith, nat_tests, keeps, s.root_in, s.root_top);
      latest = λ x. grind (arith, nat_tests, s.latest x);
      waits = λ x h. grind (arith, nat_tests, s.waits x);
      tops = λ x h o. grind (arith, nat_tests, s.tops x);
      nums = λ x h. grind (arith, nat_tests, s.nums x);
      idle_out = λ x h. grind (arith, nat_tests, s.idle_out x);
      rests = λ x h. grind (arith, nat_tests, s.rests x);
      reached = λ x h. grind (arith, nat_tests, s.reached x);
      parents = λ x e h o. grind (arith, nat_tests, stays e, s.parents x e, c.parents e);
      clocked = λ x h. grind (arith, nat_tests, s.clocked x);
      held = λ x r. omega (arith, moved x r, s.held x r);
      kept = λ x r a. omega (arith, moved x r, s.kept x r a);
      settled = λ x. place k x
          (λ b. (cond b p (P x)).latest ≡ m → Settles g m (upd P k p) x (cond b ds (s.out x)))
          (λ e h. settles x ds (rw e (c.settled h))) (λ n h. settles x (s.out x) (s.settled x h));
      known = λ x r h. grind (arith, nat_tests, s.known x r, c.known r);
      few = λ x r. grind (arith, nat_tests, s.few x r, c.few r);
    };
  }
    where
      stays : (x : ℕ) → (P x).latest ≡ m → ((upd P k p x).latest ≡ m) × (upd s.rank k j x ≡ s.rank x)
      stays x l = grind (arith, nat_tests, keeps)

      settles : (x : ℕ) (os : List ℕ) → Settles g m P x os → Settles g m (upd P k p) x os
      settles x os h = elim h [
        | inl d ↦ inl d
        | inr all ↦ inr (λ r c. elim (all r c) [ inl w ↦ inl w | inr l ↦ inr (stays r l).0 ])
      ]

  -- what is true of a run stays true where k takes part in an older computation
  pub older : (k : ℕ) (p : Proc) {T' : ℕ → ℕ → ℕ} → (P k).latest < m → p.latest < m → p.wait ≡ true
      → (p.engager ≡ None → k ≡ i) → is_awake g k ≡ false → Reaches g i k → ((x r : ℕ) → T' x r ≡ T x r)
      → IsSoundState g i m (upd P k p) T'
  older k p {T'} before after waits top rests reached same =
      changed k p (s.out k) (s.rank k) s.clock T' (omega arith)
      (grind arith) (λ h. absurd (omega arith))
      (λ x r. grind (arith, nat_tests, same x r))

  -- what is true of a run stays true where k is engaged by e, with these dependents
  pub engaged : (k e : ℕ) (p : Proc) (ds : List ℕ) {T' : ℕ → ℕ → ℕ} → (P k).latest < m → p.latest ≡ m
      → p.engager ≡ Some e → p.num ≡ length ds → p.wait ≡ true
      → (P e).latest ≡ m → is_awake g k ≡ false → Reaches g i k → ((r : ℕ) → 0 < tally r ds → Depends g k r)
      → ((r : ℕ) → tally r ds ≤ tally r (dependents_of g k))
      → IsDeadlocked g k ⊎ ((r : ℕ) → Contains (dependents_of g k) r → 0 < tally r ds)
      → ((x y : ℕ)
      → T' x y + one_if (eqb y k && (eqb e x && ltb 0 (length ds))) ≡ T x y + cond (eqb x k) (tally y ds) 0)
      → IsSoundState g i m (upd P k p) T'
  engaged k e p ds {T'} before is_m by size waits e_in rests reached known few settled moved =
      let hears : Settles g m P k ds =
      elim settled [ inl d ↦ inl d | inr all ↦ inr (λ r c. inl (all r c)) ] in
      changed k p ds s.clock (suc s.clock) T' (omega arith) (grind (arith, hears))
      (λ h. absurd (omega arith))
      (λ x r. place k x
      (λ b. weight m (upd P k p) T' x r ≡ weight m P T x r + cond b (tally r ds) 0
      → weight m (upd P k p) T' x r + tally r (s.out x) ≡ weight m P T x r + tally r (cond b ds (s.out x)))
      (λ q h. omega (arith, tally-le-length r (s.out x), s.idle_out x (rw q before))) (λ n h. omega arith) (owed x r))
    where
      owed : (x r : ℕ) → weight m (upd P k p) T' x r ≡ weight m P T x r + cond (eqb x k) (tally r ds) 0
      owed x r = grind (arith, nat_tests, moved x r)

  -- what is true of a run stays true where k receives a reply from r that it waited for
  pub replied : (k r : ℕ) (p : Proc) {T' : ℕ → ℕ → ℕ} → (P k).latest ≡ m → p.latest ≡ m → p.engager ≡ (P k).engager
      → p.wait ≡ true → p.num + 1 ≡ (P k).num
      → 0 < tally r (s.out k) → (P r).latest ≡ m
      → ((x y : ℕ) → weight m (upd P k p) T' x y + one_if (eqb x k && eqb r y) ≡ weight m P T x y)
      → IsSoundState g i m (upd P k p) T'
  replied k r p {T'} k_in is_m top waits num there r_in moved =
      let hears : Settles g m P k (without_one r (s.out k)) = elim (s.settled k k_in) [
        | inl d ↦ inl d
        | inr all ↦ inr (λ y c. elim (all y c) [ inl w ↦ less y w | inr l ↦ inr l ])
      ] in
      changed k p (without_one r (s.out k)) (s.rank k) s.clock T' (omega arith)
      (grind (arith, nat_tests, hears, length-without_one r (s.out k) there, gone)) (λ h. (is_m, top, refl))
      (λ x y. grind (arith, nat_tests, moved x y, gone y))
    where
      gone : (y : ℕ) → tally y (without_one r (s.out k)) + one_if (eqb r y) ≡ tally y (s.out k)
      gone y = tally-without_one r y (s.out k) there

      less : (y : ℕ) → 0 < tally y (s.out k) → (0 < tally y (without_one r (s.out k))) ⊎ ((P y).latest ≡ m)
      less y more = grind (arith, nat_tests, gone y)

-- what a start with a greater number needs of the processes before it
pub record AllowsStart (g : Graph) (i m : ℕ) (P : ℕ → Proc) : Type 0 where
  pub latest : (k : ℕ) → (P k).latest ≤ m
  pub waits : (k : ℕ) → 0 < (P k).latest → (P k).wait ≡ true
  pub tops : (k : ℕ) → 0 < (P k).latest → (P k).engager ≡ None → k ≡ i
  pub rests : (k : ℕ) → 0 < (P k).latest → is_awake g k ≡ false
  pub reached : (k : ℕ) → 0 < (P k).latest → Reaches g i k

-- where what stays true of a run is true, there is what a start needs
pub allows_start : (g : Graph) (i m : ℕ) (P : ℕ → Proc) (T : ℕ → ℕ → ℕ) (out : ℕ → List ℕ) (rank : ℕ → ℕ) (clock : ℕ)
    → Sound g i m P T out rank clock → AllowsStart g i m P
allows_start g i m P T out rank clock s =
    record { latest = s.latest; waits = s.waits; tops = s.tops; rests = s.rests; reached = s.reached }

-- a start with a greater number makes what is true of a run true of the new computation
pub starts : (g : Graph) (i m m' : ℕ) (P : ℕ → Proc) (p : Proc) (ds : List ℕ) {T' : ℕ → ℕ → ℕ} → AllowsStart g i m P
    → m < m'
    → p.latest ≡ m' → p.engager ≡ None → p.num ≡ length ds → p.wait ≡ true
    → is_awake g i ≡ false → ((r : ℕ) → 0 < tally r ds → Depends g i r)
    → ((r : ℕ) → Contains (dependents_of g i) r → 0 < tally r ds) → ((r : ℕ) → tally r ds ≤ tally r (dependents_of g i))
    → ((x y : ℕ) → T' x y ≡ cond (eqb x i) (tally y ds) 0)
    → IsSoundState g i m' (upd P i p) T'
starts g i m m' P p ds {T'} c later is_m top size waits rests known settled few moved =
    let settles : (x : ℕ) → (upd P i p x).latest ≡ m' → Settles g m' (upd P i p) x (upd (λ z. []) i ds x) =
    λ x. place i x
    (λ b. (cond b p (P x)).latest ≡ m' → Settles g m' (upd P i p) x (cond b ds []))
    (λ e h. rw e (inr (λ r d. inl (settled r d)))) (λ n h. absurd (omega (arith, c.latest x))) in
    record {
      out = upd (λ x. []) i ds;
      rank = upd (λ x. 0) i 0;
      clock = 1;
      sound = grind (arith, nat_tests, settles, reaches_self g i);
    }
