-- Steps on word 0 keep the whole rule, where they keep the lock's part.
use Rattle.std.proofs.Common.{◌≡◌, ◌≢◌, ℕ, ◌+◌, ◌-◌, ◌%◌, ◌^◌, Bool, true, false, cond, eqb, ltb, [], map, get_or, set, sym, refl, ap, ◌∙◌, subst, arith, get_or-set_other, ⊎_elim, inl}
use Rattle.std.proofs.lemmas.Bool.{eqb-true, false≢true}
use Rattle.std.proofs.lemmas.List.{map-set}
use mathlib.Core.Option.{some}
use lib.ListN.{get_elem?}
use prog.Atomic.{either}
use Rattle.atomic_table.specs.Table.{Me, keeps, stepped, Allows}
use Rattle.atomic_table.proofs.Lists.{at_set, at_map}
use Rattle.cmh_graph.specs.Graph.{Graph}
use Rattle.cmh_rw.specs.declared.TheConstants.{FIRST_ROW, FIRST_VERDICT, WRITER}
use Rattle.cmh_rw.specs.declared.machine.SeatState.{SeatState}
use Rattle.cmh_rw.specs.declared.machine.SeatState.TheVariants.{Away, Retreating, Reading, Writing, Spent}
use Rattle.cmh_rw.specs.declared.machine.Event.TheVariants.{Admit, TryWrite}
use Rattle.cmh_rw.specs.declared.view.LockView.{LockView}
use Rattle.cmh_rw.specs.declared.view.View.{View}
use Rattle.cmh_rw.specs.Machine.{total, writes, reads, retreats, turn}
use Rattle.cmh_rw.specs.History.{fold_at}
use Rattle.cmh_rw.specs.View.{view_after_try, view_after_end}
use Rattle.cmh_rw.specs.Rule.{Moment, lock_of, lock_moment, state_of, LockRule, SeatRule, WordsRule}
use Rattle.cmh_rw.proofs.Folds.{fold-nothing}
use Rattle.cmh_rw.proofs.Lawful.{total-set}
use Rattle.cmh_rw.proofs.Lock.{lock_after_try, enter_kept, leave_kept, take_kept, end_kept}
use Rattle.cmh_rw.proofs.Moments.{TableSeat, away_writing, away_spent, not_held, idle_still, state_at}

-- the lock's part of a seat
abbrev lock_me : TableSeat → Me (Unit {0}) LockView
lock_me me = (me.0.lock, me.1)

-- a step on word 0 that keeps the lock's part of the rule, and what the seat must know, keeps the whole rule
locked : (key : Graph) (s : Moment) (b : WordsRule key s) (n id : ℕ) (me : TableSeat) (w : View)
    → get_elem? s.views id ≡ some me.0 → LockRule key (stepped (lock_moment s) 0 n id me.1 w.lock keeps)
    → w.mine ≡ me.0.mine
    → SeatRule b.postings b.staged b.told w
    → (total writes (set (map state_of (map lock_of s.views)) id w.lock.state) ≡ 0 → (b.staged ≡ []) × (b.told ≡ []))
    → WordsRule key (stepped s 0 n id me.1 w keeps)
locked key s b n id me w at kept mine knows idle = let views = map-set lock_of s.views id w in record {
  postings = b.postings;
  staged = b.staged;
  told = b.told;
  small = b.small;
  lock = subst (λ l. LockRule key record { words = set s.words 0 n; homes = s.homes; views = l }) (sym views) kept;
  count = get_or-set_other s.words 0 1 n 0 (λ e. omega arith) ∙ b.count;
  rows = λ i low. get_or-set_other s.words 0 (FIRST_ROW + i) n 0 (λ e. omega arith) ∙ b.rows i low;
  verdicts = λ p low. get_or-set_other s.words 0 (FIRST_VERDICT + p) n 0 (λ e. omega arith) ∙ b.verdicts p low;
  whole = b.whole;
  true_of = b.true_of;
  part = b.part;
  told_of = b.told_of;
  idle =
      λ z. idle
      (ap (total writes) (sym (ap (map state_of) views ∙ map-set state_of (map lock_of s.views) id w.lock)) ∙ z);
  each =
      λ i u e. ⊎_elim (λ t. subst (SeatRule b.postings b.staged b.told) t.1 knows) (λ t. b.each i u t.1)
      (at_set s.views id i w u e);
  owners =
      λ h. let sum = total-set (λ (u : View). total h u.mine) s.views id me.0 w at in
      let same = ap (total h) mine in
      omega (arith, b.owners h);
}

-- a seat that counts itself in doesn't write
cond-not_writing : (b : Bool) → cond b Reading Retreating ≢ Writing
cond-not_writing true = λ e. cc
cond-not_writing false = λ e. cc

-- a seat that counts itself in isn't spent
cond-not_spent : (b : Bool) → cond b Reading Retreating ≢ Spent
cond-not_spent true = λ e. cc
cond-not_spent false = λ e. cc

-- a seat that is away knows the same where it comes to hold the lock with nothing staged
entering : (key : Graph) (s : Moment) (b : WordsRule key s) (id : ℕ) (v : View) (l : LockView)
    → get_elem? s.views id ≡ some v → v.lock.state ≡ Away → l.state ≢ Spent
    → (l.state ≡ Writing → (b.staged ≡ []) × (b.told ≡ []))
    → SeatRule b.postings b.staged b.told (record v { lock = l })
entering key s b id v l at is not_spent clear =
    let k = b.each id v at in let bare = k.bare (λ e. away_writing (sym is ∙ e)) in record {
      writing = λ e. (bare.0 ∙ sym (clear e).0, bare.1 ∙ sym (clear e).1);
      bare = λ _. bare;
      ready = inl bare.0;
      seen = k.seen;
      other = k.other;
      fresh = λ yes. absurd (not_held v.lock.state is (k.fresh yes).0);
      gone = λ e. absurd (not_spent e);
    }

-- where a seat that is away counts itself in, the rule is kept
pub enters : (key : Graph) (slots id : ℕ) (me : TableSeat) → me.0.lock.state ≡ Away
    → Allows (WordsRule key) slots id me 0 (λ n. (n + 1) % 2 ^ 64)
    (λ n m. m ≡ (view_after_try me.0 (turn (Admit 0) n me.0.lock.state).1 n, me.1))
enters key slots id me is s b homes at small =
    let v = me.0 in
    let x = get_or s.words 0 0 in
    let low = enter_kept key (lock_moment s) id (lock_me me) is b.lock (at_map lock_of s.views id v at) in
    let l = lock_after_try v.lock (turn (Admit 0) x v.lock.state).1 x in
    let state : l.state ≡ cond (ltb x WRITER) Reading Retreating = ap (λ a. (turn (Admit 0) x a).1) is in (
      record v { lock = l },
      keeps,
      tt,
      locked key s b ((x + 1) % 18446744073709551616) id me (record v { lock = l }) at low refl
          (entering key s b id v l at is (λ e. cond-not_spent (ltb x WRITER) (sym state ∙ e))
          (λ e. absurd (cond-not_writing (ltb x WRITER) (sym state ∙ e))))
          (λ z. b.idle
          (idle_still (map state_of (map lock_of s.views)) id v.lock.state l.state (state_at s.views id v at)
          (ap writes is) z)),
      refl,
    )

-- a seat that ends its hold with nothing staged knows what the rule asks
leaving : (key : Graph) (s : Moment) (b : WordsRule key s) (id : ℕ) (v : View) → get_elem? s.views id ≡ some v
    → v.staged ≡ [] → SeatRule b.postings b.staged b.told (view_after_end v)
leaving key s b id v at clear = let k = b.each id v at in record {
  writing = λ e. absurd (away_writing e);
  bare = λ _. (clear, refl);
  ready = inl clear;
  seen = k.seen;
  other = k.other;
  fresh = λ yes. absurd (false≢true yes);
  gone = λ e. absurd (away_spent e);
}

-- a reader or retreater doesn't write
inside-not_writing : (a : SeatState) → reads a + retreats a ≡ 1 → (a ≢ Writing) × (writes a ≡ 0)
inside-not_writing Away h = (λ e. cc, refl)
inside-not_writing Retreating h = (λ e. cc, refl)
inside-not_writing Reading h = (λ e. cc, refl)
inside-not_writing Writing h = absurd (omega arith)
inside-not_writing Spent h = (λ e. cc, refl)

-- where a reader ends its hold or a seat retreats, the rule is kept
pub leaves : (key : Graph) (slots id : ℕ) (me : TableSeat) → reads me.0.lock.state + retreats me.0.lock.state ≡ 1
    → Allows (WordsRule key) slots id me 0 (λ n. (n + (2 ^ 64 - 1)) % 2 ^ 64) (λ _ m. m ≡ (view_after_end me.0, me.1))
leaves key slots id me inside s b homes at small =
    let v = me.0 in
    let x = get_or s.words 0 0 in
    let low = leave_kept key (lock_moment s) id (lock_me me) inside b.lock (at_map lock_of s.views id v at) in
    let not = inside-not_writing v.lock.state inside in let bare = (b.each id v at).bare not.0 in (
      view_after_end v,
      keeps,
      tt,
      locked key s b ((x + 18446744073709551615) % 18446744073709551616) id me (view_after_end v) at low refl
          (leaving key s b id v at bare.0)
          (λ z. b.idle
          (idle_still (map state_of (map lock_of s.views)) id v.lock.state Away (state_at s.views id v at) not.1
          z)),
      refl,
    )

-- where a writer with nothing staged ends its hold, the rule is kept
pub write_ends : (key : Graph) (slots id : ℕ) (me : TableSeat) → me.0.lock.state ≡ Writing → me.0.staged ≡ []
    → Allows (WordsRule key) slots id me 0 (λ n. (n + (2 ^ 64 - 4294967296)) % 2 ^ 64)
    (λ _ m. m ≡ (view_after_end me.0, me.1))
write_ends key slots id me is clear s b homes at small =
    let v = me.0 in
    let x = get_or s.words 0 0 in
    let low = end_kept key (lock_moment s) id (lock_me me) is b.lock (at_map lock_of s.views id v at) in
    let own = (b.each id v at).writing is in let none_staged = sym own.0 ∙ clear in
    let none_told : b.told ≡ [] =
    fold-nothing b.told (λ p. ⊎_elim (λ e. e) (λ e. e ∙ ap (λ l. fold_at l p) none_staged) (b.told_of p)) in (
      view_after_end v,
      keeps,
      tt,
      locked key s b ((x + 18446744069414584320) % 18446744073709551616) id me (view_after_end v) at low refl
          (leaving key s b id v at clear) (λ _. (none_staged, none_told)),
      refl,
    )

-- what a try to write makes of the word and the state
abbrev taken : Bool → ℕ → ℕ × SeatState
taken b x = cond b (WRITER, Writing) (x, Away)

-- a try to write spends no seat
taken-not_spent : (b : Bool) (x : ℕ) → (taken b x).1 ≢ Spent
taken-not_spent true x = λ e. cc
taken-not_spent false x = λ e. cc

-- a try to write makes a writer only where the word was found to be 0
taken-writing : (b : Bool) (x : ℕ) → (taken b x).1 ≡ Writing → b ≡ true
taken-writing true x e = refl
taken-writing false x e = absurd (cc)

-- where a seat that is away tries to become the writer, the rule is kept
pub takes_lock : (key : Graph) (slots id : ℕ) (me : TableSeat) → me.0.lock.state ≡ Away
    → Allows (WordsRule key) slots id me 0 (λ n. either (eqb n 0) 4294967296 n)
    (λ n m. (m ≡ (view_after_try me.0 (turn (TryWrite 0) n me.0.lock.state).1 n, me.1))
    × (me.0.staged ≡ []) × (me.0.told ≡ []))
takes_lock key slots id me is s b homes at small =
    let v = me.0 in
    let x = get_or s.words 0 0 in
    let low = take_kept key (lock_moment s) id (lock_me me) is b.lock (at_map lock_of s.views id v at) in
    let l = lock_after_try v.lock (turn (TryWrite 0) x v.lock.state).1 x in
    let state : l.state ≡ (taken (eqb x 0) x).1 = ap (λ a. (turn (TryWrite 0) x a).1) is in
    let bare = (b.each id v at).bare (λ e. away_writing (sym is ∙ e)) in
    let law = b.lock.lock.word in
    let clear : l.state ≡ Writing → (b.staged ≡ []) × (b.told ≡ []) =
    λ e. let free : x ≡ 0 = eqb-true x 0 (taken-writing (eqb x 0) x (sym state ∙ e)) in b.idle (omega arith) in (
      record v { lock = l },
      keeps,
      tt,
      locked key s b (either (eqb x 0) 4294967296 x) id me (record v { lock = l }) at low refl
          (entering key s b id v l at is (λ e. taken-not_spent (eqb x 0) x (sym state ∙ e)) clear)
          (λ z. b.idle
          (idle_still (map state_of (map lock_of s.views)) id v.lock.state l.state (state_at s.views id v at)
          (ap writes is) z)),
      (refl, bare.0, bare.1),
    )
