-- The lock's part of the rule is kept by each step on word 0, by splits and by joins.
use Rattle.std.proofs.Common.{◌≡◌, ◌≢◌, ℕ, zero, suc, ◌+◌, ◌-◌, ◌*◌, ◌%◌, ◌<◌, ◌≤◌, Bool, true, false, cond, eqb, ltb, List, [], ◌∷◌, ◌++◌, map, get_or, set, sym, refl, ap, ◌∙◌, subst, arith, length-set, get_or-set_same, ⊎_elim}
use Rattle.std.proofs.lemmas.List.{map-set}
use mathlib.Core.List.{map-append}
use mathlib.Core.Option.{some, some-injective, some-ne-none}
use lib.ListN.{get_elem?}
use prog.Atomic.{either}
use Rattle.atomic_table.specs.Table.{Me, keeps, stepped, Splits, Joins}
use Rattle.atomic_table.proofs.Lists.{at_set, at_map, at_snoc}
use Rattle.cmh_graph.specs.Graph.{Graph}
use Rattle.cmh_rw.specs.declared.machine.SeatState.{SeatState}
use Rattle.cmh_rw.specs.declared.machine.SeatState.TheVariants.{Away, Retreating, Reading, Writing, Spent}
use Rattle.cmh_rw.specs.declared.machine.Event.{Event}
use Rattle.cmh_rw.specs.declared.machine.Event.TheVariants.{Admit, Leave, TryWrite, EndWrite}
use Rattle.cmh_rw.specs.declared.view.LockView.{LockView}
use Rattle.cmh_rw.specs.Machine.{world, total, writes, reads, retreats, turn, IsLawful}
use Rattle.cmh_rw.specs.View.{lock_less_one, newcomer_lock, lock_of_both, spent_view}
use Rattle.cmh_rw.specs.Rule.{LockMoment, state_of, share_of, HasShare, HasLockShare, LockRule}
use Rattle.cmh_rw.proofs.Lawful.{total-set, total-in, total-snoc, lawful-set, turn-lawful}

-- a seat of the table, with what it knows of the lock alone
abbrev LockSeat : Type 0
LockSeat = Me (Unit {0}) LockView

-- a seat that reads or retreats has a share
holds_one : (key : Graph) (v : LockView) → HasLockShare key v → reads v.state + retreats v.state ≤ v.share
holds_one key v h = let P : SeatState → Type 0 = λ s. HasShare key v.graph v.share s → reads s + retreats s ≤ v.share in
    elim v.state as P [
      | Away ↦ λ h. omega arith
      | Retreating ↦ λ h. let k = h.0 in omega arith
      | Reading ↦ λ h. let k = h.0 in omega arith
      | Writing ↦ λ h. omega arith
      | Spent ↦ λ h. omega arith
    ] h

-- readers and retreaters together are no more than the shares of all seats
holders : (key : Graph) (views : List LockView)
    → ((i : ℕ) (v : LockView) → get_elem? views i ≡ some v → HasLockShare key v)
    → total reads (map state_of views) + total retreats (map state_of views) ≤ total share_of views
holders key [] each = omega arith
holders key (v ∷ vs) each =
    let h = holds_one key v (each zero v refl) in let r = holders key vs (λ i w e. each (suc i) w e) in omega arith

-- the lock word is far from the end of its range
word-small : (key : Graph) (s : LockMoment) → LockRule key s → get_or s.words 0 0 < 8589934592
word-small key s h =
    let k = h.lock.word in
    let o = h.lock.one_writer in
    let f = holders key s.views h.each in
    let n = h.shares in
    omega arith

-- what a seat's state counts is no more than the lock word
pub counts : (key : Graph) (s : LockMoment) (id : ℕ) (v : LockView) → LockRule key s → get_elem? s.views id ≡ some v
    → 4294967296 * writes v.state + reads v.state + retreats v.state ≤ get_or s.words 0 0
counts key s id v h at = let k = h.lock.word in let e = at_map state_of s.views id v at in
    let a = total-in writes (map state_of s.views) id v.state e in
    let b = total-in reads (map state_of s.views) id v.state e in
    let c = total-in retreats (map state_of s.views) id v.state e in
    omega arith

-- an event of this seat on word 0 that leaves its share and its graph keeps the lock's part of the rule
placed : (key : Graph) (e : Event) (s : LockMoment) (n id : ℕ) (me : LockSeat) (w : LockView) → LockRule key s
    → get_elem? s.views id ≡ some me.0
    → n ≡ (turn e (get_or s.words 0 0) me.0.state).0 → w.state ≡ (turn e (get_or s.words 0 0) me.0.state).1
    → w.share ≡ me.0.share → HasLockShare key w
    → LockRule key (stepped s 0 n id me.1 w keeps)
placed key e s n id me w h at is state share has =
    let x = get_or s.words 0 0 in
    let wide = h.wide in
    let sum = total-set share_of s.views id me.0 w at in
    let few = h.shares in
    record {
      wide = length-set s.words 0 n ∙ wide;
      lock =
          let law = turn-lawful e x (map state_of s.views) id me.0.state (at_map state_of s.views id me.0 at) h.lock in
          let word : get_or (set s.words 0 n) 0 0 ≡ (turn e x me.0.state).0 =
          get_or-set_same s.words 0 n 0 (omega arith) ∙ is in
          let seats : map state_of (set s.views id w) ≡ set (map state_of s.views) id (turn e x me.0.state).1 =
          map-set state_of s.views id w ∙ ap (set (map state_of s.views) id) state in
          subst IsLawful (λ k. world (sym word k) (sym seats k)) law;
      shares = omega arith;
      each = λ i v e. ⊎_elim (λ t. subst (HasLockShare key) t.1 has) (λ t. h.each i v t.1) (at_set s.views id i w v e);
    }

-- an unspent view keeps its share and its graph in another unspent state
has_same : (key : Graph) (v : LockView) (b : SeatState) → HasLockShare key v → v.state ≢ Spent → b ≢ Spent
    → HasShare key v.graph v.share b
has_same key v b h here there = let Q : Type 0 = (0 < v.share) × (v.graph ≡ key) in
    let q : Q =
    (let P : SeatState → Type 0 = λ s. HasShare key v.graph v.share s → s ≢ Spent → Q in
    elim v.state as P [
      | Away ↦ λ h n. h
      | Retreating ↦ λ h n. h
      | Reading ↦ λ h n. h
      | Writing ↦ λ h n. h
      | Spent ↦ λ h n. absurd (n refl)
    ] h here) in
    let R : SeatState → Type 0 = λ s. s ≢ Spent → HasShare key v.graph v.share s in
    elim b as R [
      | Away ↦ λ n. q
      | Retreating ↦ λ n. q
      | Reading ↦ λ n. q
      | Writing ↦ λ n. q
      | Spent ↦ λ n. absurd (n refl)
    ] there

-- a state that equals one that isn't spent isn't spent
not_spent : (a b : SeatState) → a ≡ b → b ≢ Spent → a ≢ Spent
not_spent a b is n e = n (sym is ∙ e)

-- of two states that aren't spent, neither choice is a spent one
cond-not_spent : (b : Bool) (x y : SeatState) → x ≢ Spent → y ≢ Spent → cond b x y ≢ Spent
cond-not_spent true x y p q = p
cond-not_spent false x y p q = q

-- what a seat knows of the lock after a try that found this word and left it in this state
abbrev pub lock_after_try : LockView → SeatState → ℕ → LockView
lock_after_try l state found = record l { state = state; tries = l.tries + 1; found = found }

-- where a seat that is away counts itself in, the lock's part of the rule is kept
pub enter_kept : (key : Graph) (s : LockMoment) (id : ℕ) (me : LockSeat) → me.0.state ≡ Away → LockRule key s
    → get_elem? s.views id ≡ some me.0
    → LockRule key
    (stepped s 0 ((get_or s.words 0 0 + 1) % 18446744073709551616) id me.1
    (lock_after_try me.0 (turn (Admit 0) (get_or s.words 0 0) me.0.state).1 (get_or s.words 0 0)) keeps)
enter_kept key s id me away h at =
    let x = get_or s.words 0 0 in
    let w = lock_after_try me.0 (turn (Admit 0) x me.0.state).1 x in
    let small = word-small key s h in
    let t : turn (Admit 0) x me.0.state ≡ (x + 1, cond (ltb x 4294967296) Reading Retreating) =
    ap (turn (Admit 0) x) away in
    let n : (x + 1) % 18446744073709551616 ≡ (turn (Admit 0) x me.0.state).0 = omega (arith, ap (λ p. p.0) t) in
    let there : w.state ≢ Spent =
    not_spent w.state (cond (ltb x 4294967296) Reading Retreating) (ap (λ p. p.1) t)
    (cond-not_spent (ltb x 4294967296) Reading Retreating (λ e. cc) (λ e. cc)) in
    placed key (Admit 0) s ((x + 1) % 18446744073709551616) id me w h at n refl refl
    (has_same key me.0 w.state (h.each id me.0 at) (not_spent me.0.state Away away (λ e. cc)) there)

-- what leaving makes of the word and the state
leave_turn : (word : ℕ) (a : SeatState) → reads a + retreats a ≡ 1 → turn (Leave 0) word a ≡ (word - 1, Away)
leave_turn word Away is = absurd (omega arith)
leave_turn word Retreating is = refl
leave_turn word Reading is = refl
leave_turn word Writing is = absurd (omega arith)
leave_turn word Spent is = absurd (omega arith)

-- a seat that reads or retreats isn't spent
in-not_spent : (a : SeatState) → reads a + retreats a ≡ 1 → a ≢ Spent
in-not_spent a is e = let z : reads a + retreats a ≡ 0 = ap (λ b. reads b + retreats b) e in absurd (omega arith)

-- where a reader leaves or a seat retreats, the lock's part of the rule is kept
pub leave_kept : (key : Graph) (s : LockMoment) (id : ℕ) (me : LockSeat) → reads me.0.state + retreats me.0.state ≡ 1
    → LockRule key s → get_elem? s.views id ≡ some me.0
    → LockRule key
    (stepped s 0 ((get_or s.words 0 0 + 18446744073709551615) % 18446744073709551616) id me.1
    (record me.0 { state = Away }) keeps)
leave_kept key s id me inside h at =
    let x = get_or s.words 0 0 in let small = word-small key s h in let one = counts key s id me.0 h at in
    let t = leave_turn x me.0.state inside in
    let n : (x + 18446744073709551615) % 18446744073709551616 ≡ (turn (Leave 0) x me.0.state).0 =
    omega (arith, ap (λ p. p.0) t) in
    placed key (Leave 0) s ((x + 18446744073709551615) % 18446744073709551616) id me (record me.0 { state = Away })
    h at n
    (sym (ap (λ p. p.1) t)) refl (has_same key me.0 Away (h.each id me.0 at) (in-not_spent me.0.state inside) (λ e. cc))

-- where a writer ends its hold, the lock's part of the rule is kept
pub end_kept : (key : Graph) (s : LockMoment) (id : ℕ) (me : LockSeat) → me.0.state ≡ Writing → LockRule key s
    → get_elem? s.views id ≡ some me.0
    → LockRule key
    (stepped s 0 ((get_or s.words 0 0 + 18446744069414584320) % 18446744073709551616) id me.1
    (record me.0 { state = Away }) keeps)
end_kept key s id me writing h at =
    let x = get_or s.words 0 0 in let small = word-small key s h in let one = counts key s id me.0 h at in
    let is : writes me.0.state ≡ 1 = ap writes writing in
    let t : turn (EndWrite 0) x me.0.state ≡ (x - 4294967296, Away) = ap (turn (EndWrite 0) x) writing in
    let n : (x + 18446744069414584320) % 18446744073709551616 ≡ (turn (EndWrite 0) x me.0.state).0 =
    omega (arith, ap (λ p. p.0) t) in
    placed key (EndWrite 0) s ((x + 18446744069414584320) % 18446744073709551616) id me (record me.0 { state = Away })
    h at n
    (sym (ap (λ p. p.1) t)) refl
    (has_same key me.0 Away (h.each id me.0 at) (not_spent me.0.state Writing writing (λ e. cc)) (λ e. cc))

-- what a try to write makes of the word and the state
abbrev tried : Bool → ℕ → ℕ × SeatState
tried b x = cond b (4294967296, Writing) (x, Away)

-- the word after a try to write is the word that the try makes
either_cond : (b : Bool) (x : ℕ) → either b 4294967296 x ≡ (tried b x).0
either_cond true x = refl
either_cond false x = refl

-- a try to write spends no seat
pair-not_spent : (b : Bool) (x : ℕ) → (tried b x).1 ≢ Spent
pair-not_spent true x = λ e. cc
pair-not_spent false x = λ e. cc

-- where a seat that is away tries to become the writer, the lock's part of the rule is kept
pub take_kept : (key : Graph) (s : LockMoment) (id : ℕ) (me : LockSeat) → me.0.state ≡ Away → LockRule key s
    → get_elem? s.views id ≡ some me.0
    → LockRule key
    (stepped s 0 (either (eqb (get_or s.words 0 0) 0) 4294967296 (get_or s.words 0 0)) id me.1
    (lock_after_try me.0 (turn (TryWrite 0) (get_or s.words 0 0) me.0.state).1 (get_or s.words 0 0)) keeps)
take_kept key s id me away h at = let x = get_or s.words 0 0 in
    let w = lock_after_try me.0 (turn (TryWrite 0) x me.0.state).1 x in
    let t : turn (TryWrite 0) x me.0.state ≡ tried (eqb x 0) x = ap (turn (TryWrite 0) x) away in
    let n : either (eqb x 0) 4294967296 x ≡ (turn (TryWrite 0) x me.0.state).0 =
    either_cond (eqb x 0) x ∙ sym (ap (λ p. p.0) t) in
    let there : w.state ≢ Spent =
    not_spent w.state (tried (eqb x 0) x).1 (ap (λ p. p.1) t) (pair-not_spent (eqb x 0) x) in
    placed key (TryWrite 0) s (either (eqb x 0) 4294967296 x) id me w h at n refl refl
    (has_same key me.0 w.state (h.each id me.0 at) (not_spent me.0.state Away away (λ e. cc)) there)

-- a lawful world stays lawful with one more seat that is away
lawful-snoc : (word : ℕ) (l : List SeatState) → IsLawful (world word l) → IsLawful (world word (l ++ Away ∷ []))
lawful-snoc word l h =
    let w = total-snoc writes l Away in
    let r = total-snoc reads l Away in
    let t = total-snoc retreats l Away in
    let k = h.word in
    let o = h.one_writer in
    record { word = omega arith; one_writer = omega arith; alone = λ p. let z = h.alone (omega arith) in omega arith }

-- the lock doesn't see a change between states that hold nothing
quiet : (word : ℕ) (l : List SeatState) (i : ℕ) (a b : SeatState) → get_elem? l i ≡ some a → a ≡ Away
    → writes b + reads b + retreats b ≡ 0 → IsLawful (world word l) → IsLawful (world word (set l i b))
quiet word l i a b at away light h =
    let wa : writes a ≡ 0 = ap writes away in
    let ra : reads a ≡ 0 = ap reads away in
    let ta : retreats a ≡ 0 = ap retreats away in
    let k = h.one_writer in
    lawful-set word word l i a b at h (omega arith) (omega arith) (λ p q. let z = h.alone (omega arith) in omega arith)

-- a seat that is away has a share
has_share : (key : Graph) (v : LockView) → HasLockShare key v → v.state ≡ Away → (0 < v.share) × (v.graph ≡ key)
has_share key v h away = subst (λ s. HasShare key v.graph v.share s) away h

-- a view that is away, with a share and the graph of the table, is as the rule of shares asks
has_from : (key : Graph) (v : LockView) → v.state ≡ Away → (0 < v.share) × (v.graph ≡ key) → HasLockShare key v
has_from key v away h = subst (λ s. HasShare key v.graph v.share s) (sym away) h

-- where a seat that is away is split, the lock's part of the rule is kept
pub split_kept : (key : Graph) (id : ℕ) (v : LockView) → v.state ≡ Away → 1 < v.share
    → Splits (LockRule key) id v (lock_less_one v) (newcomer_lock v)
split_kept key id v away more s h at =
    let sum = total-set share_of s.views id v (lock_less_one v) at in
    let all = total-snoc share_of (set s.views id (lock_less_one v)) (newcomer_lock v) in
    let few = h.shares in
    let has = has_share key v (h.each id v at) away in let e = at_map state_of s.views id v at in record {
      wide = h.wide;
      lock =
          let here : IsLawful (world (get_or s.words 0 0) (set (map state_of s.views) id v.state)) =
          quiet (get_or s.words 0 0) (map state_of s.views) id v.state v.state e away
          (ap (λ a. writes a + reads a + retreats a) away) h.lock in
          let seats : map state_of (set s.views id (lock_less_one v) ++ newcomer_lock v ∷ [])
          ≡ set (map state_of s.views) id v.state ++ Away ∷ [] =
          map-append state_of (set s.views id (lock_less_one v)) (newcomer_lock v ∷ [])
          ∙ ap (λ l. l ++ Away ∷ []) (map-set state_of s.views id (lock_less_one v)) in
          subst IsLawful (λ k. world (get_or s.words 0 0) (sym seats k))
          (lawful-snoc (get_or s.words 0 0) (set (map state_of s.views) id v.state) here);
      shares = omega arith;
      each = λ i u g. ⊎_elim
          (λ old. ⊎_elim (λ t. subst (HasLockShare key) t.1 (has_from key (lock_less_one v) away (omega arith, has.1)))
          (λ t. h.each i u t.1) (at_set s.views id i (lock_less_one v) u old))
          (λ new. subst (HasLockShare key) new (omega arith, has.1))
          (at_snoc (set s.views id (lock_less_one v)) (newcomer_lock v) u i g);
    }

-- where a seat that is away is joined into another that is, the lock's part of the rule is kept
pub join_kept : (key : Graph) (id : ℕ) (v : LockView) (other : ℕ) (w : LockView) → v.state ≡ Away → w.state ≡ Away
    → Joins (LockRule key) id v other w (lock_of_both v w) spent_view.lock
join_kept key id v other w away away' s h at apart there = let mid = set s.views id (lock_of_both v w) in
    let sum = total-set share_of s.views id v (lock_of_both v w) at in
    let all = total-set share_of mid other w spent_view.lock there in
    let few = h.shares in
    let has = has_share key v (h.each id v at) away in
    let e = at_map state_of s.views id v at in
    let e' = at_map state_of mid other w there in
    let x = get_or s.words 0 0 in
    record {
      wide = h.wide;
      lock =
          let one : IsLawful (world x (set (map state_of s.views) id v.state)) =
          quiet x (map state_of s.views) id v.state v.state e away (ap (λ a. writes a + reads a + retreats a) away)
          h.lock in
          let one' : IsLawful (world x (map state_of mid)) =
          subst (λ l. IsLawful (world x l)) (sym (map-set state_of s.views id (lock_of_both v w))) one in
          let two : IsLawful (world x (set (map state_of mid) other Spent)) =
          quiet x (map state_of mid) other w.state Spent e' away' refl one' in
          subst (λ l. IsLawful (world x l)) (sym (map-set state_of mid other spent_view.lock)) two;
      shares = omega arith;
      each = λ i u g. ⊎_elim (λ t. subst (HasLockShare key) t.1 refl)
          (λ t. ⊎_elim (λ t'. subst (HasLockShare key) t'.1 (has_from key (lock_of_both v w) away (omega arith, has.1)))
          (λ t'. h.each i u t'.1) (at_set s.views id i (lock_of_both v w) u t.1))
          (at_set mid other i spent_view.lock u g);
    }

-- a view without a share neither writes nor reads nor retreats
spent_one : (key : Graph) (v : LockView) → HasLockShare key v → v.share ≡ 0
    → writes v.state + reads v.state + retreats v.state ≡ 0
spent_one key v h z =
    let P : SeatState → Type 0 = λ s. HasShare key v.graph v.share s → writes s + reads s + retreats s ≡ 0 in
    elim v.state as P [
      | Away ↦ λ h. refl
      | Retreating ↦ λ h. let k = h.0 in absurd (omega arith)
      | Reading ↦ λ h. let k = h.0 in absurd (omega arith)
      | Writing ↦ λ h. let k = h.0 in absurd (omega arith)
      | Spent ↦ λ h. refl
    ] h

-- views with no shares hold nothing
all_spent : (key : Graph) (views : List LockView)
    → ((i : ℕ) (v : LockView) → get_elem? views i ≡ some v → HasLockShare key v)
    → total share_of views ≡ 0
    → total writes (map state_of views) + total reads (map state_of views) + total retreats (map state_of views) ≡ 0
all_spent key [] each none_left = omega arith
all_spent key (v ∷ vs) each none_left =
    let r = all_spent key vs (λ i w e. each (suc i) w e) (omega arith) in
    let h = spent_one key v (each zero v refl) (omega arith) in
    omega arith

-- where one view has all shares, the others hold nothing
pub alone : (key : Graph) (views : List LockView) (id : ℕ) (v : LockView)
    → ((i : ℕ) (u : LockView) → get_elem? views i ≡ some u → HasLockShare key u) → get_elem? views id ≡ some v
    → total share_of views ≤ v.share
    → total writes (map state_of views) + total reads (map state_of views) + total retreats (map state_of views)
    ≡ writes v.state + reads v.state + retreats v.state
alone key [] id v each at most = absurd (some-ne-none v (sym at))
alone key (x ∷ xs) zero v each at most =
    let is : x ≡ v = some-injective x v at in
    let share = ap share_of is in
    let r = all_spent key xs (λ i w e. each (suc i) w e) (omega arith) in
    let a = ap (λ (u : LockView). writes u.state) is in
    let b = ap (λ (u : LockView). reads u.state) is in
    let c = ap (λ (u : LockView). retreats u.state) is in
    omega arith
alone key (x ∷ xs) (suc id) v each at most =
    let mine = total-in share_of xs id v at in
    let r = alone key xs id v (λ i w e. each (suc i) w e) at (omega arith) in
    let h = spent_one key x (each zero x refl) (omega arith) in
    omega arith
