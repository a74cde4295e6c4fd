-- What the rule says of one seat, and how it stands where one view or one word changes.
use Rattle.std.proofs.Common.{◌≡◌, ◌≢◌, ℕ, zero, suc, ◌+◌, ◌<◌, ◌≤◌, List, [], ◌∷◌, map, get_or, set, sym, refl, ap, ◌∙◌, subst, arith, length-set, get_or-set_other, ⊎_elim}
use Rattle.std.proofs.lemmas.List.{map-set}
use mathlib.Core.Option.{some, some-injective, some-ne-none}
use lib.ListN.{get_elem?}
use Rattle.atomic_table.specs.Table.{Me}
use Rattle.atomic_table.proofs.Lists.{at_set, at_map, set_again}
use Rattle.cmh_graph.specs.Graph.{Graph}
use Rattle.cmh_rw.specs.declared.machine.SeatState.{SeatState}
use Rattle.cmh_rw.specs.declared.machine.SeatState.TheVariants.{Away, Retreating, Reading, Writing, Spent}
use Rattle.cmh_rw.specs.declared.view.LockView.{LockView}
use Rattle.cmh_rw.specs.declared.view.View.{View}
use Rattle.cmh_rw.specs.Machine.{world, total, writes, reads, IsLawful}
use Rattle.cmh_rw.specs.View.{IsHeld}
use Rattle.cmh_rw.specs.Rule.{Moment, lock_of, state_of, HasShare, HasLockShare, LockRule, SeatRule, WordsRule}
use Rattle.cmh_rw.proofs.Lawful.{total-set, total-in}

-- a seat of the table: its view, and no slots
abbrev pub TableSeat : Type 0
TableSeat = Me (Unit {0}) View

-- to be away isn't to write
pub away_writing : Away ≢ Writing
away_writing e = cc

-- to be away isn't to be spent
pub away_spent : Away ≢ Spent
away_spent e = cc

-- a seat that is away holds nothing
pub not_held : (a : SeatState) → a ≡ Away → IsHeld a → ⊥
not_held a is held = let z = ap (λ s. writes s + reads s) is in absurd (omega arith)

-- a seat that writes doesn't count as 0 writers
pub writes-Writing : (a : SeatState) → a ≡ Writing → writes a ≡ 0 → ⊥
writes-Writing a is z = let one = ap writes is in omega arith

-- the state of a seat, among the states of all
pub state_at : (views : List View) (id : ℕ) (v : View) → get_elem? views id ≡ some v
    → get_elem? (map state_of (map lock_of views)) id ≡ some v.lock.state
state_at views id v at = at_map state_of (map lock_of views) id v.lock (at_map lock_of views id v at)

-- a seat that holds the lock names the graph of the table
pub held_graph : (key : Graph) (l : LockView) → HasLockShare key l → IsHeld l.state → l.graph ≡ key
held_graph key l h held = let P : SeatState → Type 0 = λ s. HasShare key l.graph l.share s → IsHeld s → l.graph ≡ key in
    elim l.state as P [
      | Away ↦ λ h e. h.1
      | Retreating ↦ λ h e. h.1
      | Reading ↦ λ h e. h.1
      | Writing ↦ λ h e. h.1
      | Spent ↦ λ h e. absurd (omega arith)
    ] h held

-- a seat that is away names the graph of the table
pub away_graph : (key : Graph) (l : LockView) → HasLockShare key l → l.state ≡ Away → l.graph ≡ key
away_graph key l h is =
    let k : HasShare key l.graph l.share Away = subst (λ s. HasShare key l.graph l.share s) is h in k.1

-- where a view changes and its lock does not, the locks stay
same_views : (views : List View) (id : ℕ) (v w : View) → get_elem? views id ≡ some v → w.lock ≡ v.lock
    → map lock_of (set views id w) ≡ map lock_of views
same_views views id v w at same =
    map-set lock_of views id w ∙ ap (set (map lock_of views) id) same
    ∙ set_again (map lock_of views) id v.lock (at_map lock_of views id v at)

-- where no seat writes once a seat that didn't write has changed, none wrote before
pub idle_still : (l : List SeatState) (id : ℕ) (a b : SeatState) → get_elem? l id ≡ some a → writes a ≡ 0
    → total writes (set l id b) ≡ 0 → total writes l ≡ 0
idle_still l id a b at none_in z = let t = total-set writes l id a b at in omega arith

-- two items of a list together count no more than the sum over the list
both_in : {A : Type 0} (f : A → ℕ) (l : List A) (i j : ℕ) (a b : A) → i ≢ j → get_elem? l i ≡ some a
    → get_elem? l j ≡ some b → f a + f b ≤ total f l
both_in f [] i j a b n p q = absurd (some-ne-none a (sym p))
both_in f (x ∷ xs) zero zero a b n p q = absurd (n refl)
both_in f (x ∷ xs) zero (suc j) a b n p q =
    let is = ap f (some-injective x a p) in let r = total-in f xs j b q in omega arith
both_in f (x ∷ xs) (suc i) zero a b n p q =
    let is = ap f (some-injective x b q) in let r = total-in f xs i a p in omega arith
both_in f (x ∷ xs) (suc i) (suc j) a b n p q = let r = both_in f xs i j a b (λ e. n (ap suc e)) p q in omega arith

-- beside a writer no other seat holds the lock
none_beside : (word : ℕ) (l : List SeatState) (i j : ℕ) (a b : SeatState) → IsLawful (world word l)
    → get_elem? l i ≡ some a → a ≡ Writing → get_elem? l j ≡ some b → j ≢ i → (writes b ≡ 0) × (reads b ≡ 0)
none_beside word l i j a b law at is at' apart =
    let one = ap writes is in
    let two = both_in writes l i j a b (λ e. apart (sym e)) at at' in
    let o = law.one_writer in
    let mine = total-in writes l i a at in
    let none_in = law.alone (omega arith) in
    let theirs = total-in reads l j b at' in
    (omega arith, omega arith)

-- where the rule holds and a seat writes, no other seat holds the lock
pub beside_writer : (key : Graph) (s : Moment) (b : WordsRule key s) (id i : ℕ) (v u : View)
    → get_elem? s.views id ≡ some v
    → v.lock.state ≡ Writing → get_elem? s.views i ≡ some u → i ≢ id
    → (writes u.lock.state ≡ 0) × (reads u.lock.state ≡ 0)
beside_writer key s b id i v u at writing at' apart =
    none_beside (get_or s.words 0 0) (map state_of (map lock_of s.views)) id i v.lock.state u.lock.state b.lock.lock
    (state_at s.views id v at) writing (state_at s.views i u at') apart

-- where a seat's view changes and its lock doesn't, and it writes, some seat writes
pub some_writer : (key : Graph) (s : Moment) (id : ℕ) (v w : View) → get_elem? s.views id ≡ some v → w.lock ≡ v.lock
    → v.lock.state ≡ Writing → total writes (map state_of (map lock_of (set s.views id w))) ≡ 0 → ⊥
some_writer key s id v w at same writing z =
    let one = ap writes writing in
    let t = total-in writes (map state_of (map lock_of s.views)) id v.lock.state (state_at s.views id v at) in
    let y = ap (λ l. total writes (map state_of l)) (sym (same_views s.views id v w at same)) ∙ z in omega arith

-- a store past word 0 leaves the lock's part of the rule, where the seat knows the same of the lock
pub lock_beside : (key : Graph) (s : Moment) (b : WordsRule key s) (id : ℕ) (v w : View) (i n : ℕ)
    → get_elem? s.views id ≡ some v → w.lock ≡ v.lock → 0 < i
    → LockRule key record { words = set s.words i n; homes = s.homes; views = map lock_of (set s.views id w) }
lock_beside key s b id v w i n at same past = let views = map lock_of s.views in
    subst (λ l. LockRule key record { words = set s.words i n; homes = s.homes; views = l })
    (sym (same_views s.views id v w at same)) record {
      wide = length-set s.words i n ∙ b.lock.wide;
      lock =
          subst (λ x. IsLawful (world x (map state_of views)))
          (sym (get_or-set_other s.words i 0 n 0 (λ e. omega arith))) b.lock.lock;
      shares = b.lock.shares;
      each = b.lock.each;
    }

-- the rule stays where a seat's view changes, but neither its lock nor what it added
pub reviewed : (key : Graph) (s : Moment) (b : WordsRule key s) (id : ℕ) (v w : View) → get_elem? s.views id ≡ some v
    → w.lock ≡ v.lock → w.mine ≡ v.mine → SeatRule b.postings b.staged b.told w
    → WordsRule key record { words = s.words; homes = s.homes; views = set s.views id w }
reviewed key s b id v w at same mine knows = record {
  postings = b.postings;
  staged = b.staged;
  told = b.told;
  small = b.small;
  lock =
      subst (λ l. LockRule key record { words = s.words; homes = s.homes; views = l })
      (sym (same_views s.views id v w at same)) b.lock;
  count = b.count;
  rows = b.rows;
  verdicts = b.verdicts;
  whole = b.whole;
  true_of = b.true_of;
  part = b.part;
  told_of = b.told_of;
  idle = λ z. b.idle (ap (λ l. total writes (map state_of l)) (sym (same_views s.views id v w at same)) ∙ z);
  each =
      λ i u e. ⊎_elim (λ t. subst (SeatRule b.postings b.staged b.told) t.1 knows) (λ t. b.each i u t.1)
      (at_set s.views id i w u e);
  owners =
      λ h. let sum = total-set (λ (u : View). total h u.mine) s.views id v w at in
      let same_mine = ap (total h) mine in
      omega (arith, b.owners h);
}

-- where a seat holds the lock, the writer's rows are its own: none for a reader
pub own_rows : (key : Graph) (s : Moment) (b : WordsRule key s) (id : ℕ) (v : View) → get_elem? s.views id ≡ some v
    → IsHeld v.lock.state → (v.staged ≡ b.staged) × (v.told ≡ b.told)
own_rows key s b id v at held = let k = b.each id v at in let law = b.lock.lock in let e = state_at s.views id v at in
    let P : SeatState → Type 0 = λ a. v.lock.state ≡ a → (v.staged ≡ b.staged) × (v.told ≡ b.told) in
    elim v.lock.state as P [
      | Away ↦ λ is. absurd (let z = ap (λ a. writes a + reads a) is in omega arith)
      | Retreating ↦ λ is. absurd (let z = ap (λ a. writes a + reads a) is in omega arith)
      | Reading ↦ λ is. let r =
          total-in reads (map state_of (map lock_of s.views)) id v.lock.state e in let one = ap reads is
          in let al = law.alone in let o = law.one_writer in
          let none_in : total writes (map state_of (map lock_of s.views)) ≡ 0 = no_writer _ _ al (omega arith) in
          let i = b.idle none_in in let j = k.bare (λ w. reading_writing (sym is ∙ w)) in (j.0 ∙ sym i.0, j.1 ∙ sym i.1)
      | Writing ↦ λ is. k.writing is
      | Spent ↦ λ is. absurd (let z = ap (λ a. writes a + reads a) is in omega arith)
    ] refl
  where
    reading_writing : Reading ≢ Writing
    reading_writing e = cc

    no_writer : (w r : ℕ) → (0 < w → r ≡ 0) → 0 < r → w ≡ 0
    no_writer zero r al some_in = refl
    no_writer (suc w) r al some_in = let z = al (omega arith) in absurd (omega arith)
