-- Each event keeps a lawful world lawful.
use Rattle.std.proofs.Common.{◌≡◌, ℕ, zero, suc, ◌+◌, ◌-◌, ◌*◌, ◌<◌, ◌≤◌, eqb, ltb, List, [], ◌∷◌, ◌++◌, length, get_or, set, replicate, sym, refl, ap, ◌∙◌, subst, arith, length-set, inl, inr}
use Rattle.std.proofs.lemmas.List.{length-replicate}
use Rattle.std.proofs.lemmas.Bool.{ltb-true, eqb-true, cond_both, cases_lt}
use mathlib.Core.Option.{some, some-injective, some-ne-none}
use lib.ListN.{get_elem?}
use Rattle.atomic_table.proofs.Lists.{set_again}
use Rattle.cmh_rw.specs.declared.machine.SeatState.{SeatState}
use Rattle.cmh_rw.specs.declared.machine.SeatState.TheVariants.{Away, Retreating, Reading, Writing, Spent}
use Rattle.cmh_rw.specs.declared.machine.Event.{Event}
use Rattle.cmh_rw.specs.declared.machine.Event.TheVariants.{Admit, Leave, TryWrite, EndWrite}
use Rattle.cmh_rw.specs.Machine.{World, world, total, writes, reads, retreats, IsBadCount, IsLawful, IsLock, turn, seat_of, step_of, run_from, new_world}

-- a sum over a list changes by as much as the one item that changes
pub total-set : {A : Type 0} (f : A → ℕ) (l : List A) (i : ℕ) (a b : A) → get_elem? l i ≡ some a
    → total f (set l i b) + f a ≡ total f l + f b
total-set f [] i a b e = absurd (some-ne-none a (sym e))
total-set f (x ∷ xs) zero a b e = let is : f x ≡ f a = ap f (some-injective x a e) in omega arith
total-set f (x ∷ xs) (suc i) a b e = let r = total-set f xs i a b e in omega arith

-- a lawful world, in which the seat i has the state a, stays lawful when it has b and the word is n
pub lawful-set : (word n : ℕ) (l : List SeatState) (i : ℕ) (a b : SeatState) → get_elem? l i ≡ some a
    → IsLawful (world word l)
    → n + (4294967296 * writes a + reads a + retreats a) ≡ word + (4294967296 * writes b + reads b + retreats b)
    → total writes l + writes b ≤ 1 + writes a
    → (0 < total writes l + writes b → writes a < total writes l + writes b → total reads l + reads b ≡ reads a)
    → IsLawful (world n (set l i b))
lawful-set word n l i a b at h is one al =
    let w = total-set writes l i a b at in
    let r = total-set reads l i a b at in
    let t = total-set retreats l i a b at in
    let k = h.word in
    record {
      word = omega arith;
      one_writer = omega arith;
      alone = λ some. let z = al (omega arith) (omega arith) in omega arith;
    }

-- a sum over two lists is that over one and that over the other
pub total-append : {A : Type 0} (f : A → ℕ) (l m : List A) → total f (l ++ m) ≡ total f l + total f m
total-append f [] m = omega arith
total-append f (x ∷ xs) m = omega (arith, total-append f xs m)

-- a sum over a list with one item more
pub total-snoc : {A : Type 0} (f : A → ℕ) (l : List A) (a : A) → total f (l ++ a ∷ []) ≡ total f l + f a
total-snoc f [] a = omega arith
total-snoc f (x ∷ xs) a = omega (arith, total-snoc f xs a)

-- an item of a list counts no more than the sum over the list
pub total-in : {A : Type 0} (f : A → ℕ) (l : List A) (i : ℕ) (a : A) → get_elem? l i ≡ some a → f a ≤ total f l
total-in f [] i a e = absurd (some-ne-none a (sym e))
total-in f (x ∷ xs) zero a e = let is : f x ≡ f a = ap f (some-injective x a e) in omega arith
total-in f (x ∷ xs) (suc i) a e = let r = total-in f xs i a e in omega arith

-- a lawful world stays lawful where a seat is set to the state that it has
unmoved : (word : ℕ) (l : List SeatState) (i : ℕ) (a : SeatState) → get_elem? l i ≡ some a → IsLawful (world word l)
    → IsLawful (world word (set l i a))
unmoved word l i a at h = subst (λ (m : List SeatState). IsLawful (world word m)) (sym (set_again l i a at)) h

-- an event of one seat keeps a lawful world lawful
pub turn-lawful : (e : Event) (word : ℕ) (l : List SeatState) (i : ℕ) (a : SeatState) → get_elem? l i ≡ some a
    → IsLawful (world word l)
    → IsLawful (world (turn e word a).0 (set l i (turn e word a).1))
turn-lawful (Admit n) word l i Away at h =
    cond_both (ltb word 4294967296) Reading Retreating (λ (s : SeatState). IsLawful (world (word + 1) (set l i s)))
    (λ low. let lt = ltb-true word 4294967296 low in
    let k = h.word in
    lawful-set word (word + 1) l i Away Reading at h (omega arith) (omega arith) (λ p q. absurd (omega arith)))
    (λ high. let k = h.one_writer in
    let al = h.alone in
    lawful-set word (word + 1) l i Away Retreating at h (omega arith) (omega arith)
    (λ p q. let z = al (omega arith) in omega arith))
turn-lawful (Leave n) word l i Reading at h =
    let k = h.word in let r = total-in reads l i Reading at in let t = h.alone in
    lawful-set word (word - 1) l i Reading Away at h (omega arith) (omega arith)
    (λ p q. absurd (omega (arith, t (omega arith))))
turn-lawful (Leave n) word l i Retreating at h =
    let k = h.word in let r = total-in retreats l i Retreating at in let t = h.alone in let o = h.one_writer in
    lawful-set word (word - 1) l i Retreating Away at h (omega arith) (omega arith)
    (λ p q. let z = t (omega arith) in omega arith)
turn-lawful (TryWrite n) word l i Away at h =
    let P : ℕ × SeatState → Type 0 = λ p. IsLawful (world p.0 (set l i p.1)) in
    cond_both (eqb word 0) (4294967296, Writing) (word, Away) P
    (λ free. let z = eqb-true word 0 free in
    let k = h.word in
    lawful-set word 4294967296 l i Away Writing at h (omega arith) (omega arith) (λ p q. omega arith))
    (λ taken. unmoved word l i Away at h)
turn-lawful (EndWrite n) word l i Writing at h =
    let k = h.word in let r = total-in writes l i Writing at in let o = h.one_writer in
    lawful-set word (word - 4294967296) l i Writing Away at h (omega arith) (omega arith) (λ p q. absurd (omega arith))
turn-lawful e word l i a at h = unmoved word l i a at h

-- no list of n seats has more readers, retreaters and writers than n
few_hold : (l : List SeatState) → total writes l + total reads l + total retreats l ≤ length l
few_hold [] = omega arith
few_hold (Away ∷ xs) = omega (arith, few_hold xs)
few_hold (Retreating ∷ xs) = omega (arith, few_hold xs)
few_hold (Reading ∷ xs) = omega (arith, few_hold xs)
few_hold (Writing ∷ xs) = omega (arith, few_hold xs)
few_hold (Spent ∷ xs) = omega (arith, few_hold xs)

-- the word of a lock is far from the end of its range
pub lock_word-small : (w : World) → IsLock w → w.word < 8589934592
lock_word-small w h =
    let k = h.lawful.word in let o = h.lawful.one_writer in let f = few_hold w.seats in let n = h.few in omega arith

-- an event of one seat keeps a lock a lock
pub lock-turn : (e : Event) (word i : ℕ) (l : List SeatState) (a : SeatState) → get_elem? l i ≡ some a
    → IsLock (world word l) → IsLock (world (turn e word a).0 (set l i (turn e word a).1))
lock-turn e word i l a at h =
    record {
      lawful = turn-lawful e word l i a at h.lawful;
      few = subst (λ (n : ℕ). n ≤ 64) (sym (length-set l i (turn e word a).1)) h.few;
    }

-- at a place within a list stands the item that is got there
at_get : {A : Type 0} (l : List A) (i : ℕ) (d : A) → i < length l → get_elem? l i ≡ some (get_or l i d)
at_get [] i d h = absurd (omega arith)
at_get (x ∷ xs) zero d h = refl
at_get (x ∷ xs) (suc i) d h = at_get xs i d (omega arith)

-- past the end of the seats a spent one is got
past : (l : List SeatState) (n : ℕ) → length l ≤ n → get_or l n Spent ≡ Spent
past [] n h = refl
past (x ∷ xs) zero h = absurd (omega arith)
past (x ∷ xs) (suc n) h = past xs n (omega arith)

-- a change past the end of a list changes nothing
set-past : (l : List SeatState) (n : ℕ) (b : SeatState) → length l ≤ n → set l n b ≡ l
set-past [] n b h = refl
set-past (x ∷ xs) zero b h = absurd (omega arith)
set-past (x ∷ xs) (suc n) b h = ap (λ ys. x ∷ ys) (set-past xs n b (omega arith))

-- a spent seat does nothing
turn-spent : (e : Event) (word : ℕ) → turn e word Spent ≡ (word, Spent)
turn-spent (Admit n) word = refl
turn-spent (Leave n) word = refl
turn-spent (TryWrite n) word = refl
turn-spent (EndWrite n) word = refl

-- an event on no seat changes nothing
step-past : (e : Event) (word : ℕ) (l : List SeatState) → length l ≤ seat_of e
    → world word l ≡ step_of (world word l) e
step-past e word l h =
    let is : turn e word (get_or l (seat_of e) Spent) ≡ (word, Spent) =
    ap (turn e word) (past l (seat_of e) h) ∙ turn-spent e word in
    λ k. world (sym is k).0 ((sym (set-past l (seat_of e) (turn e word (get_or l (seat_of e) Spent)).1 h)) k)

-- each event keeps a lawful world lawful
pub step_law : (w : World) (e : Event) → IsLawful w → IsLawful (step_of w e)
step_law w e h = elim (cases_lt (seat_of e) (length w.seats)) as (λ d. IsLawful (step_of w e)) [
  | inl lt ↦ turn-lawful e w.word w.seats (seat_of e) (get_or w.seats (seat_of e) Spent)
      (at_get w.seats (seat_of e) Spent lt) h
  | inr ge ↦ subst IsLawful (step-past e w.word w.seats ge) h
]

-- each event keeps a lock a lock
step-lawful : (w : World) (e : Event) → IsLock w → IsLock (step_of w e)
step-lawful w e h =
    record {
      lawful = step_law w e h.lawful;
      few =
          subst (λ (n : ℕ). n ≤ 64)
          (sym (length-set w.seats (seat_of e) (turn e w.word (get_or w.seats (seat_of e) Spent)).1)) h.few;
    }

-- a sum over seats that are all away is 0, where each of them counts 0
away-none : (f : SeatState → ℕ) (n : ℕ) → f Away ≡ 0 → total f (replicate n Away) ≡ 0
away-none f zero z = refl
away-none f (suc n) z = omega (arith, away-none f n z)

-- a new world is a lock
pub new-lawful : (n : ℕ) → n ≤ 64 → IsLock (new_world n)
new-lawful n le =
    let w = away-none writes n refl in let r = away-none reads n refl in let t = away-none retreats n refl in
    record {
      lawful = record { word = omega arith; one_writer = omega arith; alone = λ p. r };
      few = subst (λ (k : ℕ). k ≤ 64) (sym (length-replicate n Away)) le;
    }

-- a number of seats that isn't bad is at most 64
pub few_enough : (n : ℕ) → ¬ IsBadCount n → n ≤ 64
few_enough n good = elim (cases_lt 64 n) as (λ d. n ≤ 64) [ inl more ↦ absurd (good (inr more)) | inr few ↦ few ]

-- one more event continues from where the events before it led
pub run-snoc : (w : World) (es : List Event) (e : Event) → run_from w (es ++ e ∷ []) ≡ step_of (run_from w es) e
run-snoc w [] e = refl
run-snoc w (x ∷ xs) e = run-snoc (step_of w x) xs e

-- a lock stays one under all events
pub run-lawful : (w : World) (es : List Event) → IsLock w → IsLock (run_from w es)
run-lawful w [] h = h
run-lawful w (e ∷ es) h = run-lawful (step_of w e) es (step-lawful w e h)
