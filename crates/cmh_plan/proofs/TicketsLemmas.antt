-- Each step of the tickets keeps their rule.
use Rattle.std.proofs.Common.{◌≡◌, ℕ, zero, suc, ◌+◌, ◌-◌, ◌%◌, ◌^◌, ◌<◌, ◌≤◌, Bool, true, false, cond, ltb, ◌||◌, List, [], ◌∷◌, length, get_or, set, sym, refl, ap, ◌∙◌, subst, arith, length-set, get_or-set_same, ⊎_elim}
use Rattle.std.proofs.lemmas.Bool.{cond_both, ltb-true, ltb-false, or_cases, false≢true}
use native.Mathlib.Numerals.{unary_clauses}
use mathlib.Core.Option.{some, some-injective, some-ne-none}
use lib.ListN.{get_elem?}
use Rattle.std.proofs.lemmas.List.{set-get_or}
use Rattle.atomic_table.specs.Table.{State, Me, keeps, stepped, Allows, Splits, Joins, opening}
use Rattle.atomic_table.proofs.Lists.{at_set, at_snoc, set_again}
use Rattle.cmh_plan.specs.declared.TheConstants.{MAX_WORKERS}
use Rattle.cmh_plan.specs.declared.ticket_rule.TicketView.{TicketView}
use Rattle.cmh_rw.specs.Machine.{total}
use Rattle.cmh_rw.proofs.Lawful.{total-set, total-in, total-append, total-snoc}
use Rattle.cmh_plan.specs.Tickets.{sum_below, done_share, ticket_opening_view, ticket_less_one, ticket_newcomer, joined_views, with_drawn, IsTicketSeat, Dealt, KnowsAll}

-- a state of the table
abbrev St : Type 0
St = State (Unit {0}) TicketView

-- a seat, at the table
abbrev Sat : Type 0
Sat = Me (Unit {0}) TicketView

-- what is set at a place of a list stands there
set_at : {A : Type 0} (l : List A) (i : ℕ) (a b : A) → get_elem? l i ≡ some a → get_elem? (set l i b) i ≡ some b
set_at [] i a b e = absurd (some-ne-none a (sym e))
set_at (x ∷ xs) zero a b e = refl
set_at (x ∷ xs) (suc i) a b e = set_at xs i a b e

-- with a bound one greater the sum is greater by the weight of the old bound
sum-step : (h : ℕ → ℕ) (n : ℕ) → sum_below h (n + 1) ≡ sum_below h n + h n
sum-step h n = simp unary_clauses refl

-- the length of a list is its total, where each number weighs 1
total-ones : (l : List ℕ) → total (λ _. 1) l ≡ length l
total-ones [] = refl
total-ones (x ∷ xs) = omega (arith, total-ones xs)

-- the sum below a bound is the bound, where each number weighs 1
sum-ones : (n : ℕ) → sum_below (λ _. 1) n ≡ n
sum-ones zero = refl
sum-ones (suc n) = omega (arith, sum-ones n)

-- a share, if it counts, is no more than the share
counted-le : (b : Bool) (n : ℕ) → cond b n 0 ≤ n
counted-le true n = omega arith
counted-le false n = omega arith

-- the shares of the seats that found no chunk left are no more than all shares
done-le : (views : List TicketView) → total done_share views ≤ total (λ (v : TicketView). v.share) views
done-le [] = omega arith
done-le (v ∷ vs) = omega (arith, done-le vs, counted-le v.done v.share)

-- the word of the tickets is far from the end of its range
small-word : (key : ℕ) (s : St) → Dealt key s → get_or s.words 0 0 < 4294967361
small-word key s h = let d = done-le s.views in let a = h.over in let b = h.small in let c = h.shares in omega arith

-- what is true of a seat stays true when the word grows
holds_of_larger_word : (key x y : ℕ) (v : TicketView) → x ≤ y → IsTicketSeat key x v → IsTicketSeat key y v
holds_of_larger_word key x y v le h =
    record { bare = h.bare; knows = h.knows; past = λ d. let p = h.past d in omega arith }

-- where no seat has a share, none has drawn a number
none_drawn : (key x : ℕ) (views : List TicketView) (f : ℕ → ℕ)
    → ((i : ℕ) (v : TicketView) → get_elem? views i ≡ some v → IsTicketSeat key x v)
    → total (λ (v : TicketView). v.share) views ≡ 0
    → total (λ v. total f v.drawn) views ≡ 0
none_drawn key x [] f each z = refl
none_drawn key x (v ∷ vs) f each z = let r = none_drawn key x vs f (λ i w e. each (suc i) w e) (omega arith) in let a =
    ap (total f) ((each zero v refl).bare (omega arith)) in omega arith

-- with the whole share, what one seat has drawn is all that was drawn
drawn_of_one : (key x : ℕ) (views : List TicketView) (id : ℕ) (v : TicketView) (f : ℕ → ℕ)
    → ((i : ℕ) (u : TicketView) → get_elem? views i ≡ some u → IsTicketSeat key x u) → get_elem? views id ≡ some v
    → total (λ (v : TicketView). v.share) views ≤ v.share
    → total (λ u. total f u.drawn) views ≡ total f v.drawn
drawn_of_one key x [] id v f each at most = absurd (some-ne-none v (sym at))
drawn_of_one key x (y ∷ ys) zero v f each at most = let is = some-injective y v at in let share =
    ap (λ (v : TicketView). v.share) is in let mine = ap (λ (u : TicketView). total f u.drawn) is in
    let r = none_drawn key x ys f (λ i w e. each (suc i) w e) (omega arith) in omega arith
drawn_of_one key x (y ∷ ys) (suc id) v f each at most =
    let in_there = total-in (λ (v : TicketView). v.share) ys id v at in
    let r = drawn_of_one key x ys id v f (λ i w e. each (suc i) w e) at (omega arith) in let a =
    ap (total f) ((each zero y refl).bare (omega arith)) in omega arith

-- with the whole share, and once it got no number, a seat drew all
knows_all : (key : ℕ) (s : St) (id : ℕ) (v : TicketView) → Dealt key s → get_elem? s.views id ≡ some v → KnowsAll v
knows_all key s id v h at done whole f = let has = h.each id v at in let few = h.shares in let is =
    has.knows (omega arith) in let past = has.past done in let r = h.at_end past in
    sym (drawn_of_one key (get_or s.words 0 0) s.views id v f h.each at (omega arith)) ∙ h.numbers f
    ∙ ap (sum_below f) (r ∙ sym is)

-- the word is at least the number of numbers that a seat has drawn
few_drawn : (key : ℕ) (s : St) (id : ℕ) (v : TicketView) → Dealt key s → get_elem? s.views id ≡ some v
    → length v.drawn ≤ get_or s.words 0 0
few_drawn key s id v h at = let a = total-in (λ (u : TicketView). total (λ _. 1) u.drawn) s.views id v at in let b =
    h.numbers (λ _. 1) in let c = h.within in omega (arith, total-ones v.drawn, sum-ones h.reached)

-- a draw below the end keeps the rule
drawn_kept : (key : ℕ) (s : St) (id : ℕ) (me : Sat) → Dealt key s → get_elem? s.views id ≡ some me.0 → me.0.chunks ≡ key
    → me.0.done ≡ false → 0 < me.0.share → get_or s.words 0 0 < key
    → Dealt key
    (stepped s 0 ((get_or s.words 0 0 + 1) % 18446744073709551616) id me.1
    (with_drawn me.0 (get_or s.words 0 0)) keeps)
drawn_kept key s id me h at mine fresh some_share low = let x = get_or s.words 0 0 in let w =
    with_drawn me.0 x in let small = small-word key s h in let n = (x + 1) % 18446744073709551616 in
    let wide = h.wide in
    let word : get_or (set s.words 0 n) 0 0 ≡ x + 1 = get_or-set_same s.words 0 n 0 (omega arith) ∙ omega arith in
    let r = h.before_end (omega arith) in let a = h.small in let b = h.shares in let c = h.over in
    let sum = total-set (λ (v : TicketView). v.share) s.views id me.0 w at in let over =
    total-set done_share s.views id me.0 w at in record {
      reached = h.reached + 1;
      wide = length-set s.words 0 n ∙ h.wide;
      within = (omega arith, omega arith);
      before_end = λ le. omega arith;
      at_end = λ le. omega arith;
      small = h.small;
      shares = omega arith;
      over = omega arith;
      each = λ i u g. ⊎_elim
          (λ t. subst (IsTicketSeat key (get_or (set s.words 0 n) 0 0)) t.1 record
          { bare = λ z. absurd (omega arith); knows = λ _. mine; past = λ d. absurd (false≢true (sym fresh ∙ d)) })
          (λ t. holds_of_larger_word key x (get_or (set s.words 0 n) 0 0) u (omega arith) (h.each i u t.1))
          (at_set s.views id i w u g);
      numbers = λ f. let t = total-set (λ (u : TicketView). total f u.drawn) s.views id me.0 w at in let l =
          total-snoc f me.0.drawn x in let k = h.numbers f in let e = ap f r in
          omega (arith, sum-step f h.reached);
    }

-- a draw past the end keeps the rule
done_kept : (key : ℕ) (s : St) (id : ℕ) (me : Sat) → Dealt key s → get_elem? s.views id ≡ some me.0 → me.0.chunks ≡ key
    → me.0.done ≡ false → 0 < me.0.share → key ≤ get_or s.words 0 0
    → Dealt key
    (stepped s 0 ((get_or s.words 0 0 + 1) % 18446744073709551616) id me.1 (record me.0 { done = true }) keeps)
done_kept key s id me h at mine fresh some_share high = let x = get_or s.words 0 0 in let w : TicketView =
    record me.0 { done = true } in let small = small-word key s h in let n = (x + 1) % 18446744073709551616 in
    let wide = h.wide in
    let word : get_or (set s.words 0 n) 0 0 ≡ x + 1 = get_or-set_same s.words 0 n 0 (omega arith) ∙ omega arith in
    let r = h.at_end high in let a = h.small in let b = h.shares in let c = h.over in
    let sum = total-set (λ (v : TicketView). v.share) s.views id me.0 w at in
    let over = total-set done_share s.views id me.0 w at in
    let was : done_share me.0 ≡ 0 = ap (λ d. cond d me.0.share 0) fresh in record {
      reached = h.reached;
      wide = length-set s.words 0 n ∙ h.wide;
      within = (omega arith, omega arith);
      before_end = λ le. omega arith;
      at_end = λ le. omega arith;
      small = h.small;
      shares = omega arith;
      over = omega arith;
      each = λ i u g. ⊎_elim
          (λ t. subst (IsTicketSeat key (get_or (set s.words 0 n) 0 0)) t.1 record
          { bare = λ z. absurd (omega arith); knows = λ _. mine; past = λ d. omega arith })
          (λ t. holds_of_larger_word key x (get_or (set s.words 0 n) 0 0) u (omega arith) (h.each i u t.1))
          (at_set s.views id i w u g);
      numbers = λ f. let t = total-set (λ (u : TicketView). total f u.drawn) s.views id me.0 w at in let k =
          h.numbers f in omega arith;
    }

-- a draw keeps the rule, and the seat has drawn the number that it found, or knows that none is left
pub draws : (key slots id : ℕ) (me : Sat) → me.0.chunks ≡ key → me.0.done ≡ false → 0 < me.0.share
    → Allows (Dealt key) slots id me 0 (λ n. (n + 1) % 2 ^ 64) (λ n m.
    (m ≡ (cond (ltb n me.0.chunks) (with_drawn me.0 n) (record me.0 { done = true }), me.1))
    × (length me.0.drawn ≤ n) × KnowsAll m.0)
draws key slots id me mine fresh some_share s h _ at _ =
    let x = get_or s.words 0 0 in
    let n = (x + 1) % 18446744073709551616 in
    let few = few_drawn key s id me.0 h at in
    let P : TicketView → Type 0 = λ w. Dealt key (stepped s 0 n id me.1 w keeps) in
    let done : TicketView = record me.0 { done = true } in
    let w : TicketView = cond (ltb x me.0.chunks) (with_drawn me.0 x) done in
    let kept : P w = cond_both (ltb x me.0.chunks) (with_drawn me.0 x) done P
    (λ low. let lt = ltb-true x me.0.chunks low in drawn_kept key s id me h at mine fresh some_share (omega arith))
    (λ high. let ge = ltb-false x me.0.chunks high in
    done_kept key s id me h at mine fresh some_share (omega arith)) in (
      w,
      keeps,
      tt,
      kept,
      (
        refl,
        few,
        knows_all key (stepped s 0 n id me.1 w keeps) id w kept (set_at s.views id me.0 w at),
      ),
    )

-- a load keeps the rule, and changes no view
pub measures : (key slots id : ℕ) (me : Sat)
    → Allows (Dealt key) slots id me 0 (λ n. n) (λ _ m. (m ≡ me) × (me.0.share ≤ MAX_WORKERS) × KnowsAll me.0)
measures key slots id me s h _ at _ = let few = h.shares in
    let mine = total-in (λ (v : TicketView). v.share) s.views id me.0 at in (
      me.0,
      keeps,
      tt,
      subst (Dealt key)
          (λ k. record
          { words = sym (set-get_or s.words 0 0) k; homes = s.homes; views = sym (set_again s.views id me.0 at) k }) h,
      (refl, omega arith, knows_all key s id me.0 h at),
    )

-- a share that is split counts the same
split_done : (b : Bool) (n : ℕ) → 1 < n → cond b (n - 1) 0 + cond b 1 0 ≡ cond b n 0
split_done true n more = omega arith
split_done false n more = omega arith

-- a split keeps the rule
pub splits : (key : ℕ) (id : ℕ) (v : TicketView) → 1 < v.share
    → Splits (Dealt key) id v (ticket_less_one v) (ticket_newcomer v)
splits key id v more s h at = let x = get_or s.words 0 0 in let has = h.each id v at in
    let sum = total-set (λ (v : TicketView). v.share) s.views id v (ticket_less_one v) at in let all =
    total-snoc (λ (v : TicketView). v.share) (set s.views id (ticket_less_one v)) (ticket_newcomer v) in
    let few = h.shares in let over = total-set done_share s.views id v (ticket_less_one v) at in let over' =
    total-snoc done_share (set s.views id (ticket_less_one v)) (ticket_newcomer v) in let c = h.over in let d =
    split_done v.done v.share more in record {
      reached = h.reached;
      wide = h.wide;
      within = h.within;
      before_end = h.before_end;
      at_end = h.at_end;
      small = h.small;
      shares = omega arith;
      over = omega arith;
      each = λ i u g. ⊎_elim
          (λ old. ⊎_elim
          (λ t. subst (IsTicketSeat key x) t.1 record
          { bare = λ z. absurd (omega arith); knows = λ _. has.knows (omega arith); past = has.past })
          (λ t. h.each i u t.1) (at_set s.views id i (ticket_less_one v) u old))
          (λ new. subst (IsTicketSeat key x) new record
          { bare = λ z. refl; knows = λ _. has.knows (omega arith); past = has.past })
          (at_snoc (set s.views id (ticket_less_one v)) (ticket_newcomer v) u i g);
      numbers = λ f. let t = total-set (λ (u : TicketView). total f u.drawn) s.views id v (ticket_less_one v) at in
          let t' =
          total-snoc (λ (u : TicketView). total f u.drawn) (set s.views id (ticket_less_one v)) (ticket_newcomer v) in
          let k = h.numbers f in omega arith;
    }

-- two shares that are joined count at least the same
join_done : (a b : Bool) (m n : ℕ) → cond a m 0 + cond b n 0 ≤ cond (a || b) (m + n) 0
join_done true true m n = omega arith
join_done true false m n = omega arith
join_done false true m n = omega arith
join_done false false m n = omega arith

-- a join keeps the rule
pub joins : (key : ℕ) (id : ℕ) (v : TicketView) (other : ℕ) (w : TicketView) → 0 < v.share
    → Joins (Dealt key) id v other w (joined_views v w) (record { chunks = 0; share = 0; drawn = []; done = false })
joins key id v other w some_share s h at apart there = let x = get_or s.words 0 0 in let both =
    joined_views v w in let spent : TicketView = record { chunks = 0; share = 0; drawn = []; done = false } in
    let mid = set s.views id both in let has = h.each id v at in
    let was : IsTicketSeat key x w =
    ⊎_elim (λ t. absurd (apart t.0)) (λ t. h.each other w t.1) (at_set s.views id other both w there) in
    let sum = total-set (λ (v : TicketView). v.share) s.views id v both at in let all =
    total-set (λ (v : TicketView). v.share) mid other w spent there in let few = h.shares in
    let over = total-set done_share s.views id v both at in let over' =
    total-set done_share mid other w spent there in
    let c = h.over in let d = join_done v.done w.done v.share w.share in record {
      reached = h.reached;
      wide = h.wide;
      within = h.within;
      before_end = h.before_end;
      at_end = h.at_end;
      small = h.small;
      shares = omega arith;
      over = omega arith;
      each = λ i u g. ⊎_elim
          (λ t. subst (IsTicketSeat key x) t.1 record
          { bare = λ z. refl; knows = λ some. absurd (omega arith); past = λ d. absurd (false≢true d) })
          (λ t. ⊎_elim
          (λ t'. subst (IsTicketSeat key x) t'.1 record {
            bare = λ z. absurd (omega arith);
            knows = λ _. has.knows (omega arith);
            past = λ e. ⊎_elim has.past was.past (or_cases v.done w.done e);
          })
          (λ t'. h.each i u t'.1)
          (at_set s.views id i both u t.1))
          (at_set mid other i spent u g);
      numbers = λ f. let t = total-set (λ (u : TicketView). total f u.drawn) s.views id v both at in let t' =
          total-set (λ (u : TicketView). total f u.drawn) mid other w spent there in
          let k = h.numbers f in let l = total-append f v.drawn w.drawn in omega arith;
    }

-- the opening state of the tickets meets the rule
pub opens : (key : ℕ) → key < 2 ^ 32 → Dealt key (opening (0 ∷ []) [] (ticket_opening_view key))
opens key small = record {
  reached = 0;
  wide = refl;
  within = (omega arith, omega arith);
  before_end = λ le. refl;
  at_end = λ le. omega arith;
  small = small;
  shares = omega arith;
  over = omega arith;
  each = λ i u g. one i u g;
  numbers = λ f. refl;
}
  where
    one : (i : ℕ) (u : TicketView) → get_elem? (ticket_opening_view key ∷ []) i ≡ some u → IsTicketSeat key 0 u
    one zero u g =
        subst (IsTicketSeat key 0) (some-injective (ticket_opening_view key) u g) record
        { bare = λ z. refl; knows = λ _. refl; past = λ d. absurd (false≢true d) }
    one (suc i) u g = absurd (some-ne-none u (sym g))
