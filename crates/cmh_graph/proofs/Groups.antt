-- The groups of deadlocked processes: rests, leaders and numbers.
use Rattle.std.proofs.Common.{◌≡◌, ℕ, zero, suc, ◌+◌, ◌<◌, ◌≤◌, ◌&&◌, Bool, true, false, not, cond, ◌⊎◌, inl, inr, eqb, leb, List, [], ◌∷◌, length, get_or, refl, sym, ◌∙◌, ap, subst, arith, eqb-true, eq-eqb}
use Rattle.std.specs.Prelude.{All, Contains, AllPairs, filter, count_by, ◌↔◌}
use Rattle.std.specs.List.{range_with_len}
use Rattle.std.specs.List.Sorted.{IsStrictlyIncreasing}
use Rattle.std.proofs.lemmas.Bool.{leb-true, le-leb, false_from_ne_true, and_parts}
use Rattle.std.proofs.lemmas.List.{get_or_default}
use Rattle.std.proofs.lemmas.List.Elements.{filter_agree, Contains-get_or}
use Rattle.std.proofs.lemmas.List.FromFn.{length-range_with_len, get_or-range_with_len}
use Rattle.std.proofs.lemmas.List.Sums.{count_by-le-length}
use Rattle.std.proofs.lemmas.List.Recursion.{is_count_by}
use Rattle.std.proofs.lemmas.List.Kept.{AllPairs-from_increasing, IsStrictlyIncreasing-filter}
use native.Mathlib.Decide.{dec_lt}
use Rattle.cmh_graph.specs.Core.{core_of, leader_of, leaders, group_number, IsLeader, rest_of}
use Rattle.cmh_graph.specs.Graph.{Graph, process_count, indices, IsWithinGraph}
use Rattle.cmh_graph.specs.Path.{Leads, Reaches, reaches, reach_of}
use Rattle.cmh_graph.specs.Verdict.{IsDeadlocked, is_deadlocked}
use Rattle.cmh_graph.proofs.Cores.{core_law}
use Rattle.cmh_graph.proofs.IndexLists.{filter_agree_on}
use Rattle.cmh_graph.proofs.PathLemmas.{cons_contains, contains_cons, contains_index, index_within, reaches_then, then_reaches}
use Rattle.cmh_graph.proofs.Verdicts.{asleep_is_idle, contains_filter, filter_contains, idle_within, reached_within, reaches_more, deadlocked_from_test, test_from_deadlocked}

-- ---- rests

-- what is false isn't true
never_both : (b : Bool) → not b ≡ true → b ≡ true → ⊥
never_both true e f = cc
never_both false e f = cc

-- the rest is what is reached and isn't in the core
pub rest_law : (g : Graph) (p q : ℕ) → IsWithinGraph g → p < process_count g
    → Contains (rest_of g p) q ↔ (Reaches g p q × (Contains (core_of g p) q → ⊥))
rest_law = λ g p q w i. (
  λ c. let kept = filter_contains (λ r. not (reaches g r p)) (reach_of g p) q c in
      let there = filter_contains (reaches g p) (indices g) q kept.0 in
      let j = index_within (process_count g) q there.0 in (
        reaches_then g p q there.1,
        λ d. never_both (reaches g q p) kept.1 (then_reaches g q p w j ((core_law g p q w i).0 d).1),
      ),
  λ both. let j = reached_within g w p q i both.0 in
      let listed =
      contains_filter (reaches g p) (indices g) q (contains_index (process_count g) q j)
      (then_reaches g p q w i both.0) in
      contains_filter (λ r. not (reaches g r p)) (reach_of g p) q listed
      (ap not (false_from_ne_true (reaches g q p)
      (λ e. both.1 ((core_law g p q w i).1 (both.0, reaches_then g q p e))))),
)

-- ---- rising lists

-- the places of all processes rise
pub indices_rise : (n : ℕ) → IsStrictlyIncreasing (range_with_len 0 n)
indices_rise n k l =
    let within : k + 1 < n = omega (arith, l, length-range_with_len 0 n) in
    omega (arith, get_or-range_with_len 0 n k 0 (omega (arith, within)), get_or-range_with_len 0 n (k + 1) 0 within)

-- what a process reaches stands by rising index
reach_rises : (g : Graph) (p : ℕ) → IsStrictlyIncreasing (reach_of g p)
reach_rises g p = IsStrictlyIncreasing-filter (reaches g p) (indices g) (indices_rise (process_count g))

-- the core of a process stands by rising index
core_rises : (g : Graph) (p : ℕ) → IsStrictlyIncreasing (core_of g p)
core_rises g p = IsStrictlyIncreasing-filter (λ q. reaches g q p) (reach_of g p) (reach_rises g p)

-- what a process reaches, its core and its rest stand by rising index
pub rising_law : (g : Graph) (p : ℕ) → IsStrictlyIncreasing (reach_of g p)
    × IsStrictlyIncreasing (core_of g p) × IsStrictlyIncreasing (rest_of g p)
rising_law =
    λ g p. (
      reach_rises g p,
      core_rises g p,
      IsStrictlyIncreasing-filter (λ q. not (reaches g q p)) (reach_of g p) (reach_rises g p),
    )

-- the first of rising numbers is the least
first_least : (xs : List ℕ) (q : ℕ) → AllPairs (λ x y. x < y) xs → Contains xs q → get_or xs 0 0 ≤ q
first_least xs q pairs (zero, l, e) = omega (arith, get_or_default xs 0 q 0 l)
first_least xs q pairs (suc k, l, e) =
    let less : get_or xs 0 q < get_or xs (suc k) q = pairs 0 (suc k) q (omega arith) l in
    omega (arith, get_or_default xs 0 q 0 (omega arith))

-- ---- leaders

-- what lies along a path from a reached process is reached
reaches_along : (g : Graph) (p q : ℕ) (rest : List ℕ) (r : ℕ) → Reaches g p q → Leads g q rest r → Reaches g p r
reaches_along g p q [] r a e = subst (λ z. Reaches g p z) e a
reaches_along g p q (s ∷ rest) r a l = reaches_along g p s rest r (reaches_more g p q s a l.0) l.1

-- what a reached process reaches is reached
pub reaches_on : (g : Graph) (p q r : ℕ) → Reaches g p q → Reaches g q r → Reaches g p r
reaches_on g p q r a ([], e) = absurd e
reaches_on g p q r a (x ∷ rest, (e, l)) = reaches_along g p q rest r a l

-- tests that imply each other are one
pub same_test : (a b : Bool) → (a ≡ true → b ≡ true) → (b ≡ true → a ≡ true) → a ≡ b
same_test true b f h = sym (f refl)
same_test false true f h = h refl
same_test false false f h = refl

-- a process is in its own core
pub in_own_core : (g : Graph) (p : ℕ) → IsWithinGraph g → p < process_count g → Contains (core_of g p) p
in_own_core g p w i =
    let self : Reaches g p p = (p ∷ [], (refl, refl)) in
    (core_law g p p w i).1 (self, self)

-- members of a core are processes of the graph
core_within : (g : Graph) (p q : ℕ) → Contains (core_of g p) q → q < process_count g
core_within g p q c =
    index_within (process_count g) q
    (filter_contains (reaches g p) (indices g) q (filter_contains (λ r. reaches g r p) (reach_of g p) q c).0).0

-- a list that is a core has processes of the graph
pub members_within : (g : Graph) (p size : ℕ) (xs : List ℕ) → xs ≡ core_of g p → size ≡ process_count g
    → All (λ q. q < size) xs
members_within g p size xs is full k d l =
    let there : Contains (core_of g p) (get_or xs k d) =
    subst (λ ys. Contains ys (get_or xs k d)) is (k, l, get_or_default xs k (get_or xs k d) d l) in
    omega (arith, core_within g p (get_or xs k d) there)

-- a core's members have one reach
same_reach : (g : Graph) (p q : ℕ) → IsWithinGraph g → p < process_count g → q < process_count g → Reaches g p q
    → Reaches g q p → (r : ℕ) → reaches g p r ≡ reaches g q r
same_reach g p q w i j a b r =
    same_test (reaches g p r) (reaches g q r)
    (λ e. then_reaches g q r w j (reaches_on g q p r b (reaches_then g p r e)))
    (λ e. then_reaches g p r w i (reaches_on g p q r a (reaches_then g q r e)))

-- what reaches one member of a core reaches the other
same_reached : (g : Graph) (p q : ℕ) → IsWithinGraph g → Reaches g p q → Reaches g q p → (r : ℕ) → r < process_count g
    → reaches g r p ≡ reaches g r q
same_reached g p q w a b r k =
    same_test (reaches g r p) (reaches g r q)
    (λ e. then_reaches g r q w k (reaches_on g r p q (reaches_then g r p e) a))
    (λ e. then_reaches g r p w k (reaches_on g r q p (reaches_then g r q e) b))

-- members of a core have the same core
pub same_core : (g : Graph) (p q : ℕ) → IsWithinGraph g → p < process_count g → Contains (core_of g p) q
    → core_of g p ≡ core_of g q
same_core g p q w i c =
    let both = (core_law g p q w i).0 c in
    let j = core_within g p q c in
    let reach : reach_of g p ≡ reach_of g q =
    filter_agree (reaches g p) (reaches g q) (same_reach g p q w i j both.0 both.1) (indices g) in
    filter_agree_on (λ r. reaches g r p) (λ r. reaches g r q) (reach_of g p)
    (λ r d. same_reached g p q w both.0 both.1 r
    (index_within (process_count g) r (filter_contains (reaches g p) (indices g) r d).0))
    ∙ ap (filter (λ r. reaches g r q)) reach

-- members of a core have the same leader
pub same_leader : (g : Graph) (p q : ℕ) → IsWithinGraph g → p < process_count g → Contains (core_of g p) q
    → leader_of g p ≡ leader_of g q
same_leader g p q w i c = ap (λ xs. get_or xs 0 0) (same_core g p q w i c)

-- the leader of a process is in its core
pub leader_in_core : (g : Graph) (p : ℕ) → IsWithinGraph g → p < process_count g
    → Contains (core_of g p) (leader_of g p)
leader_in_core g p w i =
    let own = in_own_core g p w i in
    let some : 0 < length (core_of g p) = omega (arith, own.1) in
    (zero, some, get_or_default (core_of g p) 0 (leader_of g p) 0 some)

-- no process in the core of a process is less than its leader
pub leader_least : (g : Graph) (p q : ℕ) → Contains (core_of g p) q → leader_of g p ≤ q
leader_least g p q c = first_least (core_of g p) q (AllPairs-from_increasing (core_of g p) (core_rises g p)) c

-- the leader that is computed is one in words
leader_is : (g : Graph) (p : ℕ) → IsWithinGraph g → p < process_count g → IsLeader g p (leader_of g p)
leader_is g p w i = record { member = leader_in_core g p w i; least = leader_least g p }

-- two leaders in words are one
one_leader : (g : Graph) (p l m : ℕ) → IsLeader g p l → IsLeader g p m → l ≡ m
one_leader g p l m a b = omega (arith, a.least m b.member, b.least l a.member)

-- the leader is the one that its words say
pub leader_law : (g : Graph) (p leader : ℕ) → IsWithinGraph g → p < process_count g
    → (leader_of g p ≡ leader) ↔ IsLeader g p leader
leader_law = λ g p l w i. (
  λ e. subst (λ z. IsLeader g p z) e (leader_is g p w i),
  λ h. one_leader g p (leader_of g p) l (leader_is g p w i) h,
)

-- ---- the list of leaders

-- what a deadlocked process reaches is deadlocked
pub reached_deadlocked : (g : Graph) (p q : ℕ) → IsDeadlocked g p → Reaches g p q → IsDeadlocked g q
reached_deadlocked g p q dead a = (asleep_is_idle g q (dead.1 q a), λ r b. dead.1 r (reaches_on g p q r a b))

-- whether a process is deadlocked and leads itself
abbrev pub leads_itself : Graph → ℕ → Bool
leads_itself g p = is_deadlocked g p && eqb (leader_of g p) p

-- the leader of a deadlocked process is listed
leader_listed : (g : Graph) → IsWithinGraph g → (p : ℕ) → IsDeadlocked g p → Contains (leaders g) (leader_of g p)
leader_listed g w p dead =
    let i = idle_within g p dead.0 in
    let member = leader_in_core g p w i in
    let l = leader_of g p in
    let there = reached_deadlocked g p l dead ((core_law g p l w i).0 member).0 in
    let own : leader_of g l ≡ l = sym (same_leader g p l w i member) in
    contains_filter (leads_itself g) (indices g) l (contains_index (process_count g) l (core_within g p l member))
    (rw (test_from_deadlocked g l there, eq-eqb (leader_of g l) l own) refl)

-- a listed process is deadlocked, and leads itself
listed_leads : (g : Graph) → IsWithinGraph g → (l : ℕ) → Contains (leaders g) l → IsDeadlocked g l × (leader_of g l ≡ l)
listed_leads g w l c =
    let kept = filter_contains (leads_itself g) (indices g) l c in
    let both = and_parts (is_deadlocked g l) (eqb (leader_of g l) l) kept.1 in
    (deadlocked_from_test g l w both.0, eqb-true (leader_of g l) l both.1)

-- the list of leaders rises
pub leaders_rise : (g : Graph) → IsStrictlyIncreasing (leaders g)
leaders_rise g = IsStrictlyIncreasing-filter (leads_itself g) (indices g) (indices_rise (process_count g))

-- each listed process leads a deadlocked one, and each that leads one is listed
pub leaders_lead : (g : Graph) (l : ℕ) → IsWithinGraph g
    → Contains (leaders g) l ↔ ((p : ℕ) × IsDeadlocked g p × IsLeader g p l)
leaders_lead g l w = (
  λ c. let own = listed_leads g w l c in
      (l, own.0, subst (λ z. IsLeader g l z) own.1 (leader_is g l w (idle_within g l own.0.0))),
  λ led. let i = idle_within g led.0 led.1.0 in
      subst (λ z. Contains (leaders g) z) ((leader_law g led.0 l w i).1 led.2) (leader_listed g w led.0 led.1),
)

-- ---- numbers

-- how many numbers of the list are up to n
up_to : List ℕ → ℕ → ℕ
up_to [] n = 0
up_to (x ∷ xs) n = cond (leb x n) (1 + up_to xs n) (up_to xs n)

-- the number of a group is how many leaders are up to its own
number_is : (g : Graph) (p : ℕ) → group_number g p ≡ up_to (leaders g) (leader_of g p)
unfolding up_to
number_is g p =
    sym (is_count_by (λ xs. up_to xs (leader_of g p)) (λ x. leb x (leader_of g p)) refl (λ x xs. refl) (leaders g))

-- processes with one leader have one group number
number_of_leader : (g : Graph) (p q : ℕ) → leader_of g p ≡ leader_of g q → group_number g p ≡ group_number g q
number_of_leader g p q e = ap (λ z. count_by (λ x. leb x z) (leaders g)) e

-- a number that fails the test of being up to n is above n
past : (x n : ℕ) → leb x n ≡ false → n < x
past x n e = elim (dec_lt n x) [
  | yes h ↦ h
  | no h ↦ let bad : true ≡ false = sym (le-leb x n (omega (arith, h))) ∙ e in absurd cc
]

-- where no more numbers are up to m than up to a greater n, one member more leaves it so, by cases
more_by : (x m n : ℕ) (a b : ℕ) (low high : Bool) → leb x m ≡ low → leb x n ≡ high → m ≤ n → a ≤ b
    → cond low (1 + a) a ≤ cond high (1 + b) b
more_by x m n a b true true e f l h = omega (arith, h)
more_by x m n a b true false e f l h = absurd (omega (arith, leb-true x m e, past x n f, l))
more_by x m n a b false true e f l h = omega (arith, h)
more_by x m n a b false false e f l h = h

-- up to a greater number there are at least as many numbers of a list
up_to_rises : (xs : List ℕ) (m n : ℕ) → m ≤ n → up_to xs m ≤ up_to xs n
unfolding up_to
up_to_rises [] m n l = omega arith
up_to_rises (x ∷ xs) m n l =
    more_by x m n (up_to xs m) (up_to xs n) (leb x m) (leb x n) refl refl l (up_to_rises xs m n l)

-- a head that is n counts up to n but not up to a lesser m, so there are more up to n, by cases
itself_by : (x m n : ℕ) (a b : ℕ) (low high : Bool) → leb x m ≡ low → leb x n ≡ high → x ≡ n → m < n → a ≤ b
    → cond low (1 + a) a < cond high (1 + b) b
itself_by x m n a b true high e f same l h = absurd (omega (arith, leb-true x m e, same, l))
itself_by x m n a b false true e f same l h = omega (arith, h)
itself_by x m n a b false false e f same l h = absurd (omega (arith, past x n f, same))

-- where more numbers are up to n than up to a lesser m, another member leaves it so, by cases
other_by : (x m n : ℕ) (a b : ℕ) (low high : Bool) → leb x m ≡ low → leb x n ≡ high → m < n → a < b
    → cond low (1 + a) a < cond high (1 + b) b
other_by x m n a b true true e f l h = omega (arith, h)
other_by x m n a b true false e f l h = absurd (omega (arith, leb-true x m e, past x n f, l))
other_by x m n a b false true e f l h = omega (arith, h)
other_by x m n a b false false e f l h = h

-- up to a member of a list there are more of its numbers than up to a lesser number
up_to_member : (xs : List ℕ) (m n : ℕ) → Contains xs n → m < n → up_to xs m < up_to xs n
unfolding up_to
up_to_member [] m n c l = absurd (omega (arith, c.1))
up_to_member (x ∷ xs) m n c l =
    elim (cons_contains x xs n c) [
      | inl same ↦ itself_by x m n (up_to xs m) (up_to xs n) (leb x m) (leb x n) refl refl same l
          (up_to_rises xs m n (omega (arith, l)))
      | inr d ↦ other_by x m n (up_to xs m) (up_to xs n) (leb x m) (leb x n) refl refl l (up_to_member xs m n d l)
    ]

-- where the head is n or one of the rest is up to n, at least one number is up to n, by cases
counted_by : (x n a : ℕ) (b : Bool) → leb x n ≡ b → (x ≡ n) ⊎ (1 ≤ a) → 1 ≤ cond b (1 + a) a
counted_by x n a true e h = omega arith
counted_by x n a false e (inl same) = absurd (omega (arith, past x n e, same))
counted_by x n a false e (inr l) = l

-- up to a member of a list there is at least one of its numbers
up_to_one : (xs : List ℕ) (n : ℕ) → Contains xs n → 1 ≤ up_to xs n
unfolding up_to
up_to_one [] n c = absurd (omega (arith, c.1))
up_to_one (x ∷ xs) n c =
    counted_by x n (up_to xs n) (leb x n) refl
    (elim (cons_contains x xs n c) [ inl same ↦ inl same | inr d ↦ inr (up_to_one xs n d) ])

-- where all numbers of a list are above n, none of them is up to n
up_to_none : (xs : List ℕ) (n : ℕ) → ((x : ℕ) → Contains xs x → n < x) → up_to xs n ≡ 0
unfolding up_to
up_to_none [] n h = refl
up_to_none (x ∷ xs) n h =
    none_by x n (up_to xs n) (leb x n) refl (h x (zero, omega arith, refl))
    (up_to_none xs n (λ y c. h y (contains_cons x xs y c)))
  where
    none_by : (x n a : ℕ) (b : Bool) → leb x n ≡ b → n < x → a ≡ 0 → cond b (1 + a) a ≡ 0
    none_by x n a true e l z = absurd (omega (arith, leb-true x n e, l))
    none_by x n a false e l z = z

-- a rising list without its first number rises
pub tail_rises : (x : ℕ) (xs : List ℕ) → AllPairs (λ a b. a < b) (x ∷ xs) → AllPairs (λ a b. a < b) xs
tail_rises x xs pairs i j d l k = pairs (suc i) (suc j) d (omega (arith, l)) (omega (arith, k))

-- the numbers of a rising list after the first are above it
pub head_below : (x : ℕ) (xs : List ℕ) → AllPairs (λ a b. a < b) (x ∷ xs) → (y : ℕ) → Contains xs y → x < y
head_below x xs pairs y c = let less =
    pairs 0 (suc c.0) y (omega arith) (omega (arith, c.1)) in omega (arith, less, c.2)

-- up to the member at place k of a rising list there are k + 1
up_to_place : (xs : List ℕ) (k : ℕ) → AllPairs (λ a b. a < b) xs → k < length xs → up_to xs (get_or xs k 0) ≡ suc k
unfolding up_to
up_to_place [] k pairs l = absurd (omega (arith, l))
up_to_place (x ∷ xs) zero pairs l =
    rw (le-leb x x (omega arith)) (ap (λ k. 1 + k) (up_to_none xs x (head_below x xs pairs)))
up_to_place (x ∷ xs) (suc k) pairs l =
    let within : k < length xs = omega (arith, l) in
    let less = head_below x xs pairs (get_or xs k 0) (Contains-get_or xs k 0 within) in
    rw (le-leb x (get_or xs k 0) (omega (arith, less))) (omega (arith, up_to_place xs k (tail_rises x xs pairs) within))

-- ---- the law

-- a number is less than another, equal to it or greater
compared : (m n : ℕ) → (m < n) ⊎ ((m ≡ n) ⊎ (n < m))
compared m n =
    elim (dec_lt m n) [
      | yes a ↦ inl a
      | no a ↦ elim (dec_lt n m) [ yes b ↦ inr (inr b) | no b ↦ inr (inl (omega (arith, a, b))) ]
    ]

-- a lesser leader has a lesser number
numbers_rise : (g : Graph) → IsWithinGraph g → (p q : ℕ) → IsDeadlocked g q → leader_of g p < leader_of g q
    → group_number g p < group_number g q
numbers_rise g w p q dead l =
    omega (
      arith,
      number_is g p,
      number_is g q,
      up_to_member (leaders g) (leader_of g p) (leader_of g q) (leader_listed g w q dead) l,
    )

-- processes of one number have one leader
one_number : (g : Graph) → IsWithinGraph g → (p q : ℕ) → IsDeadlocked g p → IsDeadlocked g q
    → group_number g p ≡ group_number g q → leader_of g p ≡ leader_of g q
one_number g w p q a b e =
    elim (compared (leader_of g p) (leader_of g q)) [
      | inl l ↦ absurd (omega (arith, numbers_rise g w p q b l, e))
      | inr (inl same) ↦ same
      | inr (inr l) ↦ absurd (omega (arith, numbers_rise g w q p a l, e))
    ]

-- processes of one leader are of one core
led_alike : (g : Graph) → IsWithinGraph g → (p q : ℕ) → p < process_count g → q < process_count g
    → leader_of g p ≡ leader_of g q → Contains (core_of g p) q
led_alike g w p q i j e =
    let l = leader_of g p in
    let mine = (core_law g p l w i).0 (leader_in_core g p w i) in
    let its = (core_law g q l w j).0 (subst (λ z. Contains (core_of g q) z) (sym e) (leader_in_core g q w j)) in
    (core_law g p q w i).1 (reaches_on g p l q mine.0 its.1, reaches_on g q l p its.0 mine.1)

-- a lesser number is that of a lesser leader
leaders_by_number : (g : Graph) → IsWithinGraph g → (p q : ℕ) → IsDeadlocked g p → IsDeadlocked g q
    → group_number g p < group_number g q → leader_of g p < leader_of g q
leaders_by_number g w p q a b l =
    elim (compared (leader_of g p) (leader_of g q)) [
      | inl less ↦ less
      | inr (inl same) ↦ absurd (omega (arith, number_of_leader g p q same, l))
      | inr (inr more) ↦ absurd (omega (arith, numbers_rise g w q p a more, l))
    ]

-- the number of leaders at place k is k + 1
number_at_place : (g : Graph) → IsWithinGraph g → (k : ℕ) → k < length (leaders g)
    → (p : ℕ) × IsDeadlocked g p × (group_number g p ≡ suc k)
number_at_place g w k l =
    let leader = get_or (leaders g) k 0 in
    let own = listed_leads g w leader (Contains-get_or (leaders g) k 0 l) in (
      leader,
      own.0,
      number_is g leader ∙ ap (up_to (leaders g)) own.1
          ∙ up_to_place (leaders g) k (AllPairs-from_increasing (leaders g) (leaders_rise g)) l,
    )

-- the number of a group is at least 1
pub number_from_one : (g : Graph) (p : ℕ) → IsWithinGraph g → IsDeadlocked g p → 1 ≤ group_number g p
number_from_one g p w dead =
    omega (arith, number_is g p, up_to_one (leaders g) (leader_of g p) (leader_listed g w p dead))

-- the number of a group is at most the number of leaders
pub number_to_last : (g : Graph) (p : ℕ) → group_number g p ≤ length (leaders g)
number_to_last g p = count_by-le-length (λ q. leb q (leader_of g p)) (leaders g)

-- each number from 1 to the number of leaders is that of some group
pub number_of_some : (g : Graph) (n : ℕ) → IsWithinGraph g → 1 ≤ n → n ≤ length (leaders g)
    → (p : ℕ) × IsDeadlocked g p × (group_number g p ≡ n)
number_of_some g zero w l m = absurd (omega (arith, l))
number_of_some g (suc k) w l m = number_at_place g w k (omega (arith, m))

-- two deadlocked processes have the same number just where they are of one core
pub numbers_by_core : (g : Graph) (p q : ℕ) → IsWithinGraph g → IsDeadlocked g p → IsDeadlocked g q
    → (group_number g p ≡ group_number g q) ↔ Contains (core_of g p) q
numbers_by_core g p q w a b = (
  λ e. led_alike g w p q (idle_within g p a.0) (idle_within g q b.0) (one_number g w p q a b e),
  λ c. number_of_leader g p q (same_leader g p q w (idle_within g p a.0) c),
)

-- the numbers of two deadlocked processes stand as their leaders do
pub numbers_by_leader : (g : Graph) (p q : ℕ) → IsWithinGraph g → IsDeadlocked g p → IsDeadlocked g q
    → (group_number g p < group_number g q) ↔ (leader_of g p < leader_of g q)
numbers_by_leader g p q w a b = (λ l. leaders_by_number g w p q a b l, λ l. numbers_rise g w p q b l)
