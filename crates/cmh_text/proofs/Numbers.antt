-- The numbers of groups, and the processes that belong to each.
use Rattle.std.proofs.Common.{◌≡◌, ℕ, zero, suc, ◌+◌, ◌-◌, ◌<◌, ◌≤◌, ◌&&◌, Bool, true, false, not, cond, eqb, leb, List, [], ◌∷◌, get_or, length, map, refl, sym, ◌∙◌, ap, subst, arith, add-one, eqb-true, eq-eqb, length-append}
use Rattle.std.specs.Prelude.{Contains, Option, Some, None, filter, count_by}
use Rattle.std.specs.List.{range_with_len}
use Rattle.std.specs.Option.{option_eq}
use Rattle.std.proofs.lemmas.Bool.{leb-true, le-leb, and_parts}
use Rattle.std.proofs.lemmas.List.Sums.{count_by-le-length, length-filter, sum_by-append}
use Rattle.std.proofs.lemmas.List.FromFn.{length-range_with_len}
use Rattle.cmh_graph.specs.Graph.{Graph, process_count, indices, IsWithinGraph}
use Rattle.cmh_graph.specs.Path.{reaches, reach_of}
use Rattle.cmh_graph.specs.Verdict.{is_deadlocked}
use Rattle.cmh_graph.specs.Core.{core_of, rest_of, leader_of, leaders, group_number, group_leader}
use Rattle.cmh_graph.proofs.Cores.{core_law}
use Rattle.cmh_graph.proofs.Groups.{leader_in_core, leads_itself, reached_deadlocked, same_leader, same_test}
use Rattle.cmh_graph.proofs.IndexLists.{by_index, filter_agree_on, filter_indices_kept, filter_indices_passed}
use Rattle.cmh_graph.proofs.PathLemmas.{index_within, reaches_then, then_reaches}
use Rattle.cmh_graph.proofs.Verdicts.{filter_contains, deadlocked_from_test, test_from_deadlocked}
use Rattle.cmh_text.specs.Group.{is_led_by, leaders_up_to}

-- the leaders among the first n processes
abbrev pub leaders_below : Graph → ℕ → List ℕ
leaders_below g n = filter (leads_itself g) (range_with_len 0 n)

-- ---- how many leaders there are up to a place

-- one place more adds 1 to how many places up to p are kept, where it is kept and is up to p
kept_more : (t : ℕ → Bool) (p n : ℕ) (b : Bool) → t n ≡ b
    → count_by (λ q. leb q p) (filter t (range_with_len 0 (n + 1)))
    ≡ count_by (λ q. leb q p) (filter t (range_with_len 0 n)) + cond b (cond (leb n p) 1 0) 0
kept_more t p n true e =
    ap (count_by (λ q. leb q p)) (filter_indices_kept t n e)
    ∙ omega (arith, sum_by-append (λ q. cond {A = ℕ} (leb q p) 1 0) (filter t (range_with_len 0 n)) (n ∷ []))
kept_more t p n false e = ap (count_by (λ q. leb q p)) (filter_indices_passed t n e) ∙ omega arith

-- one place more adds 1 to how many places are kept, where it is kept
length_more : (t : ℕ → Bool) (n : ℕ) (b : Bool) → t n ≡ b
    → length (filter t (range_with_len 0 (n + 1))) ≡ length (filter t (range_with_len 0 n)) + cond b 1 0
length_more t n true e = ap length (filter_indices_kept t n e) ∙ length-append (filter t (range_with_len 0 n)) (n ∷ [])
length_more t n false e = ap length (filter_indices_passed t n e) ∙ omega arith

-- all that are kept below p + 1 are up to p
low : (t : ℕ → Bool) (p n : ℕ) → n ≤ p + 1
    → count_by (λ q. leb q p) (filter t (range_with_len 0 n)) ≡ length (filter t (range_with_len 0 n))
low t p zero l = refl
low t p (suc n) l =
    let here : leb n p ≡ true = le-leb n p (omega arith) in
    subst (λ m. count_by (λ q. leb q p) (filter t (range_with_len 0 m)) ≡ length (filter t (range_with_len 0 m)))
    (add-one n)
    (kept_more t p n (t n) refl
    ∙ ap (λ b. count_by (λ q. leb q p) (filter t (range_with_len 0 n)) + cond (t n) (cond b 1 0) 0) here
    ∙ ap (λ k. k + cond (t n) 1 0) (low t p n (omega arith))
    ∙ sym (length_more t n (t n) refl))

-- what is greater than p is not up to p
above : (n p : ℕ) → p < n → (b : Bool) → leb n p ≡ b → b ≡ false
above n p l true e = let z : n ≤ p = leb-true n p e in absurd (omega arith)
above n p l false e = refl

-- of the places from p + 1 on, none that is kept is up to p
high : (t : ℕ → Bool) (p m : ℕ)
    → count_by (λ q. leb q p) (filter t (range_with_len 0 ((p + 1) + m))) ≡ length (filter t (range_with_len 0 (p + 1)))
high t p zero =
    let same : p + 1 ≡ (p + 1) + 0 = omega arith in
    subst (λ m. count_by (λ q. leb q p) (filter t (range_with_len 0 m)) ≡ length (filter t (range_with_len 0 (p + 1))))
    same (low t p (p + 1) (omega arith))
high t p (suc m) =
    let same : ((p + 1) + m) + 1 ≡ (p + 1) + suc m = omega arith in
    subst (λ k. count_by (λ q. leb q p) (filter t (range_with_len 0 k)) ≡ length (filter t (range_with_len 0 (p + 1))))
    same
    (kept_more t p ((p + 1) + m) (t ((p + 1) + m)) refl
    ∙ nothing_more _ (t ((p + 1) + m)) (leb ((p + 1) + m) p)
    (above ((p + 1) + m) p (omega arith) (leb ((p + 1) + m) p) refl)
    ∙ high t p m)
  where
    nothing_more : (k : ℕ) (b d : Bool) → d ≡ false → k + cond b (cond d 1 0) 0 ≡ k
    nothing_more k true d e = ap (λ c. k + cond {A = ℕ} c 1 0) e ∙ omega arith
    nothing_more k false d e = omega arith

-- up to a process there are as many leaders as among the processes up to it
pub up_to_is : (g : Graph) (p : ℕ) → p < process_count g → leaders_up_to g p ≡ length (leaders_below g (p + 1))
unfolding leaders_up_to
up_to_is g p l =
    let all : (p + 1) + (process_count g - (p + 1)) ≡ process_count g = omega arith in
    subst (λ n. count_by (λ q. leb q p) (filter (leads_itself g) (range_with_len 0 n))
    ≡ length (leaders_below g (p + 1))) all
    (high (leads_itself g) p (process_count g - (p + 1)))

-- the group's number is that of its leader
pub number_is : (g : Graph) (p : ℕ) → leaders_up_to g (leader_of g p) ≡ group_number g p
unfolding leaders_up_to
number_is g p = refl

-- the first n processes have at most n leaders
pub leaders_few : (g : Graph) (n : ℕ) → length (leaders_below g n) ≤ n
leaders_few g n =
    omega (
      arith,
      length-filter (leads_itself g) (range_with_len 0 n),
      count_by-le-length (leads_itself g) (range_with_len 0 n),
      length-range_with_len 0 n,
    )

-- ---- the table of leaders

-- by whether a process is deadlocked, the test whether l leads it is whether it is and its leader is l
led_by : (dead : Bool) (leader l : ℕ)
    → option_eq eqb (cond {A = Option ℕ} dead (Some leader) None) (Some l) ≡ (dead && eqb leader l)
led_by true leader l = refl
led_by false leader l = refl

-- the table says which leader each process has
pub led_test : (g : Graph) (list : List (Option ℕ)) (l p : ℕ) → list ≡ map (group_leader g) (indices g)
    → p < process_count g → is_led_by list l p ≡ (is_deadlocked g p && eqb (leader_of g p) l)
unfolding group_leader
led_test g list l p are i = ap (λ o. option_eq eqb o (Some l)) (by_index g (group_leader g) list p None are i)
    ∙ led_by (is_deadlocked g p) (leader_of g p) l

-- a leader is a process of the graph
pub leader_within : (g : Graph) (l : ℕ) → Contains (leaders g) l → l < process_count g
leader_within g l c = index_within (process_count g) l (filter_contains (leads_itself g) (indices g) l c).0

-- a leader leads itself
pub leader_leads : (g : Graph) (list : List (Option ℕ)) (l : ℕ) → list ≡ map (group_leader g) (indices g)
    → Contains (leaders g) l → is_led_by list l l ≡ true
leader_leads g list l are c =
    led_test g list l l are (leader_within g l c) ∙ (filter_contains (leads_itself g) (indices g) l c).1

-- the number at a leader's place is that of its group
pub number_at : (g : Graph) (numbers : List ℕ) (l d : ℕ) → numbers ≡ map (leaders_up_to g) (indices g)
    → Contains (leaders g) l → get_or numbers l d ≡ group_number g l
number_at g numbers l d are c =
    let itself = and_parts (is_deadlocked g l) (eqb (leader_of g l) l)
    (filter_contains (leads_itself g) (indices g) l c).1 in
    by_index g (leaders_up_to g) numbers l d are (leader_within g l c)
    ∙ ap (leaders_up_to g) (sym (eqb-true (leader_of g l) l itself.1))
    ∙ number_is g l

-- ---- core and rest by the table of leaders

-- of those that a leader reaches, it leads those that reach it
leads_back : (g : Graph) (list : List (Option ℕ)) (l q : ℕ) → IsWithinGraph g → l < process_count g
    → list ≡ map (group_leader g) (indices g) → is_led_by list l l ≡ true → Contains (reach_of g l) q
    → is_led_by list l q ≡ reaches g q l
leads_back g list l q w i are leads c =
    let itself = and_parts (is_deadlocked g l) (eqb (leader_of g l) l) (sym (led_test g list l l are i) ∙ leads) in
    let own = eqb-true (leader_of g l) l itself.1 in
    let kept = filter_contains (reaches g l) (indices g) q c in
    let j = index_within (process_count g) q kept.0 in
    let there = reaches_then g l q kept.1 in
    let dead = test_from_deadlocked g q (reached_deadlocked g l q (deadlocked_from_test g l w itself.0) there) in
    led_test g list l q are j
    ∙ ap (λ b. b && eqb (leader_of g q) l) dead
    ∙ same_test (eqb (leader_of g q) l) (reaches g q l)
    (λ e. then_reaches g q l w j
    ((core_law g q l w j).0
    (subst (Contains (core_of g q)) (eqb-true (leader_of g q) l e) (leader_in_core g q w j))).0)
    (λ e. eq-eqb (leader_of g q) l (same_leader g q l w j ((core_law g q l w j).1 (reaches_then g q l e, there)) ∙ own))

-- of those that a leader reaches, the ones that it leads are its core
pub led_core : (g : Graph) (list : List (Option ℕ)) (l : ℕ) (reach : List ℕ) → IsWithinGraph g → l < process_count g
    → list ≡ map (group_leader g) (indices g) → is_led_by list l l ≡ true → reach ≡ reach_of g l
    → filter (is_led_by list l) reach ≡ core_of g l
led_core g list l reach w i are leads is =
    ap (filter (is_led_by list l)) is
    ∙ filter_agree_on (is_led_by list l) (λ q. reaches g q l) (reach_of g l)
    (λ q c. leads_back g list l q w i are leads c)

-- of those that a leader reaches, the ones that it doesn't lead are its rest
pub led_rest : (g : Graph) (list : List (Option ℕ)) (l : ℕ) (reach : List ℕ) → IsWithinGraph g → l < process_count g
    → list ≡ map (group_leader g) (indices g) → is_led_by list l l ≡ true → reach ≡ reach_of g l
    → filter (λ q. not (is_led_by list l q)) reach ≡ rest_of g l
led_rest g list l reach w i are leads is =
    ap (filter (λ q. not (is_led_by list l q))) is
    ∙ filter_agree_on (λ q. not (is_led_by list l q)) (λ q. not (reaches g q l)) (reach_of g l)
    (λ q c. ap not (leads_back g list l q w i are leads c))
