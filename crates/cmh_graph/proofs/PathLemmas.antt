-- What the tests of paths say.
use Rattle.std.proofs.Common.{get_or, ◌≡◌, ℕ, zero, suc, ◌<◌, ◌≤◌, Bool, true, false, cond, ◌||◌, ◌⊎◌, inl, inr, List, [], ◌∷◌, ◌++◌, map, length, refl, sym, ◌∙◌, ap, subst, arith, eqb, eqb-true, eq-eqb}
use Rattle.std.specs.Prelude.{Contains, flat_map, find, is_some, Some, Option, ⊤, ◌↔◌, IsTrue}
use Rattle.std.specs.List.{list_any, range_with_len, AllByRecursion, IsDistinct}
use Rattle.std.proofs.lemmas.List.FromFn.{length-range_with_len, get_or-range_with_len}
use Rattle.std.proofs.lemmas.List.{get_or_default}
use Rattle.std.proofs.lemmas.Map.Keys.{IsDistinct-cons, IsDistinct-tail}
use Rattle.std.proofs.lemmas.Map.Steps.{length-le_from_distinct_below}
use Rattle.std.proofs.lemmas.Bool.{or_parts}
use Rattle.cmh_graph.specs.Graph.{IsWithinGraph, Graph, process_count, dependents_of, dependencies_of, is_idle, Depends, indices}
use Rattle.cmh_graph.specs.Path.{Leads, Reaches, paths_to, is_nonempty, reaches}

-- ---- lists

-- a list has its head, or its rest has what it has
pub cons_contains : {X : Type 0} (x : X) (xs : List X) (y : X) → Contains (x ∷ xs) y → (x ≡ y) ⊎ Contains xs y
cons_contains x xs y (zero, l, e) = inl e
cons_contains x xs y (suc k, l, e) = inr (k, omega arith, e)

-- a list has its head
pub contains_first : {X : Type 0} (x : X) (xs : List X) → Contains (x ∷ xs) x
contains_first x xs = (zero, omega arith, refl)

-- what the rest has, the list has
pub contains_cons : {X : Type 0} (x : X) (xs : List X) (y : X) → Contains xs y → Contains (x ∷ xs) y
contains_cons x xs y (k, l, e) = (suc k, omega arith, e)

-- joined lists that are not empty have one that is not
nonempty_append : (xs ys : List (List ℕ)) → is_nonempty (xs ++ ys) ≡ true
    → (is_nonempty xs ≡ true) ⊎ (is_nonempty ys ≡ true)
nonempty_append [] ys e = inr e
nonempty_append (x ∷ xs) ys e = inl refl

-- two lists joined are not empty where the first is not
append_nonempty_left : (xs ys : List (List ℕ)) → is_nonempty xs ≡ true → is_nonempty (xs ++ ys) ≡ true
append_nonempty_left [] ys e = cc
append_nonempty_left (x ∷ xs) ys e = refl

-- two lists joined are not empty where the second is not
append_nonempty_right : (xs ys : List (List ℕ)) → is_nonempty ys ≡ true → is_nonempty (xs ++ ys) ≡ true
append_nonempty_right [] ys e = e
append_nonempty_right (x ∷ xs) ys e = refl

-- a list is not empty where what a function makes of it is not
pub nonempty_map : (f : List ℕ → List ℕ) (xs : List (List ℕ)) → is_nonempty (map f xs) ≡ true → is_nonempty xs ≡ true
nonempty_map f [] e = e
nonempty_map f (x ∷ xs) e = refl

-- what a function makes of a list is not empty where the list is not
pub map_nonempty : (f : List ℕ → List ℕ) (xs : List (List ℕ)) → is_nonempty xs ≡ true → is_nonempty (map f xs) ≡ true
map_nonempty f [] e = e
map_nonempty f (x ∷ xs) e = refl

-- where joined lists are not empty, the list of some member is not
pub nonempty_flat_map : (f : ℕ → List (List ℕ)) (xs : List ℕ) → is_nonempty (flat_map f xs) ≡ true
    → (r : ℕ) × Contains xs r × (is_nonempty (f r) ≡ true)
nonempty_flat_map f [] e = cc
nonempty_flat_map f (x ∷ xs) e =
    elim (nonempty_append (f x) (flat_map f xs) e) [
      | inl h ↦ (x, (zero, omega arith, refl), h)
      | inr h ↦ let w = nonempty_flat_map f xs h in (w.0, contains_cons x xs w.0 w.1, w.2)
    ]

-- joined lists are not empty where the list of a member is not
pub flat_map_nonempty : (f : ℕ → List (List ℕ)) (xs : List ℕ) (r : ℕ) → Contains xs r → is_nonempty (f r) ≡ true
    → is_nonempty (flat_map f xs) ≡ true
flat_map_nonempty f [] r (k, l, e) h = absurd (omega arith)
flat_map_nonempty f (x ∷ xs) r c h =
    elim (cons_contains x xs r c) [
      | inl e ↦ append_nonempty_left (f x) (flat_map f xs) (subst (λ y. is_nonempty (f y) ≡ true) (sym e) h)
      | inr d ↦ append_nonempty_right (f x) (flat_map f xs) (flat_map_nonempty f xs r d h)
    ]

-- ---- dependencies

-- what is listed as a dependency of p is one, by cases of whether p is idle
depends_by : (g : Graph) (p r : ℕ) (b : Bool) → is_idle g p ≡ b → Contains (cond b (dependents_of g p) []) r
    → Depends g p r
depends_by g p r true e c = (e, c)
depends_by g p r false e (k, l, c) = absurd (omega arith)

-- what is listed as a dependency is one
pub depends : (g : Graph) (p r : ℕ) → Contains (dependencies_of g p) r → Depends g p r
depends g p r c = depends_by g p r (is_idle g p) refl c

-- an idle process lists its dependents
dependencies_by : (xs : List ℕ) (r : ℕ) (b : Bool) → b ≡ true → Contains xs r → Contains (cond b xs []) r
dependencies_by xs r true e c = c
dependencies_by xs r false e c = cc

-- a dependency is listed as one
pub dependency : (g : Graph) (p r : ℕ) → Depends g p r → Contains (dependencies_of g p) r
dependency g p r d = dependencies_by (dependents_of g p) r (is_idle g p) d.0 d.1

-- ---- listed paths are paths

-- p is led to a process that passes the test
unfoldable pub Walk : Graph → (ℕ → Bool) → ℕ → Type 0
Walk g test p = (q : ℕ) × (test q ≡ true) × (rest : List ℕ) × Leads g p rest q

-- where the path of p alone is listed, p passes the test
pub start_by : (test : ℕ → Bool) (p : ℕ) (b : Bool) → is_nonempty (cond b ((p ∷ []) ∷ []) []) ≡ true → b ≡ true
start_by test p true e = refl
start_by test p false e = e

-- a listed path leads to a process that passes
pub walk : (g : Graph) (test : ℕ → Bool) (n p : ℕ) → is_nonempty (paths_to g test n p) ≡ true → Walk g test p
unfolding Walk
walk g test zero p e = (p, start_by test p (test p) e, [], refl)
walk g test (suc n) p e =
    let w = nonempty_flat_map (λ r. map (λ path. p ∷ path) (paths_to g test n r)) (dependencies_of g p) e in
    let v = walk g test n w.0 (nonempty_map (λ path. p ∷ path) (paths_to g test n w.0) w.2) in
    (v.0, v.1, w.0 ∷ v.2, (depends g p w.0 w.1, v.3))

-- where p passes the test, the path of p alone is listed
pub start_nonempty : (p : ℕ) (b : Bool) → b ≡ true → is_nonempty (cond b ((p ∷ []) ∷ []) []) ≡ true
start_nonempty p true e = refl
start_nonempty p false e = e

-- ---- paths are listed

-- a path is listed by its length
pub listed : (g : Graph) (test : ℕ → Bool) (p : ℕ) (rest : List ℕ) (q : ℕ) → Leads g p rest q → test q ≡ true
    → is_nonempty (paths_to g test (length rest) p) ≡ true
listed g test p [] q e t = start_nonempty p (test p) (ap test e ∙ t)
listed g test p (r ∷ rest) q l t =
    flat_map_nonempty (λ r. map (λ path. p ∷ path) (paths_to g test (length rest) r)) (dependencies_of g p) r
    (dependency g p r l.0)
    (map_nonempty (λ path. p ∷ path) (paths_to g test (length rest) r) (listed g test r rest q l.1 t))

-- ---- a path without repeats

-- where no member passes, each fails
each_fails : (t : ℕ → Bool) (xs : List ℕ) → list_any t xs ≡ false → AllByRecursion (λ x. t x ≡ false) xs
each_fails t [] e = tt
each_fails t (x ∷ xs) e = let both = or_parts (t x) (list_any t xs) e in (both.0, each_fails t xs both.1)

-- p is led to q without passing a process twice
unfoldable pub Simple : Graph → ℕ → ℕ → Type 0
Simple g p q = (rest : List ℕ) × Leads g p rest q × IsDistinct eqb (p ∷ rest)

-- a path that comes back to p has a part from p that doesn't
suffix : (g : Graph) (p r : ℕ) (rest : List ℕ) (q : ℕ) → Leads g r rest q → IsDistinct eqb (r ∷ rest)
    → (b : Bool) → eqb p r ≡ b → list_any (λ y. eqb p y) (r ∷ rest) ≡ true → Simple g p q
unfolding Simple
suffix g p r rest q l a true e h =
    let same : p ≡ r = eqb-true p r e in
    subst (λ x. (rest' : List ℕ) × Leads g x rest' q × IsDistinct eqb (x ∷ rest')) (sym same) (rest, l, a)
suffix g p r [] q l a false e h = let z : false ≡ true = rw e at h in cc
suffix g p r (s ∷ rest) q l a false e h =
    let z : list_any (λ y. eqb p y) (s ∷ rest) ≡ true = rw e at h in
    suffix g p s rest q l.1 (IsDistinct-tail eqb r (s ∷ rest) a) (eqb p s) refl z

-- a step before a simple path, which may come back to p
simple_by : (g : Graph) (p r : ℕ) (rest : List ℕ) (q : ℕ) → Depends g p r → Leads g r rest q
    → IsDistinct eqb (r ∷ rest) → (b : Bool) → list_any (λ y. eqb p y) (r ∷ rest) ≡ b → Simple g p q
unfolding Simple
simple_by g p r rest q d l a true h = unfold Simple in suffix g p r rest q l a (eqb p r) refl h
simple_by g p r rest q d l a false h =
    (r ∷ rest, (d, l), IsDistinct-cons eqb p (r ∷ rest) (each_fails (λ y. eqb p y) (r ∷ rest) h) a)

-- where p is led to q there is a simple path
pub simple : (g : Graph) (p : ℕ) (rest : List ℕ) (q : ℕ) → Leads g p rest q → Simple g p q
unfolding Simple IsDistinct
simple g p [] q e = ([], e, (tt, tt))
simple g p (r ∷ rest) q l =
    let s = simple g r rest q l.1 in
    simple_by g p r s.0 q l.0 s.1 s.2 (list_any (λ y. eqb p y) (r ∷ s.0)) refl

-- ---- a list of distinct numbers below n is no longer than n

-- each member of the list is below n
abbrev pub AllBelow : ℕ → List ℕ → Type 0
AllBelow n [] = ⊤
AllBelow n (x ∷ xs) = (x < n) × AllBelow n xs

-- what a list of numbers below n has is below n
any_below : (n q : ℕ) (xs : List ℕ) → AllBelow n xs → list_any (eqb q) xs ≡ true → q < n
any_below n q [] b e = absurd cc
any_below n q (x ∷ xs) b e = by (eqb q x) refl e (any_below n q xs b.1)
  where
    by : (t : Bool) → eqb q x ≡ t → (t || list_any (eqb q) xs) ≡ true → (list_any (eqb q) xs ≡ true → q < n) → q < n
    by true s h rest = omega (arith, b.0, eqb-true q x s)
    by false s h rest = rest h

-- at most n numbers below n are distinct
pub length_distinct : (n : ℕ) (xs : List ℕ) → AllBelow n xs → IsDistinct eqb xs → length xs ≤ n
length_distinct n xs b d = length-le_from_distinct_below xs n d (λ q. any_below n q xs b)

-- ---- a path stays within the graph

-- a dependency of a process of the graph is one of the graph
pub depends_within : (g : Graph) → IsWithinGraph g → (p r : ℕ) → p < process_count g → Depends g p r
    → r < process_count g
depends_within g w p r i d =
    let c = d.1 in
    let same : get_or (dependents_of g p) c.0 0 ≡ r = get_or_default (dependents_of g p) c.0 0 r c.1 ∙ c.2 in
    subst (λ y. y < process_count g) same (w p c.0 (i, c.1))

-- a path stays within the graph
pub within : (g : Graph) → IsWithinGraph g → (p : ℕ) (rest : List ℕ) (q : ℕ) → p < process_count g → Leads g p rest q
    → AllBelow (process_count g) (p ∷ rest)
within g w p [] q i l = (i, tt)
within g w p (r ∷ rest) q i l = (i, within g w r rest q (depends_within g w p r i l.0) l.1)

-- ---- the test of a search

-- a search finds something where its head or its rest does
is_some_find_by : (x : ℕ) (o : Option ℕ) (b : Bool) → (b ≡ true) ⊎ (is_some o ≡ true)
    → is_some (cond b (Some x) o) ≡ true
is_some_find_by x o true h = refl
is_some_find_by x o false (inl e) = cc
is_some_find_by x o false (inr e) = e

-- a search finds something where a member passes
pub is_some_find : (t : ℕ → Bool) (xs : List ℕ) (x : ℕ) → Contains xs x → t x ≡ true → is_some (find t xs) ≡ true
is_some_find t [] x c e = absurd (omega (arith, c.1))
is_some_find t (y ∷ ys) x c e =
    is_some_find_by y (find t ys) (t y)
    (elim (cons_contains y ys x c) [
      | inl s ↦ inl (ap t s ∙ e)
      | inr d ↦ inr (is_some_find t ys x d e)
    ])

-- what a search finds passes, by cases
found_by : (t : ℕ → Bool) (x : ℕ) (xs : List ℕ) (b : Bool) → t x ≡ b
    → ((is_some (find t xs) ≡ true) → (n : ℕ) × (t n ≡ true)) → is_some (cond b (Some x) (find t xs)) ≡ true
    → (n : ℕ) × (t n ≡ true)
found_by t x xs true e h s = (x, e)
found_by t x xs false e h s = h s

-- what a search finds passes
pub found : (t : ℕ → Bool) (xs : List ℕ) → is_some (find t xs) ≡ true → (n : ℕ) × (t n ≡ true)
found t [] e = absurd cc
found t (x ∷ xs) e = found_by t x xs (t x) refl (λ s. found t xs s) e

-- the first n indices have each number below n
pub contains_index : (n k : ℕ) → k < n → Contains (range_with_len 0 n) k
contains_index n k l = (k, rw length-range_with_len l, get_or-range_with_len 0 n k k l ∙ omega arith)

-- an index that stands in the list of the first n is below n
pub index_within : (n k : ℕ) → Contains (range_with_len 0 n) k → k < n
index_within n k (j, l, e) =
    let below : j < n = omega (arith, l, length-range_with_len 0 n) in
    omega (arith, below, get_or-range_with_len 0 n j k below, e)

-- ---- the law

-- where the test of reach holds there is a path
pub reaches_then : (g : Graph) (p q : ℕ) → reaches g p q ≡ true → Reaches g p q
unfolding reaches Walk
reaches_then g p q e =
    let n = found (λ n. is_nonempty (paths_to g (λ r. eqb r q) n p)) (indices g) e in
    let w = walk g (λ r. eqb r q) n.0 p n.1 in
    (p ∷ w.2, (refl, subst (λ z. Leads g p w.2 z) (eqb-true w.0 q w.1) w.3))

-- where p is led to q the test of reach holds
leads_reaches : (g : Graph) (p q : ℕ) → IsWithinGraph g → p < process_count g → (rest : List ℕ) → Leads g p rest q
    → reaches g p q ≡ true
unfolding reaches Simple
leads_reaches g p q w i rest l =
    let s = simple g p rest q l in
    let short : length (p ∷ s.0) ≤ process_count g =
    length_distinct (process_count g) (p ∷ s.0) (within g w p s.0 q i s.1) s.2 in
    is_some_find (λ n. is_nonempty (paths_to g (λ r. eqb r q) n p)) (indices g) (length s.0)
    (contains_index (process_count g) (length s.0) (omega (arith, short)))
    (listed g (λ r. eqb r q) p s.0 q s.1 (eq-eqb q q refl))

-- where there is a path the test of reach holds
pub then_reaches : (g : Graph) (p q : ℕ) → IsWithinGraph g → p < process_count g → Reaches g p q → reaches g p q ≡ true
then_reaches g p q w i ([], e) = absurd e
then_reaches g p q w i (x ∷ rest, (e, l)) = leads_reaches g p q w i rest l

-- the test of reach says what the relation says
pub reach_law : (g : Graph) (p q : ℕ) → IsWithinGraph g → p < process_count g
    → IsTrue (reaches g p q) ↔ Reaches g p q
reach_law = λ g p q w i. (λ e. reaches_then g p q e, λ r. then_reaches g p q w i r)
