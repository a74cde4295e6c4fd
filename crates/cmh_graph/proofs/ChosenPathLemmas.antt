-- The chosen path.
use Rattle.std.proofs.Common.{◌≡◌, ℕ, zero, suc, ◌+◌, ◌<◌, ◌≤◌, Bool, true, false, cond, inl, inr, List, [], ◌∷◌, ◌++◌, append_assoc, map, length, get_or, IsFalse, refl, sym, ◌∙◌, ap, subst, arith}
use Rattle.std.specs.Prelude.{Contains, flat_map, fold, Some, None, Option, is_some, IsSome, unwrap_or, option_and_then, ◌↔◌}
use Rattle.std.specs.List.{reduce}
use Rattle.std.specs.Ordering.{nat_cmp, is_lt}
use Rattle.std.specs.Cmp.{nat_cmp_is}
use Rattle.std.specs.Cmp.Lexicographic.{slice_cmp}
use Rattle.std.proofs.lemmas.List.Elements.{Contains-append_left, Contains-append_right, Contains-append_cases}
use Rattle.std.proofs.lemmas.List.MinMax.{IsFirstBest-from_best_of, ranks_by}
use Rattle.std.proofs.lemmas.Cmp.{nat_list_cmp_total}
use Rattle.cmh_graph.specs.Build.{IsWellFormed}
use Rattle.cmh_graph.specs.ChosenPath.{distance_of, chosen_path, lesser_path, IsChosenPath, IsWayOut}
use Rattle.cmh_graph.specs.Graph.{Depends, IsWithinGraph, Graph, process_count, is_awake, dependencies_of, dependents_of, indices}
use Rattle.cmh_graph.specs.Path.{Leads, IsPath, Reaches, paths_to, is_nonempty}
use Rattle.cmh_graph.specs.Search.{IsLeastAt, number_at}
use Rattle.cmh_graph.specs.Verdict.{IsDeadlocked}
use Rattle.cmh_graph.proofs.IndexLists.{by_index}
use Rattle.cmh_graph.proofs.PositionLemmas.{waits}
use native.Mathlib.Decide.{dec_lt}
use Rattle.std.proofs.lemmas.List.{get_or_default}
use Rattle.std.specs.FinMap.{slice_cmp-IsAntisymmetric, nat_cmp-IsAntisymmetric}
use Rattle.std.specs.declared.cmp.Ordering.{Ordering}
use Rattle.std.specs.declared.cmp.Ordering.TheVariants.{Less, Equal, Greater}
use Rattle.std.specs.Ordering.{ordering_reverse}
use Rattle.cmh_graph.proofs.LevelSearch.{first, has_steps, near, near_then, passes_itself, steps_back, steps_on, steps_within}
use Rattle.cmh_graph.proofs.PathLemmas.{listed, cons_contains, contains_cons, depends, depends_within, dependency}
use Rattle.cmh_graph.proofs.Verdicts.{asleep_is_idle}

-- ---- what is listed

-- what the list of a member has, the joined lists have
flat_map_contains : (f : ℕ → List (List ℕ)) (xs : List ℕ) (r : ℕ) (path : List ℕ) → Contains xs r → Contains (f r) path
    → Contains (flat_map f xs) path
flat_map_contains f [] r path c d = absurd (omega (arith, c.1))
flat_map_contains f (x ∷ xs) r path c d =
    elim (cons_contains x xs r c) [
      | inl e ↦ Contains-append_left (f x) (flat_map f xs) path (subst (λ y. Contains (f y) path) (sym e) d)
      | inr k ↦ Contains-append_right (f x) (flat_map f xs) path (flat_map_contains f xs r path k d)
    ]

-- what joined lists have, the list of a member has
contains_flat_map : (f : ℕ → List (List ℕ)) (xs : List ℕ) (path : List ℕ) → Contains (flat_map f xs) path
    → (r : ℕ) × Contains xs r × Contains (f r) path
contains_flat_map f [] path c = absurd (omega (arith, c.1))
contains_flat_map f (x ∷ xs) path c =
    elim (Contains-append_cases (f x) (flat_map f xs) path c) [
      | inl d ↦ (x, (zero, omega arith, refl), d)
      | inr d ↦ let w = contains_flat_map f xs path d in (w.0, contains_cons x xs w.0 w.1, w.2)
    ]

-- a path of the list stands in the list of paths that begin with p
map_contains : (p : ℕ) (xss : List (List ℕ)) (xs : List ℕ) → Contains xss xs
    → Contains (map (λ path. p ∷ path) xss) (p ∷ xs)
map_contains p [] xs c = absurd (omega (arith, c.1))
map_contains p (ys ∷ yss) xs c =
    elim (cons_contains ys yss xs c) [
      | inl e ↦ (zero, omega arith, ap (λ z. p ∷ z) e)
      | inr d ↦ contains_cons (p ∷ ys) (map (λ path. p ∷ path) yss) (p ∷ xs) (map_contains p yss xs d)
    ]

-- a path that begins with p, of a list made by putting p before paths, is p and then one of those paths
contains_map : (p : ℕ) (xss : List (List ℕ)) (path : List ℕ) → Contains (map (λ path. p ∷ path) xss) path
    → (xs : List ℕ) × Contains xss xs × (p ∷ xs ≡ path)
contains_map p [] path c = absurd (omega (arith, c.1))
contains_map p (ys ∷ yss) path c =
    elim (cons_contains (p ∷ ys) (map (λ path. p ∷ path) yss) path c) [
      | inl e ↦ (ys, (zero, omega arith, refl), e)
      | inr d ↦ let w = contains_map p yss path d in (w.0, contains_cons ys yss w.0 w.1, w.2)
    ]

-- a path of n dependencies from p to a process that passes the test
pub record IsListed (g : Graph) (test : ℕ → Bool) (n p : ℕ) (path : List ℕ) : Type 0 where
  pub rest : List ℕ
  pub goal : ℕ
  pub is : p ∷ rest ≡ path
  pub size : length rest ≡ n
  pub leads : Leads g p rest goal
  pub passes : test goal ≡ true

-- what is listed for no dependencies is the process alone, and it passes
start_by : (g : Graph) (test : ℕ → Bool) (p : ℕ) (path : List ℕ) (b : Bool) → test p ≡ b
    → Contains (cond b ((p ∷ []) ∷ []) []) path → IsListed g test 0 p path
start_by g test p path true e c =
    elim (cons_contains (p ∷ []) [] path c) [
      | inl s ↦ record { rest = []; goal = p; is = s; size = refl; leads = refl; passes = e }
      | inr d ↦ absurd (omega (arith, d.1))
    ]
start_by g test p path false e c = absurd (omega (arith, c.1))

-- a path that is listed by n leads by n dependencies from p to a process that passes the test
pub listed_is : (g : Graph) (test : ℕ → Bool) (n p : ℕ) (path : List ℕ) → Contains (paths_to g test n p) path
    → IsListed g test n p path
listed_is g test zero p path c = start_by g test p path (test p) refl c
listed_is g test (suc n) p path c =
    let w = contains_flat_map (λ r. map (λ path. p ∷ path) (paths_to g test n r)) (dependencies_of g p) path c in
    let v = contains_map p (paths_to g test n w.0) path w.2 in
    let l = listed_is g test n w.0 v.0 v.1 in
    record {
      rest = w.0 ∷ l.rest;
      goal = l.goal;
      is = ap (λ z. p ∷ z) l.is ∙ v.2;
      size = ap suc l.size;
      leads = (depends g p w.0 w.1, l.leads);
      passes = l.passes;
    }

-- where p passes the test, the path of p alone is listed
start_listed : (p : ℕ) (b : Bool) → b ≡ true → Contains (cond b ((p ∷ []) ∷ []) []) (p ∷ [])
start_listed p true e = (zero, omega arith, refl)
start_listed p false e = absurd cc

-- a path from p to a process that passes the test is listed by its number of dependencies
is_listed : (g : Graph) (test : ℕ → Bool) (p : ℕ) (rest : List ℕ) (q : ℕ) → Leads g p rest q → test q ≡ true
    → Contains (paths_to g test (length rest) p) (p ∷ rest)
is_listed g test p [] q l t = start_listed p (test p) (ap test l ∙ t)
is_listed g test p (r ∷ rest) q l t =
    flat_map_contains (λ r. map (λ path. p ∷ path) (paths_to g test (length rest) r)) (dependencies_of g p) r
    (p ∷ r ∷ rest) (dependency g p r l.0)
    (map_contains p (paths_to g test (length rest) r) (r ∷ rest) (is_listed g test r rest q l.1 t))

-- ---- the least list

-- a fold by the lesser gives a member of the list, and none is less
least : (x : List ℕ) (xs : List (List ℕ))
    → Contains (x ∷ xs) (fold lesser_path x xs)
    × ((y : List ℕ) → Contains (x ∷ xs) y → is_lt (slice_cmp nat_cmp y (fold lesser_path x xs)) ≡ false)
least x xs =
    let w = IsFirstBest-from_best_of (ranks_by nat_list_cmp_total (λ (z : List ℕ). z)) x xs in
    let at : get_or (x ∷ xs) w.0 x ≡ fold lesser_path x xs = w.2 in (
      (w.0, w.1.0, get_or_default (x ∷ xs) w.0 (fold lesser_path x xs) x w.1.0 ∙ at),
      λ y c. subst (λ z. is_lt (slice_cmp nat_cmp y z) ≡ false) at
          (subst (λ z. is_lt (slice_cmp nat_cmp z (get_or (x ∷ xs) w.0 x)) ≡ false)
          (get_or_default (x ∷ xs) c.0 x y c.1 ∙ c.2) (w.1.1 c.0 x c.1)),
    )

-- the least of a list is a member, and none is less
least_of : (xss : List (List ℕ)) (path : List ℕ) → reduce lesser_path xss ≡ Some path
    → Contains xss path × ((y : List ℕ) → Contains xss y → is_lt (slice_cmp nat_cmp y path) ≡ false)
least_of [] path e = absurd cc
least_of (x ∷ xs) path e =
    let same : fold lesser_path x xs ≡ path = ap (λ o. unwrap_or o path) e in
    subst (λ z. Contains (x ∷ xs) z × ((y : List ℕ) → Contains (x ∷ xs) y → is_lt (slice_cmp nat_cmp y z) ≡ false)) same
    (least x xs)

-- ---- the law

-- a listed path has one process more than dependencies
pub length_is : (g : Graph) (p n : ℕ) (path : List ℕ) (l : IsListed g (is_awake g) n p path) → length path ≡ suc n
length_is g p n path l = ap length (sym l.is) ∙ ap suc l.size

-- the least path of the length of the distance is a chosen path in words
chosen_at : (g : Graph) (p n : ℕ) (path : List ℕ) → distance_of g p ≡ Some n
    → reduce lesser_path (paths_to g (is_awake g) n p) ≡ Some path → IsChosenPath g p path
unfolding distance_of
chosen_at g p n path e r =
    let f = first (λ m. is_nonempty (paths_to g (is_awake g) m p)) 0 (process_count g) n e in
    let m = least_of (paths_to g (is_awake g) n p) path r in
    let l = listed_is g (is_awake g) n p path m.0 in
    let size = length_is g p n path l in
    record {
      awake = (l.goal, l.passes, subst (λ z. IsPath g p l.goal z) l.is (refl, l.leads));
      shortest = λ other o. not_shorter g p n path other o.0 f.1 size o.1 o.2;
      least = λ other o same. m.1 other (at_same g p n path other o.0 size o.1 o.2 same);
    }
  where
    not_shorter : (g : Graph) (p n : ℕ) (path other : List ℕ) (q : ℕ)
        → ((m : ℕ) → 0 ≤ m → m < n → is_nonempty (paths_to g (is_awake g) m p) ≡ false) → length path ≡ suc n
        → is_awake g q ≡ true → IsPath g p q other → length path ≤ length other
    not_shorter g p n path [] q f size a w = absurd w
    not_shorter g p n path (x ∷ rest) q f size a w =
        elim (dec_lt (length rest) n) [
          | yes h ↦ let z : true ≡ false =
              sym (listed g (is_awake g) p rest q w.1 a) ∙ f (length rest) (omega arith) h in absurd cc
          | no h ↦ omega (arith, h, size)
        ]

    at_same : (g : Graph) (p n : ℕ) (path other : List ℕ) (q : ℕ) → length path ≡ suc n → is_awake g q ≡ true
        → IsPath g p q other → length other ≡ length path → Contains (paths_to g (is_awake g) n p) other
    at_same g p n path [] q size a w same = absurd w
    at_same g p n path (x ∷ rest) q size a w same =
        let is : length rest ≡ n = omega (arith, same, size) in
        subst (λ m. Contains (paths_to g (is_awake g) m p) (x ∷ rest)) is
        (subst (λ y. Contains (paths_to g (is_awake g) (length rest) p) (y ∷ rest)) (sym w.0)
        (is_listed g (is_awake g) p rest q w.1 a))

-- the least path of the length of the distance, where there is a distance, is a chosen path in words
chosen_by : (g : Graph) (p : ℕ) (path : List ℕ) (o : Option ℕ) → distance_of g p ≡ o
    → option_and_then (λ n. reduce lesser_path (paths_to g (is_awake g) n p)) o ≡ Some path → IsChosenPath g p path
chosen_by g p path (Some n) e r = chosen_at g p n path e r
chosen_by g p path None e r = absurd cc

-- the chosen path that is computed is a chosen path in words
pub chosen_is : (g : Graph) (p : ℕ) (path : List ℕ) → chosen_path g p ≡ Some path → IsChosenPath g p path
unfolding chosen_path
chosen_is g p path e = chosen_by g p path (distance_of g p) refl e

-- ---- that there is one

-- a list that is not empty has a least member
reduce_some : (xss : List (List ℕ)) → is_nonempty xss ≡ true → (path : List ℕ) × (reduce lesser_path xss ≡ Some path)
reduce_some [] e = absurd cc
reduce_some (x ∷ xs) e = (fold lesser_path x xs, refl)

-- a process with a distance has a chosen path
some_chosen_by : (g : Graph) (p : ℕ) (o : Option ℕ) → distance_of g p ≡ o → is_some o ≡ true
    → (path : List ℕ) × (option_and_then (λ n. reduce lesser_path (paths_to g (is_awake g) n p)) o ≡ Some path)
unfolding distance_of
some_chosen_by g p (Some n) e s =
    reduce_some (paths_to g (is_awake g) n p)
    (first (λ m. is_nonempty (paths_to g (is_awake g) m p)) 0 (process_count g) n e).0
some_chosen_by g p None e s = absurd cc

-- a process that is led to an awake one has a distance
pub has_distance : (g : Graph) → IsWithinGraph g → (p q : ℕ) → p < process_count g → (rest : List ℕ) → Leads g p rest q
    → is_awake g q ≡ true → is_some (distance_of g p) ≡ true
unfolding distance_of
has_distance g w p q i rest l a = has_steps g (is_awake g) w p q i rest l a

-- a process with a path to an awake one has a chosen path
some_chosen : (g : Graph) → IsWithinGraph g → (p q : ℕ) (path : List ℕ) → p < process_count g → is_awake g q ≡ true
    → IsPath g p q path → (other : List ℕ) × (chosen_path g p ≡ Some other)
unfolding chosen_path
some_chosen g w p q [] i a h = absurd h
some_chosen g w p q (x ∷ rest) i a h = some_chosen_by g p (distance_of g p) refl (has_distance g w p q i rest h.1 a)

-- an order in which neither is less than the other is equality
neither_less : (o r : Ordering) → o ≡ ordering_reverse r → is_lt o ≡ false → is_lt r ≡ false → o ≡ Equal
neither_less Less r e a b = absurd cc
neither_less Equal r e a b = refl
neither_less Greater Less e a b = absurd cc
neither_less Greater Equal e a b = cc
neither_less Greater Greater e a b = cc

-- two chosen paths in words are one
one_chosen : (g : Graph) (p : ℕ) (path other : List ℕ) → IsChosenPath g p path → IsChosenPath g p other → path ≡ other
one_chosen g p path other c d =
    let one = c.shortest other d.awake in
    let two = d.shortest path c.awake in
    let same : length path ≡ length other = omega (arith, one, two) in
    slice_cmp-IsAntisymmetric nat_cmp-IsAntisymmetric path other
    (neither_less (slice_cmp nat_cmp path other) (slice_cmp nat_cmp other path) (nat_list_cmp_total.antisymm path other)
    (d.least path c.awake same)
    (c.least other d.awake (sym same)))

-- a chosen path in words is the one that is computed
is_chosen : (g : Graph) (p : ℕ) (path : List ℕ) → IsWithinGraph g → p < process_count g → IsChosenPath g p path
    → chosen_path g p ≡ Some path
is_chosen g p path w i c =
    let s = some_chosen g w p c.awake.0 path i c.awake.1 c.awake.2 in
    s.1 ∙ ap (λ z. Some z) (one_chosen g p s.0 path (chosen_is g p s.0 s.1) c)

-- the chosen path is the one that its words say
pub chosen_path_law : (g : Graph) (p : ℕ) (path : List ℕ) → IsWithinGraph g → p < process_count g
    → (chosen_path g p ≡ Some path) ↔ IsChosenPath g p path
chosen_path_law = λ g p path w i. (λ e. chosen_is g p path e, λ c. is_chosen g p path w i c)

-- without a chosen path no reached process is awake
none_then : (g : Graph) (p q : ℕ) → IsWithinGraph g → p < process_count g → chosen_path g p ≡ None → Reaches g p q
    → (b : Bool) → is_awake g q ≡ b → b ≡ false
none_then g p q w i e r true a = let z = some_chosen g w p q r.0 i a r.1 in let bad : None ≡ Some z.0 =
    sym e ∙ z.1 in absurd cc
none_then g p q w i e r false a = refl

-- where no reached process is awake there is no chosen path
then_none : (g : Graph) (p : ℕ) (o : Option (List ℕ)) → chosen_path g p ≡ o
    → ((q : ℕ) → Reaches g p q → is_awake g q ≡ false) → o ≡ None
then_none g p None e h = refl
then_none g p (Some path) e h =
    let c = chosen_is g p path e in
    let bad : true ≡ false = sym c.awake.1 ∙ h c.awake.0 (path, c.awake.2) in
    absurd cc

-- there is no chosen path just where no reached process is awake
pub chosen_path_exists_law : (g : Graph) (p : ℕ) → IsWithinGraph g → p < process_count g
    → (chosen_path g p ≡ None) ↔ ((q : ℕ) → Reaches g p q → IsFalse (is_awake g q))
chosen_path_exists_law =
    λ g p w i. (λ e q r. none_then g p q w i e r (is_awake g q) refl, λ h. then_none g p (chosen_path g p) refl h)

-- where no awake process is reached, the process is deadlocked
asleep_deadlocked : (g : Graph) (p : ℕ) → ((q : ℕ) → Reaches g p q → IsFalse (is_awake g q)) → IsDeadlocked g p
asleep_deadlocked g p asleep = (asleep_is_idle g p (asleep p (p ∷ [], (refl, refl))), asleep)

-- a process that isn't deadlocked has a chosen path
pub way_out : (g : Graph) (p : ℕ) (o : Option (List ℕ)) → IsWithinGraph g → p < process_count g → ¬ (IsDeadlocked g p)
    → chosen_path g p ≡ o → IsSome o
way_out g p (Some path) w i free e = refl
way_out g p None w i free e = absurd (free (asleep_deadlocked g p ((chosen_path_exists_law g p w i).0 e)))

-- ---- a step of the chosen path

-- a chosen path in words has one process more than the distance has dependencies
pub chosen_length : (g : Graph) (p n : ℕ) (path : List ℕ) → distance_of g p ≡ Some n → IsChosenPath g p path
    → length path ≡ suc n
unfolding distance_of
chosen_length g p n path e c =
    let s = reduce_some (paths_to g (is_awake g) n p) (near g (is_awake g) p n e) in
    let m = least_of (paths_to g (is_awake g) n p) s.0 s.1 in
    ap length (one_chosen g p path s.0 c (unfold distance_of in chosen_at g p n s.0 e s.1))
    ∙ length_is g p n s.0 (listed_is g (is_awake g) n p s.0 m.0)

-- each path to an awake process has at least one process more than the distance has dependencies
pub way_out_length : (g : Graph) (p n : ℕ) (other : List ℕ) → distance_of g p ≡ Some n → IsWayOut g p other
    → suc n ≤ length other
unfolding distance_of
way_out_length g p n [] e o = absurd o.2
way_out_length g p n (x ∷ rest) e o =
    elim (dec_lt (length rest) n) [
      | yes h ↦
          let none =
          (first (λ m. is_nonempty (paths_to g (is_awake g) m p)) 0 (process_count g) n e).1 (length rest)
          (omega arith) h in
          let bad : true ≡ false = sym (listed g (is_awake g) p rest o.0 o.2.1 o.1) ∙ none in
          absurd cc
      | no h ↦ omega (arith, h)
    ]

-- a process at distance 0 is alone its chosen path
chosen_alone : (g : Graph) (p : ℕ) → distance_of g p ≡ Some 0 → IsChosenPath g p (p ∷ [])
unfolding distance_of
chosen_alone g p e = record {
  awake = (p, passes_itself g (is_awake g) p e, (refl, refl));
  shortest = λ other o. way_out_length g p 0 other e o;
  least = λ other o same. alone g p other o.0 o.2 same;
}
  where
    alone : (g : Graph) (p : ℕ) (other : List ℕ) (q : ℕ) → IsPath g p q other → length other ≡ 1
        → is_lt (slice_cmp nat_cmp other (p ∷ [])) ≡ false
    alone g p [] q w same = absurd w
    alone g p (x ∷ []) q w same = rw (sym (nat_cmp_is x p Equal w.0)) refl
    alone g p (x ∷ y ∷ rest) q w same = absurd (omega (arith, same))

-- where p is at distance n + 1, a dependency of p with a path of n dependencies to an awake process is at distance n
next_distance : (g : Graph) (p s n : ℕ) (tail : List ℕ) (q : ℕ) → IsWithinGraph g → p < process_count g
    → distance_of g p ≡ Some (suc n) → Depends g p s → Leads g s tail q → is_awake g q ≡ true → length tail ≡ n
    → distance_of g s ≡ Some n
unfolding distance_of
next_distance g p s n tail q w i e d l a size =
    let k = near_then g (is_awake g) w s (length tail) (depends_within g w p s i d)
    (listed g (is_awake g) s tail q l a) in
    let on = steps_on g (is_awake g) w p s k.0 i d k.2 in
    let far : on.0 ≡ suc n = ap (λ o. unwrap_or o 0) (sym on.2 ∙ e) in
    let is : k.0 ≡ n = omega (arith, far, on.1, k.1, size) in
    k.2 ∙ ap (λ m. Some m) is

-- a list that begins with no less a number than another is not less, if it isn't where these are equal
later_than : (s x : ℕ) (tail rest : List ℕ) → x ≤ s → (s ≡ x → is_lt (slice_cmp nat_cmp (s ∷ tail) (x ∷ rest)) ≡ false)
    → is_lt (slice_cmp nat_cmp (s ∷ tail) (x ∷ rest)) ≡ false
later_than s x tail rest l h =
    elim (dec_lt x s) [
      | yes k ↦ rw (sym (nat_cmp_is s x Greater k)) refl
      | no k ↦ h (omega (arith, k, l))
    ]

-- The chosen path continues with the least of the nearer dependencies, by its chosen path.
chosen_more : (g : Graph) (p r n : ℕ) (path : List ℕ) → IsWithinGraph g → p < process_count g
    → distance_of g p ≡ Some (suc n) → Depends g p r → distance_of g r ≡ Some n
    → ((s : ℕ) → Depends g p s → distance_of g s ≡ Some n → r ≤ s) → IsChosenPath g r path → IsChosenPath g p (p ∷ path)
chosen_more g p r n [] w i e d f least c = absurd c.awake.2
chosen_more g p r n (x ∷ rest) w i e d f least c =
    let size = chosen_length g r n (x ∷ rest) f c in
    let q = c.awake.0 in
    let is : x ≡ r = c.awake.2.0 in
    record {
      awake = (
        q,
        c.awake.1,
        (refl, (subst (λ z. Depends g p z) (sym is) d, subst (λ z. Leads g z rest q) (sym is) c.awake.2.1)),
      );
      shortest = λ other o. omega (arith, way_out_length g p (suc n) other e o, size);
      least = λ other o same. not_less g p r n x rest other o.0 w i e least c size is o.1 o.2 same;
    }
  where
    not_less : (g : Graph) (p r n x : ℕ) (rest other : List ℕ) (q : ℕ) → IsWithinGraph g → p < process_count g
        → distance_of g p ≡ Some (suc n) → ((s : ℕ) → Depends g p s → distance_of g s ≡ Some n → r ≤ s)
        → IsChosenPath g r (x ∷ rest) → length (x ∷ rest) ≡ suc n → x ≡ r → is_awake g q ≡ true → IsPath g p q other
        → length other ≡ length (p ∷ x ∷ rest) → is_lt (slice_cmp nat_cmp other (p ∷ x ∷ rest)) ≡ false
    not_less g p r n x rest [] q w i e least c size is a o same = absurd o
    not_less g p r n x rest (y ∷ []) q w i e least c size is a o same = absurd (omega (arith, same))
    not_less g p r n x rest (y ∷ s ∷ tail) q w i e least c size is a o same =
        let short : length tail ≡ n = omega (arith, same, size) in
        let d : Depends g p s = o.1.0 in
        let near = next_distance g p s n tail q w i e d o.1.1 a short in
        let after : x ≤ s = omega (arith, least s d near, is) in
        rw (sym (nat_cmp_is y p Equal o.0))
        (later_than s x tail rest after (λ h.
        c.least (s ∷ tail) (q, a, (h ∙ is, subst (λ z. Leads g z tail q) (h ∙ is) o.1.1)) (omega (arith, short, size))))

-- ---- the path so far

-- The path so far ends with the last process, which is at this distance, and each chosen path from there completes it.
pub record LeadsOn (g : Graph) (p n : ℕ) (path : List ℕ) (last : ℕ) : Type 0 where
  pub within : last < process_count g
  pub distance : distance_of g last ≡ Some n
  pub front : List ℕ
  pub is : path ≡ front ++ last ∷ []
  pub completes : (rest : List ℕ) → IsChosenPath g last rest → IsChosenPath g p (front ++ rest)

-- a list of all distances has at a place the distance of the process there
distance_read : (g : Graph) (distances : List (Option ℕ)) (q : ℕ) → distances ≡ map (distance_of g) (indices g)
    → q < process_count g → number_at distances q ≡ distance_of g q
distance_read g distances q e l = by_index g (distance_of g) distances q None e l

-- a distance in a list of all distances is below the number of processes
pub distance_within : (g : Graph) (p n : ℕ) (distances : List (Option ℕ)) (o : Option ℕ) → p < process_count g
    → distances ≡ map (distance_of g) (indices g) → o ≡ get_or distances p o → o ≡ Some n → n < process_count g
unfolding distance_of
distance_within g p n distances o i e f s =
    steps_within g (is_awake g) p n (sym (by_index g (distance_of g) distances p o e i) ∙ sym f ∙ s)

-- at first the path so far is p alone, and each chosen path from p completes it
pub leads_start : (g : Graph) (p n : ℕ) (path : List ℕ) (distances : List (Option ℕ)) (o : Option ℕ)
    → p < process_count g → distances ≡ map (distance_of g) (indices g) → o ≡ get_or distances p o → o ≡ Some n
    → path ≡ [] ++ p ∷ [] → LeadsOn g p n path p
leads_start g p n path distances o i e f s is = record {
  within = i;
  distance = sym (by_index g (distance_of g) distances p o e i) ∙ sym f ∙ s;
  front = [];
  is = is;
  completes = λ rest c. c;
}

-- a process at distance m + 1 has a dependent at distance m
nearer_dependent : (g : Graph) (p m : ℕ) (row : List ℕ) (distances : List (Option ℕ)) → IsWellFormed g
    → p < process_count g → distance_of g p ≡ Some (m + 1) → row ≡ dependents_of g p
    → distances ≡ map (distance_of g) (indices g)
    → (q : ℕ) × Contains row q × (number_at distances q ≡ Some m)
unfolding distance_of
nearer_dependent g p m row distances w i e f a =
    let one_more : m + 1 ≡ suc m = omega arith in
    let back = steps_back g (is_awake g) w.within p m i (e ∙ ap (λ k. Some k) one_more) in
    let here = depends_within g w.within p back.0 i back.1 in (
      back.0,
      subst (λ xs. Contains xs back.0) (sym f) back.1.1,
      (unfold distance_of in distance_read g distances back.0 a here) ∙ back.2,
    )

-- a process at distance m + 1 has a least dependent at distance m
pub nearest_some : (g : Graph) (p m : ℕ) (row : List ℕ) (distances : List (Option ℕ)) (o : Option ℕ)
    → IsWellFormed g → p < process_count g → distance_of g p ≡ Some (m + 1) → row ≡ dependents_of g p
    → distances ≡ map (distance_of g) (indices g) → IsLeastAt m row distances o → IsSome o
nearest_some g p m row distances (Some r) w i e f a least = refl
nearest_some g p m row distances None w i e f a least =
    let q = nearer_dependent g p m row distances w i e f a in
    absurd (least q.0 q.1 q.2)

-- the only member of a list stands at its first place
only_member : (row : List ℕ) (q d : ℕ) → length row ≡ 1 → Contains row q → get_or row 0 d ≡ q
only_member [] q d e c = absurd (omega (arith, e))
only_member (x ∷ []) q d e c = elim (cons_contains x [] q c) [
  | inl is ↦ is
  | inr none ↦ absurd (omega (arith, none.1))
]
only_member (x ∷ y ∷ xs) q d e c = absurd (omega (arith, e))

-- the only dependent of a process at distance m + 1 is its least dependent at distance m
pub nearest_alone : (g : Graph) (p m d : ℕ) (row : List ℕ) (distances : List (Option ℕ)) → IsWellFormed g
    → p < process_count g → distance_of g p ≡ Some (m + 1) → row ≡ dependents_of g p
    → distances ≡ map (distance_of g) (indices g) → length row ≡ 1 → IsLeastAt m row distances (Some (get_or row 0 d))
nearest_alone g p m d row distances w i e f a one =
    let q = nearer_dependent g p m row distances w i e f a in
    let is = only_member row q.0 d one q.1 in (
      subst (λ r. Contains row r) (sym is) q.1,
      ap (number_at distances) is ∙ q.2,
      λ s c near. omega (arith, only_member row s d one c),
    )

-- the path so far continues with the least dependent that is one nearer
pub leads_on : (g : Graph) (p n m last r : ℕ) (path row : List ℕ) (distances : List (Option ℕ)) → IsWellFormed g
    → LeadsOn g p n path last → n ≡ suc m → row ≡ dependents_of g last → distances ≡ map (distance_of g) (indices g)
    → IsLeastAt m row distances (Some r) → LeadsOn g p m (path ++ r ∷ []) r
leads_on g p n m last r path row distances w h e f a least =
    let depends_on = λ (s : ℕ) (c : Contains row s). waits g last s w (subst (λ xs. Contains xs s) f c) in
    let here = depends_within g w.within last r h.within (depends_on r least.0) in
    let at = sym (distance_read g distances r a here) ∙ least.1 in
    record {
      within = here;
      distance = at;
      front = path;
      is = refl;
      completes = λ rest c.
          subst (λ xs. IsChosenPath g p xs)
          (sym (append_assoc h.front (last ∷ []) rest) ∙ ap (λ xs. xs ++ rest) (sym h.is))
          (h.completes (last ∷ rest)
          (chosen_more g last r m rest w.within h.within (h.distance ∙ ap (λ k. Some k) e) (depends_on r least.0) at
          (λ s d near. least.2 s (subst (λ xs. Contains xs s) (sym f) d.1)
          (distance_read g distances s a (depends_within g w.within last s h.within d) ∙ near))
          c));
    }

-- where the path so far has come to distance 0, it is the chosen path
pub leads_end : (g : Graph) (p n last : ℕ) (path : List ℕ) → IsWithinGraph g → p < process_count g
    → LeadsOn g p n path last → n ≤ 0 → Some path ≡ chosen_path g p
leads_end g p n last path w i h none =
    let zero_left : n ≡ 0 = omega (arith, none) in
    sym (is_chosen g p path w i
    (subst (λ xs. IsChosenPath g p xs) (sym h.is)
    (h.completes (last ∷ []) (chosen_alone g last (h.distance ∙ ap (λ k. Some k) zero_left)))))

-- a process without a distance has no chosen path
pub chosen_none : (g : Graph) (p : ℕ) (distances : List (Option ℕ)) (o : Option ℕ) → p < process_count g
    → distances ≡ map (distance_of g) (indices g) → o ≡ get_or distances p o → o ≡ None → None ≡ chosen_path g p
unfolding chosen_path
chosen_none g p distances o i e f s =
    sym (ap (λ d. option_and_then (λ n. reduce lesser_path (paths_to g (is_awake g) n p)) d)
    (sym (by_index g (distance_of g) distances p o e i) ∙ sym f ∙ s))
