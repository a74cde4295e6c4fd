-- The least number of dependencies to a process that passes a test, and its search by levels.
use Rattle.std.proofs.Common.{◌≡◌, ℕ, zero, suc, ◌<◌, ◌≤◌, ◌+◌, ◌-◌, Bool, true, false, cond, ◌⊎◌, inl, inr, List, [], ◌∷◌, ◌++◌, map, length, get_or, refl, sym, ◌∙◌, ap, subst, arith}
use Rattle.std.specs.Prelude.{Contains, filter, flat_map, find, Some, None, Option, is_some, unwrap_or}
use Rattle.std.specs.List.{range_with_len}
use Rattle.std.proofs.lemmas.List.{length-map}
use Rattle.std.proofs.lemmas.List.Elements.{Contains-get_or}
use Rattle.std.proofs.lemmas.List.FromFn.{fill_by_all}
use native.Mathlib.Decide.{dec_lt}
use Rattle.cmh_graph.specs.Graph.{IsWithinGraph, Graph, Depends, process_count, dependencies_of, indices, is_awake}
use Rattle.cmh_graph.specs.ChosenPath.{distance_of}
use Rattle.cmh_graph.specs.Path.{Leads, paths_to, is_nonempty, steps_to}
use Rattle.cmh_graph.specs.Search.{is_marked, number_at, predecessors_at, ArePredecessors, IsNamedBy, Numbers}
use Rattle.cmh_graph.proofs.PathLemmas.{Simple, simple, length_distinct, within, listed, walk, Walk, contains_index, is_some_find, nonempty_flat_map, nonempty_map, flat_map_nonempty, map_nonempty, depends, dependency, depends_within, start_by, start_nonempty, contains_cons}
use Rattle.cmh_graph.proofs.IndexLists.{by_index, by_index_agree}
use Rattle.cmh_graph.proofs.PositionLemmas.{cases_number, numbered, numbered_within}
use Rattle.cmh_graph.proofs.Verdicts.{contains_filter, filter_contains, idle_within}

-- ---- the first number that passes

-- a number from a on is a, or from a + 1 on
at_or_past : (a m : ℕ) → a ≤ m → (a ≡ m) ⊎ (a + 1 ≤ m)
at_or_past a m l = elim (dec_lt a m) [ yes h ↦ inr (omega (arith, h)) | no h ↦ inl (omega (arith, h, l)) ]

-- what is found first passes, and none before it, by cases
first_by : (t : ℕ → Bool) (a k n : ℕ) (b : Bool) → t a ≡ b
    → (find t (range_with_len (a + 1) k) ≡ Some n → (t n ≡ true) × ((m : ℕ) → a + 1 ≤ m → m < n → t m ≡ false))
    → cond b (Some a) (find t (range_with_len (a + 1) k)) ≡ Some n
    → (t n ≡ true) × ((m : ℕ) → a ≤ m → m < n → t m ≡ false)
first_by t a k n true e h s =
    let same : a ≡ n = ap (λ o. unwrap_or o 0) s in
    (subst (λ z. t z ≡ true) same e, λ m l u. absurd (omega (arith, same, l, u)))
first_by t a k n false e h s =
    let w = h s in
    (w.0, λ m l u. elim (at_or_past a m l) [ inl same ↦ subst (λ z. t z ≡ false) same e | inr more ↦ w.1 m more u ])

-- the number that is found passes, and none before it does
pub first : (t : ℕ → Bool) (a k n : ℕ) → find t (range_with_len a k) ≡ Some n
    → (t n ≡ true) × ((m : ℕ) → a ≤ m → m < n → t m ≡ false)
first t a zero n e = absurd cc
first t a (suc k) n e = first_by t a k n (t a) refl (λ s. first t (a + 1) k n s) e

-- a number that is found in a range is below the end of it, by cases
found_within_by : (t : ℕ → Bool) (a k n : ℕ) (b : Bool) → (find t (range_with_len (a + 1) k) ≡ Some n → n < a + 1 + k)
    → cond b (Some a) (find t (range_with_len (a + 1) k)) ≡ Some n → n < a + suc k
found_within_by t a k n true h s = let same : a ≡ n = ap (λ o. unwrap_or o 0) s in omega (arith, same)
found_within_by t a k n false h s = omega (arith, h s)

-- a number that is found in a range is below the end of it
found_within : (t : ℕ → Bool) (a k n : ℕ) → find t (range_with_len a k) ≡ Some n → n < a + k
found_within t a zero n e = absurd cc
found_within t a (suc k) n e = found_within_by t a k n (t a) (λ s. found_within t (a + 1) k n s) e

-- ---- the least number of dependencies

-- the least number of dependencies to a process that passes is below the number of processes
pub steps_within : (g : Graph) (test : ℕ → Bool) (p n : ℕ) → steps_to g test p ≡ Some n → n < process_count g
steps_within g test p n e = omega (arith, found_within (λ m. is_nonempty (paths_to g test m p)) 0 (process_count g) n e)

-- where a path leads to a process that passes, there is a least number of dependencies to one
pub has_steps : (g : Graph) (test : ℕ → Bool) → IsWithinGraph g → (p q : ℕ) → p < process_count g → (rest : List ℕ)
    → Leads g p rest q → test q ≡ true → is_some (steps_to g test p) ≡ true
unfolding Simple
has_steps g test w p q i rest l a =
    let s = simple g p rest q l in
    let short : length (p ∷ s.0) ≤ process_count g =
    length_distinct (process_count g) (p ∷ s.0) (within g w p s.0 q i s.1) s.2 in
    is_some_find (λ n. is_nonempty (paths_to g test n p)) (indices g) (length s.0)
    (contains_index (process_count g) (length s.0) (omega (arith, short)))
    (listed g test p s.0 q s.1 a)

-- where a path of m dependencies is listed, there is a least number of dependencies, and it is at most m
pub near_then : (g : Graph) (test : ℕ → Bool) → IsWithinGraph g → (p m : ℕ) → p < process_count g
    → is_nonempty (paths_to g test m p) ≡ true → (k : ℕ) × (k ≤ m) × (steps_to g test p ≡ Some k)
unfolding Walk
near_then g test w p m i e =
    let v = walk g test m p e in
    let s = numbered (steps_to g test p) (has_steps g test w p v.0 i v.2 v.3 v.1) in
    let f = first (λ n. is_nonempty (paths_to g test n p)) 0 (process_count g) s.0 s.1 in (
      s.0,
      elim (dec_lt m s.0) [
        | yes h ↦ let z : true ≡ false = sym e ∙ f.1 m (omega arith) h in absurd cc
        | no h ↦ omega (arith, h)
      ],
      s.1,
    )

-- a path from a dependency is one longer from the process
near_more : (g : Graph) (test : ℕ → Bool) (n p r : ℕ) → Depends g p r → is_nonempty (paths_to g test n r) ≡ true
    → is_nonempty (paths_to g test (suc n) p) ≡ true
near_more g test n p r d e =
    flat_map_nonempty (λ r. map (λ path. p ∷ path) (paths_to g test n r)) (dependencies_of g p) r (dependency g p r d)
    (map_nonempty (λ path. p ∷ path) (paths_to g test n r) e)

-- a path of the least number of dependencies is listed
pub near : (g : Graph) (test : ℕ → Bool) (p n : ℕ) → steps_to g test p ≡ Some n
    → is_nonempty (paths_to g test n p) ≡ true
near g test p n e = (first (λ m. is_nonempty (paths_to g test m p)) 0 (process_count g) n e).0

-- where p depends on q, the least number of dependencies from p is at most one more than that from q
pub steps_on : (g : Graph) (test : ℕ → Bool) → IsWithinGraph g → (p q n : ℕ) → p < process_count g → Depends g p q
    → steps_to g test q ≡ Some n → (m : ℕ) × (m ≤ suc n) × (steps_to g test p ≡ Some m)
steps_on g test w p q n i d e = near_then g test w p (suc n) i (near_more g test n p q d (near g test q n e))

-- a process from which the least number of dependencies is n + 1 depends on one from which it is n
pub steps_back : (g : Graph) (test : ℕ → Bool) → IsWithinGraph g → (p n : ℕ) → p < process_count g
    → steps_to g test p ≡ Some (suc n) → (r : ℕ) × Depends g p r × (steps_to g test r ≡ Some n)
steps_back g test w p n i e =
    let f = first (λ m. is_nonempty (paths_to g test m p)) 0 (process_count g) (suc n) e in
    let v = nonempty_flat_map (λ r. map (λ path. p ∷ path) (paths_to g test n r)) (dependencies_of g p) f.0 in
    let d = depends g p v.0 v.1 in
    let k = near_then g test w v.0 n (depends_within g w p v.0 i d)
    (nonempty_map (λ path. p ∷ path) (paths_to g test n v.0) v.2) in
    elim (dec_lt k.0 n) [
      | yes h ↦ let z : true ≡ false = sym (near_more g test k.0 p v.0 d (near g test v.0 k.0 k.2))
          ∙ f.1 (suc k.0) (omega arith) (omega (arith, h)) in absurd cc
      | no h ↦ let same : k.0 ≡ n = omega (arith, h, k.1) in (v.0, d, k.2 ∙ ap (λ m. Some m) same)
    ]

-- from a process that passes the test itself the least number of dependencies is 0
steps_none : (g : Graph) (test : ℕ → Bool) → IsWithinGraph g → (p : ℕ) → p < process_count g → test p ≡ true
    → steps_to g test p ≡ Some 0
steps_none g test w p i e =
    let k = near_then g test w p 0 i (start_nonempty p (test p) e) in
    let same : k.0 ≡ 0 = omega (arith, k.1) in
    k.2 ∙ ap (λ m. Some m) same

-- a process from which the least number of dependencies is 0 passes the test itself
pub passes_itself : (g : Graph) (test : ℕ → Bool) (p : ℕ) → steps_to g test p ≡ Some 0 → test p ≡ true
passes_itself g test p e = start_by test p (test p) (near g test p 0 e)

-- ---- tests that agree within the graph

-- functions that agree on the members join the same lists
flat_map_agree : (f h : ℕ → List (List ℕ)) (xs : List ℕ) → ((r : ℕ) → Contains xs r → f r ≡ h r)
    → flat_map f xs ≡ flat_map h xs
flat_map_agree f h [] e = refl
flat_map_agree f h (x ∷ xs) e =
    λ i. e x (zero, omega arith, refl) i ++ flat_map_agree f h xs (λ r c. e r (contains_cons x xs r c)) i

-- tests that agree within the graph list the same paths
paths_agree : (g : Graph) (t u : ℕ → Bool) → IsWithinGraph g → ((r : ℕ) → r < process_count g → t r ≡ u r) → (n p : ℕ)
    → p < process_count g → paths_to g t n p ≡ paths_to g u n p
paths_agree g t u w e zero p i = ap (λ b. cond b ((p ∷ []) ∷ []) []) (e p i)
paths_agree g t u w e (suc n) p i =
    flat_map_agree (λ r. map (λ path. p ∷ path) (paths_to g t n r)) (λ r. map (λ path. p ∷ path) (paths_to g u n r))
    (dependencies_of g p)
    (λ r c. ap (map (λ path. p ∷ path)) (paths_agree g t u w e n r (depends_within g w p r i (depends g p r c))))

-- tests that agree within the graph give one least number of dependencies
steps_agree : (g : Graph) (t u : ℕ → Bool) → IsWithinGraph g → ((r : ℕ) → r < process_count g → t r ≡ u r) → (p : ℕ)
    → p < process_count g → steps_to g t p ≡ steps_to g u p
steps_agree g t u w e p l = λ i. find (λ n. is_nonempty (paths_agree g t u w e n p l i)) (indices g)

-- ---- the search by levels

-- The list has the least number of dependencies of each process where it is up to n, and the level has the processes
-- where it is n.
pub record StepsUpTo (g : Graph) (test : ℕ → Bool) (n : ℕ) (steps : List (Option ℕ)) (level : List ℕ) : Type 0 where
  pub size : length steps ≡ process_count g
  pub sound : (p d : ℕ) → number_at steps p ≡ Some d → (steps_to g test p ≡ Some d) × (d ≤ n)
  pub complete : (p d : ℕ) → p < process_count g → steps_to g test p ≡ Some d → d ≤ n → number_at steps p ≡ Some d
  pub members : (q : ℕ) → Contains level q → (q < process_count g) × (steps_to g test q ≡ Some n)
  level_has : (q : ℕ) → q < process_count g → steps_to g test q ≡ Some n → Contains level q

-- in a list that numbers the marked places 0, a place has a number just where it is marked
number_of_mark : (marks : List Bool) (p : ℕ)
    → number_at (map (λ b. cond b (Some 0) None) marks) p ≡ cond (is_marked marks p) (Some 0) None
number_of_mark [] p = refl
number_of_mark (b ∷ bs) zero = refl
number_of_mark (b ∷ bs) (suc p) = number_of_mark bs p

-- a marked place is one of the list
pub marked_within : (marks : List Bool) (p : ℕ) → is_marked marks p ≡ true → p < length marks
marked_within [] p e = absurd cc
marked_within (b ∷ bs) zero e = omega arith
marked_within (b ∷ bs) (suc p) e = omega (arith, marked_within bs p e)

-- a number that stands where a mark does is 0
zero_if_true : (b : Bool) (d : ℕ) → cond b (Some 0) None ≡ Some d → (b ≡ true) × (d ≡ 0)
zero_if_true true d e = (refl, sym (ap (λ o. unwrap_or o 0) e))
zero_if_true false d e = absurd cc

-- at first the marked processes are numbered 0, and they are the level
marked_start : (g : Graph) (marks : List Bool) → IsWithinGraph g → length marks ≡ process_count g
    → StepsUpTo g (is_marked marks) 0 (map (λ b. cond b (Some 0) None) marks)
    (filter (is_marked marks) (range_with_len 0 (length marks)))
marked_start g marks w size = record {
  size = length-map marks (λ b. cond b (Some 0) None) ∙ size;
  sound = λ p d e.
      let both = zero_if_true (is_marked marks p) d (sym (number_of_mark marks p) ∙ e) in
      let here : p < process_count g = omega (arith, marked_within marks p both.0, size) in
      (steps_none g (is_marked marks) w p here both.0 ∙ ap (λ m. Some m) (sym both.1), omega (arith, both.1));
  complete = λ p d i e l.
      let none : d ≡ 0 = omega (arith, l) in
      let passes = passes_itself g (is_marked marks) p (e ∙ ap (λ m. Some m) none) in
      number_of_mark marks p ∙ ap (λ b. cond b (Some 0) None) passes ∙ ap (λ m. Some m) (sym none);
  members = λ q c.
      let both = filter_contains (is_marked marks) (range_with_len 0 (length marks)) q c in
      let here : q < process_count g = omega (arith, marked_within marks q both.1, size) in
      (here, steps_none g (is_marked marks) w q here both.1);
  level_has = λ q i e. contains_filter (is_marked marks) (range_with_len 0 (length marks)) q
      (contains_index (length marks) q (omega (arith, i, size))) (passes_itself g (is_marked marks) q e);
}

-- at first a list that numbers the marked processes 0, with these as the level, has the least numbers up to 0
pub steps_start : (g : Graph) (marks : List Bool) (steps : List (Option ℕ)) (level : List ℕ) → IsWithinGraph g
    → length marks ≡ process_count g → steps ≡ map (λ b. cond b (Some 0) None) marks
    → level ≡ filter (is_marked marks) (range_with_len 0 (length marks)) → StepsUpTo g (is_marked marks) 0 steps level
steps_start g marks steps level w size e f =
    subst (λ xs. StepsUpTo g (is_marked marks) 0 xs level) (sym e)
    (subst (λ xs. StepsUpTo g (is_marked marks) 0 (map (λ b. cond b (Some 0) None) marks) xs) (sym f)
    (marked_start g marks w size))

-- where two numbers that are there are equal as options, they are equal
some_same : (a b : ℕ) → Some a ≡ Some b → a ≡ b
some_same a b e = ap (λ o. unwrap_or o 0) e

-- once a level is numbered, each number is the least number of dependencies of its process
level_sound : (g : Graph) (test : ℕ → Bool) (n m : ℕ) (lists : List (List ℕ)) (old new : List (Option ℕ))
    (level next : List ℕ) → IsWithinGraph g → ArePredecessors g lists → m ≡ suc n → StepsUpTo g test n old level
    → Numbers (IsNamedBy lists level) m old new [] next → (p d : ℕ) → number_at new p ≡ Some d
    → (steps_to g test p ≡ Some d) × (d ≤ m)
level_sound g test n m lists old new level next w pre e s h p d f =
    elim (cases_number (number_at old p)) [
      | inl k ↦ let same = some_same d k.0 (sym f ∙ h.kept p k.0 k.1) in
          let was = s.sound p k.0 k.1 in
          (was.0 ∙ ap (λ z. Some z) (sym same), omega (arith, was.1, same, e))
      | inr k ↦ let made = h.made p d k f in
          let here : p < process_count g = omega (arith, numbered_within new p d f, h.size, s.size) in
          let q = made.1.0 in
          let on = steps_on g test w p q n here (pre.sound p q made.1.2) (s.members q made.1.1).1 in
          elim (dec_lt n on.0) [
            | yes l ↦ let same : on.0 ≡ d =
                omega (arith, on.1, l, e, made.0) in (on.2 ∙ ap (λ z. Some z) same, omega (arith, made.0))
            | no l ↦ let bad : None ≡ Some on.0 = sym k ∙ s.complete p on.0 here on.2 (omega (arith, l)) in absurd cc
          ]
    ]

-- once a level is numbered, each process has its least number of dependencies where that is up to m
level_complete : (g : Graph) (test : ℕ → Bool) (n m : ℕ) (lists : List (List ℕ)) (old new : List (Option ℕ))
    (level next : List ℕ) → IsWithinGraph g → ArePredecessors g lists → m ≡ suc n → StepsUpTo g test n old level
    → Numbers (IsNamedBy lists level) m old new [] next → (p d : ℕ) → p < process_count g
    → steps_to g test p ≡ Some d → d ≤ m → number_at new p ≡ Some d
level_complete g test n m lists old new level next w pre e s h p d i f l =
    elim (dec_lt n d) [
      | yes k ↦ let is : d ≡ suc n = omega (arith, k, l, e) in
          let back = steps_back g test w p n i (f ∙ ap (λ z. Some z) is) in
          let q = back.0 in
          let at = s.level_has q (depends_within g w p q i back.1) back.2 in
          let got = numbered (number_at new p) (h.named p (q, at, pre.complete p q back.1)) in
          let right = level_sound g test n m lists old new level next w pre e s h p got.0 got.1 in
          got.1 ∙ sym right.0 ∙ f
      | no k ↦ h.kept p d (s.complete p d i f (omega (arith, k)))
    ]

-- once the predecessors of a level are numbered, the list has the least numbers up to one more
pub steps_more : (g : Graph) (test : ℕ → Bool) (n m : ℕ) (lists : List (List ℕ)) (old new : List (Option ℕ))
    (level next : List ℕ) → IsWithinGraph g → ArePredecessors g lists → m ≡ suc n → StepsUpTo g test n old level
    → Numbers (IsNamedBy lists level) m old new [] next → StepsUpTo g test m new next
steps_more g test n m lists old new level next w pre e s h = record {
  size = h.size ∙ s.size;
  sound = level_sound g test n m lists old new level next w pre e s h;
  complete = level_complete g test n m lists old new level next w pre e s h;
  members = λ q c. elim (h.only q c) [
    | inl d ↦ absurd (omega (arith, d.1))
    | inr d ↦ (
      omega (arith, numbered_within new q m d.1, h.size, s.size),
      (level_sound g test n m lists old new level next w pre e s h q m d.1).0,
    )
  ];
  level_has = λ q i f.
      let got = level_complete g test n m lists old new level next w pre e s h q m i f (omega arith) in
      elim (cases_number (number_at old q)) [
        | inl k ↦ let was = s.sound q k.0 k.1 in
            let same = some_same k.0 m (sym was.0 ∙ f) in
            absurd (omega (arith, was.1, same, e))
        | inr k ↦ (h.made q m k got).2
      ];
}

-- each member of a level has a list of predecessors
pub level_listed : (g : Graph) (test : ℕ → Bool) (n : ℕ) (lists : List (List ℕ)) (steps : List (Option ℕ))
    (level xs : List ℕ) → ArePredecessors g lists → StepsUpTo g test n steps level → xs ≡ level → (k d : ℕ)
    → k < length xs → get_or xs k d < length lists
level_listed g test n lists steps level xs pre s e k d l =
    let c : Contains level (get_or xs k d) = subst (λ zs. Contains zs (get_or xs k d)) e (Contains-get_or xs k d l) in
    omega (arith, (s.members (get_or xs k d) c).0, pre.size)

-- a listed predecessor is a process of the graph
pub listed_within : (g : Graph) (lists : List (List ℕ)) (q : ℕ) (row : List ℕ) (n : ℕ) → ArePredecessors g lists
    → row ≡ predecessors_at lists q → n ≡ process_count g → (k d : ℕ) → k < length row → get_or row k d < n
listed_within g lists q row n pre e f k d l =
    let p = get_or row k d in
    let c = subst (λ xs. Contains xs p) e (Contains-get_or row k d l) in
    omega (arith, idle_within g p (pre.sound p q c).0, f)

-- where some process needs k + n dependencies to one that passes, some process needs n
steps_between : (g : Graph) (test : ℕ → Bool) → IsWithinGraph g → (n k p : ℕ) → p < process_count g
    → steps_to g test p ≡ Some (k + n) → (q : ℕ) × (q < process_count g) × (steps_to g test q ≡ Some n)
steps_between g test w n zero p i e =
    let same : 0 + n ≡ n = omega arith in
    (p, i, e ∙ ap (λ z. Some z) same)
steps_between g test w n (suc k) p i e =
    let same : suc k + n ≡ suc (k + n) = omega arith in
    let back = steps_back g test w p (k + n) i (e ∙ ap (λ z. Some z) same) in
    steps_between g test w n k back.0 (depends_within g w p back.0 i back.1) back.2

-- a level that has members is below the number of processes
pub level_below : (g : Graph) (test : ℕ → Bool) (n : ℕ) (steps : List (Option ℕ)) (level : List ℕ) → 0 < length level
    → StepsUpTo g test n steps level → n < process_count g
level_below g test n steps level l s =
    let q = get_or level 0 0 in
    steps_within g test q n (s.members q (Contains-get_or level 0 0 l)).1

-- where a level is empty, none is past it, so the least numbers of all processes are found
pub steps_end : (g : Graph) (test : ℕ → Bool) (n : ℕ) (steps : List (Option ℕ)) (level : List ℕ) → IsWithinGraph g
    → length level ≡ 0 → StepsUpTo g test n steps level → steps ≡ map (steps_to g test) (indices g)
steps_end g test n steps level w none s =
    fill_by_all (steps_to g test) steps (process_count g) None s.size
    (λ p i. elim (cases_number (steps_to g test p)) [
      | inl k ↦ s.complete p k.0 i k.1 (up_to_level p i k.0 k.1) ∙ sym k.1
      | inr k ↦ elim (cases_number (number_at steps p)) [
        | inl j ↦ let bad : None ≡ Some j.0 = sym k ∙ (s.sound p j.0 j.1).0 in absurd cc
        | inr j ↦ j ∙ sym k
      ]
    ])
  where
    up_to_level : (p : ℕ) → p < process_count g → (d : ℕ) → steps_to g test p ≡ Some d → d ≤ n
    up_to_level p i d e =
        elim (dec_lt n d) [
          | yes more ↦
              let sum : d ≡ (d - n) + n = omega (arith, more) in
              let at = steps_between g test w n (d - n) p i (e ∙ ap (λ z. Some z) sum) in
              absurd (omega (arith, none, (s.level_has at.0 at.1 at.2).1))
          | no less ↦ omega (arith, less)
        ]

-- ---- the distance

-- the least numbers of dependencies to marked processes are the distances where the awake ones are marked
pub steps_to_awake : (g : Graph) (marks : List Bool) → IsWithinGraph g → marks ≡ map (is_awake g) (indices g)
    → map (steps_to g (is_marked marks)) (indices g) ≡ map (distance_of g) (indices g)
unfolding distance_of
steps_to_awake g marks w e =
    by_index_agree g (steps_to g (is_marked marks)) (steps_to g (is_awake g)) None
    (steps_agree g (is_marked marks) (is_awake g) w (λ r l. by_index g (is_awake g) marks r false e l))
