-- Lists that places join, and numbers that places are given.
use Rattle.std.proofs.Common.{◌≡◌, ◌≢◌, Bool, true, false, not, cond, ℕ, zero, suc, ◌+◌, ◌<◌, ◌≤◌, ◌⊎◌, ◌↔◌, inl, inr, List, [], ◌∷◌, ◌++◌, map, take, length, get_or, set, refl, sym, ◌∙◌, ap, append-nil, subst, arith, eqb, eqb-true, eq-eqb}
use Rattle.std.specs.Prelude.{Contains, filter, MatchOption, Option, Some, None, is_some, IsSome}
use Rattle.std.specs.Option.{option_eq}
use Rattle.std.specs.Global.{Vec}
use Rattle.std.proofs.lemmas.Bool.{cases_eq, cases_lt}
use Rattle.std.proofs.lemmas.List.{length_push, get_or-map, map-set, get_or-set_same, get_or-set_other, length-set, length-map, take_more}
use Rattle.std.proofs.lemmas.List.Elements.{Contains-append_left, Contains-append_right, Contains-append_cases, Contains-push, Contains-push_cases, filter_more}
use Rattle.std.proofs.lemmas.List.Sums.{sum_by-set}
use Rattle.cmh_graph.specs.Build.{IsWellFormed}
use Rattle.cmh_graph.specs.Graph.{Graph, Depends, dependents_of, is_idle, process_count}
use Rattle.cmh_graph.specs.Search.{is_marked, list_at, number_at, predecessors_at, unmarked_count, ArePredecessors, JoinsEach, IsLeastAt, IsNamedBy, MarksEach, Numbers}
use Rattle.cmh_graph.proofs.PathLemmas.{cons_contains}
use Rattle.cmh_graph.proofs.Verdicts.{idle_within}

-- ---- a list that is one longer

-- what the first i + 1 elements of a list have is the one at i, or the first i have it
pub taken_more : (xs : List ℕ) (i q : ℕ) → i < length xs → Contains (take (i + 1) xs) q
    → Contains (take i xs) q ⊎ (q ≡ get_or xs i 0)
taken_more xs i q l c =
    elim (Contains-push_cases (take i xs) (get_or xs i 0) q (subst (λ ys. Contains ys q) (take_more xs i 0 l) c)) [
      | inl d ↦ inl d
      | inr e ↦ inr (sym e)
    ]

-- what the first i elements of a list have, the first i + 1 have
pub taken_stays : (xs : List ℕ) (i q : ℕ) → i < length xs → Contains (take i xs) q → Contains (take (i + 1) xs) q
taken_stays xs i q l c =
    subst (λ ys. Contains ys q) (sym (take_more xs i 0 l)) (Contains-append_left (take i xs) (get_or xs i 0 ∷ []) q c)

-- the first i + 1 elements of a list have the one at i
pub taken_last : (xs : List ℕ) (i q : ℕ) → i < length xs → q ≡ get_or xs i 0 → Contains (take (i + 1) xs) q
taken_last xs i q l e =
    subst (λ ys. Contains ys q) (sym (take_more xs i 0 l))
    (subst (λ z. Contains (take i xs ++ get_or xs i 0 ∷ []) z) (sym e) (Contains-push (take i xs) (get_or xs i 0)))

-- a filter of the first i + 1 members of a list adds the one at i to that of the first i where it passes
filtered_more : (t : ℕ → Bool) (xs : List ℕ) (i : ℕ) (b : Bool) → i < length xs → b ≡ t (get_or xs i 0)
    → filter t (take (i + 1) xs) ≡ filter t (take i xs) ++ cond b (get_or xs i 0 ∷ []) []
filtered_more t xs i b l e =
    filter_more t xs i 0 l ∙ ap (λ c. filter t (take i xs) ++ cond c (get_or xs i 0 ∷ []) []) (sym e)

-- ---- marks

-- a mark makes one unmarked place fewer
pub count_marked : (marks : List Bool) (p : ℕ) → p < length marks → is_marked marks p ≡ false
    → unmarked_count (set marks p true) + 1 ≡ unmarked_count marks
count_marked marks p l e =
    let change = sum_by-set (λ mark. cond {A = ℕ} (not mark) 1 0) marks p true false l in
    let was = ap (λ b. cond {A = ℕ} (not b) 1 0) e in
    omega (arith, change, was)

-- a mark at one place keeps the others
pub mark_keeps : (marks : List Bool) (x p : ℕ) → x < length marks → is_marked marks p ≡ true
    → is_marked (set marks x true) p ≡ true
mark_keeps marks x p l e = elim (cases_eq p x) [
  | inl h ↦ ap (is_marked (set marks x true)) h ∙ get_or-set_same marks x true false l
  | inr h ↦ get_or-set_other marks x p true false h ∙ e
]

-- a member more that is marked already leaves the marks and the pending places as they are
marks_stay : (xs : List ℕ) (x : ℕ) (old marks : List Bool) (before pending : List ℕ)
    → MarksEach xs old marks before pending → is_marked marks x ≡ true
    → MarksEach (xs ++ x ∷ []) old marks before pending
marks_stay xs x old marks before pending h k = record {
  size = h.size;
  kept = h.kept;
  marked = λ p c. elim (Contains-push_cases xs x p c) [
    | inl d ↦ h.marked p d
    | inr e ↦ ap (is_marked marks) (sym e) ∙ k
  ];
  made = λ p m. elim (h.made p m) [
    | inl o ↦ inl o
    | inr o ↦ inr (Contains-append_left xs (x ∷ []) p o.0, o.1)
  ];
  stays = h.stays;
  only = h.only;
  count = h.count;
}

-- a member more that is marked now becomes pending
marks_one : (xs : List ℕ) (x : ℕ) (old marks : List Bool) (before pending : List ℕ)
    → MarksEach xs old marks before pending → x < length marks → is_marked marks x ≡ false
    → MarksEach (xs ++ x ∷ []) old (set marks x true) before (pending ++ x ∷ [])
marks_one xs x old marks before pending h m k =
    let here : is_marked (set marks x true) x ≡ true = get_or-set_same marks x true false m in
    record {
      size = length-set marks x true ∙ h.size;
      kept = λ p o. mark_keeps marks x p m (h.kept p o);
      marked = λ p c. elim (Contains-push_cases xs x p c) [
        | inl d ↦ mark_keeps marks x p m (h.marked p d)
        | inr e ↦ ap (is_marked (set marks x true)) (sym e) ∙ here
      ];
      made = λ p n. elim (cases_eq p x) [
        | inl e ↦ inr (
          subst (λ z. Contains (xs ++ x ∷ []) z) (sym e) (Contains-push xs x),
          subst (λ z. Contains (pending ++ x ∷ []) z) (sym e) (Contains-push pending x),
        )
        | inr e ↦ elim (h.made p (sym (get_or-set_other marks x p true false e) ∙ n)) [
          | inl o ↦ inl o
          | inr o ↦ inr (Contains-append_left xs (x ∷ []) p o.0, Contains-append_left pending (x ∷ []) p o.1)
        ]
      ];
      stays = λ p c. Contains-append_left pending (x ∷ []) p (h.stays p c);
      only = λ p c. elim (Contains-push_cases pending x p c) [
        | inl d ↦ elim (h.only p d) [ inl o ↦ inl o | inr o ↦ inr (mark_keeps marks x p m o) ]
        | inr e ↦ inr (ap (is_marked (set marks x true)) (sym e) ∙ here)
      ];
      count = omega (arith, h.count, count_marked marks x m k, length_push pending x);
    }

-- what is said of a list, of marks and of pending places holds of equal ones too
marks_are : (xs ys : List ℕ) (old marks new : List Bool) (before pending after : List ℕ) → ys ≡ xs → new ≡ marks
    → after ≡ pending → MarksEach xs old marks before pending → MarksEach ys old new before after
marks_are xs ys old marks new before pending after d e f h =
    subst (λ zs. MarksEach zs old new before after) (sym d)
    (subst (λ m. MarksEach xs old m before after) (sym e)
    (subst (λ zs. MarksEach xs old marks before zs) (sym f) h))

-- where the next place of a list is marked already, all places up to it are marked without a change
pub marks_kept_more : (i : ℕ) (list : List ℕ) (old marks new : List Bool) (before xs after : List ℕ) → i < length list
    → MarksEach (take i list) old marks before xs → is_marked marks (get_or list i 0) ≡ true → new ≡ marks → after ≡ xs
    → MarksEach (take (i + 1) list) old new before after
marks_kept_more i list old marks new before xs after l h k e f =
    marks_are _ _ old marks new before xs after (take_more list i 0 l) e f
    (marks_stay (take i list) (get_or list i 0) old marks before xs h k)

-- where the next place of a list is marked now and becomes pending, all places up to it are marked
pub marks_more : (i : ℕ) (list : List ℕ) (old marks new : List Bool) (before xs after : List ℕ) → i < length list
    → MarksEach (take i list) old marks before xs → get_or list i 0 < length marks
    → is_marked marks (get_or list i 0) ≡ false → new ≡ set marks (get_or list i 0) true
    → after ≡ xs ++ get_or list i 0 ∷ [] → MarksEach (take (i + 1) list) old new before after
marks_more i list old marks new before xs after l h m k e f =
    marks_are _ _ old _ new before _ after (take_more list i 0 l) e f
    (marks_one (take i list) (get_or list i 0) old marks before xs h m k)

-- where the next place of a list passes the test and is marked already, those that pass up to it are marked without a
-- change
pub marks_inside_kept : (t : ℕ → Bool) (i : ℕ) (list : List ℕ) (old marks new : List Bool) (before xs after : List ℕ)
    → i < length list → MarksEach (filter t (take i list)) old marks before xs → t (get_or list i 0) ≡ true
    → is_marked marks (get_or list i 0) ≡ true → new ≡ marks → after ≡ xs
    → MarksEach (filter t (take (i + 1) list)) old new before after
marks_inside_kept t i list old marks new before xs after l h b k e f =
    marks_are _ _ old marks new before xs after (filtered_more t list i true l (sym b)) e f
    (marks_stay (filter t (take i list)) (get_or list i 0) old marks before xs h k)

-- where the next place of a list passes the test, is marked now and becomes pending, those that pass up to it are
-- marked
pub marks_inside_more : (t : ℕ → Bool) (i : ℕ) (list : List ℕ) (old marks new : List Bool) (before xs after : List ℕ)
    → i < length list → MarksEach (filter t (take i list)) old marks before xs → t (get_or list i 0) ≡ true
    → get_or list i 0 < length marks → is_marked marks (get_or list i 0) ≡ false
    → new ≡ set marks (get_or list i 0) true → after ≡ xs ++ get_or list i 0 ∷ []
    → MarksEach (filter t (take (i + 1) list)) old new before after
marks_inside_more t i list old marks new before xs after l h b m k e f =
    marks_are _ _ old _ new before _ after (filtered_more t list i true l (sym b)) e f
    (marks_one (filter t (take i list)) (get_or list i 0) old marks before xs h m k)

-- where the next place of a list doesn't pass the test, those that pass up to it are marked without a change
pub marks_outside : (t : ℕ → Bool) (i : ℕ) (list : List ℕ) (old marks new : List Bool) (before xs after : List ℕ)
    → i < length list → MarksEach (filter t (take i list)) old marks before xs → t (get_or list i 0) ≡ false
    → new ≡ marks → after ≡ xs → MarksEach (filter t (take (i + 1) list)) old new before after
marks_outside t i list old marks new before xs after l h b e f =
    marks_are _ _ old marks new before xs after
    (filtered_more t list i false l (sym b) ∙ append-nil (filter t (take i list))) e f h

-- ---- lists at places

-- the list at a place is that which a read of the place gives
list_at_read : (lists : List (Vec ℕ)) (r : ℕ) (v : Vec ℕ) → r < length lists → v ≡ get_or lists r v
    → list_at lists r ≡ v.items
list_at_read lists r v l e = get_or-map (λ u. u.items) lists r v [] l ∙ ap (λ u. u.items) (sym e)

-- a write puts its list at the place
list_at_written : (lists : List (Vec ℕ)) (r : ℕ) (v : Vec ℕ) → r < length lists → list_at (set lists r v) r ≡ v.items
list_at_written lists r v l =
    let m : r < length (map (λ u. u.items) lists) = subst (λ n. r < n) (sym (length-map lists (λ u. u.items))) l in
    ap (λ xss. get_or xss r []) (map-set (λ u. u.items) lists r v)
    ∙ get_or-set_same (map (λ u. u.items) lists) r v.items [] m

-- a write of a list at one place leaves the lists at the other places
list_at_other : (lists : List (Vec ℕ)) (r q : ℕ) (v : Vec ℕ) → q ≢ r → list_at (set lists r v) q ≡ list_at lists q
list_at_other lists r q v n =
    ap (λ xss. get_or xss q []) (map-set (λ u. u.items) lists r v)
    ∙ get_or-set_other (map (λ u. u.items) lists) r q v.items [] n

-- lists that are all empty stay so where an empty one is added
pub empty_more : (lists : List (Vec ℕ)) (v : Vec ℕ) → ((r : ℕ) → list_at lists r ≡ []) → v.items ≡ [] → (r : ℕ)
    → list_at (lists ++ v ∷ []) r ≡ []
empty_more [] v h e zero = e
empty_more [] v h e (suc r) = refl
empty_more (x ∷ xs) v h e zero = h zero
empty_more (x ∷ xs) v h e (suc r) = empty_more xs v (λ q. h (suc q)) e r

-- where p is written at the end of the list at r, it joins that list alone
joins_one : (p r : ℕ) (lists : List (Vec ℕ)) (v w : Vec ℕ) → r < length lists → v ≡ get_or lists r v
    → w.items ≡ v.items ++ p ∷ [] → JoinsEach p (r ∷ []) lists (set lists r w)
joins_one p r lists v w l e f =
    let old = list_at_read lists r v l e in
    let new : list_at (set lists r w) r ≡ v.items ++ p ∷ [] = list_at_written lists r w l ∙ f in
    record {
      size = length-set lists r w;
      kept = λ s q c. elim (cases_eq s r) [
        | inl h ↦ subst (λ z. Contains (list_at (set lists r w) z) q) (sym h)
            (subst (λ xs. Contains xs q) (sym new) (Contains-append_left v.items (p ∷ []) q
            (subst (λ xs. Contains xs q) old (subst (λ z. Contains (list_at lists z) q) h c))))
        | inr h ↦ subst (λ xs. Contains xs q) (sym (list_at_other lists r s w h)) c
      ];
      joined = λ s c. elim (cons_contains r [] s c) [
        | inl h ↦ subst (λ z. Contains (list_at (set lists r w) z) p) h
            (subst (λ xs. Contains xs p) (sym new) (Contains-push v.items p))
        | inr d ↦ absurd (omega (arith, d.1))
      ];
      only = λ s q c. elim (cases_eq s r) [
        | inl h ↦ let d : Contains (v.items ++ p ∷ []) q =
            subst (λ xs. Contains xs q) new (subst (λ z. Contains (list_at (set lists r w) z) q) h c) in
            elim (Contains-push_cases v.items p q d) [
              | inl k ↦ inl
                  (subst (λ z. Contains (list_at lists z) q) (sym h) (subst (λ xs. Contains xs q) (sym old) k))
              | inr k ↦ inr (sym k, (0, omega arith, sym h))
            ]
        | inr h ↦ inl (subst (λ xs. Contains xs q) (list_at_other lists r s w h) c)
      ];
    }

-- where p joins the lists of some places and then those of others, it joins those of both
joins_both : (p : ℕ) (xs ys : List ℕ) (a b c : List (Vec ℕ)) → JoinsEach p xs a b → JoinsEach p ys b c
    → JoinsEach p (xs ++ ys) a c
joins_both p xs ys a b c one two = record {
  size = two.size ∙ one.size;
  kept = λ r q k. two.kept r q (one.kept r q k);
  joined = λ r k. elim (Contains-append_cases xs ys r k) [
    | inl d ↦ two.kept r p (one.joined r d)
    | inr d ↦ two.joined r d
  ];
  only = λ r q k. elim (two.only r q k) [
    | inl d ↦ elim (one.only r q d) [
      | inl e ↦ inl e
      | inr e ↦ inr (e.0, Contains-append_left xs ys r e.1)
    ]
    | inr d ↦ inr (d.0, Contains-append_right xs ys r d.1)
  ];
}

-- where p joins the list of the next place, it has joined those of all places up to it
pub joins_more : (p : ℕ) (places : List ℕ) (i : ℕ) (old lists : List (Vec ℕ)) (v w : Vec ℕ) → i < length places
    → JoinsEach p (take i places) old lists → get_or places i 0 < length lists → v ≡ get_or lists (get_or places i 0) v
    → w.items ≡ (get_or lists (get_or places i 0) v).items ++ p ∷ []
    → JoinsEach p (take (i + 1) places) old (set lists (get_or places i 0) w)
joins_more p places i old lists v w l h m e f =
    subst (λ xs. JoinsEach p xs old (set lists (get_or places i 0) w)) (sym (take_more places i 0 l))
    (joins_both p (take i places) (get_or places i 0 ∷ []) old lists (set lists (get_or places i 0) w) h
    (joins_one p (get_or places i 0) lists v w m e (f ∙ ap (λ u. u.items ++ p ∷ []) (sym e))))

-- ---- predecessors

-- The lists have the predecessors among the first n processes.
pub record PredecessorsBelow (g : Graph) (n : ℕ) (lists : List (Vec ℕ)) : Type 0 where
  pub size : length lists ≡ process_count g
  pub sound : (p r : ℕ) → Contains (list_at lists r) p → Depends g p r
  pub complete : (p r : ℕ) → p < n → Depends g p r → Contains (list_at lists r) p

-- in a well-formed graph a process with dependents is idle
waits_by : (g : Graph) (p r : ℕ) (b : Bool) → IsWellFormed g → is_idle g p ≡ b → Contains (dependents_of g p) r
    → Depends g p r
waits_by g p r true w e c = (e, c)
waits_by g p r false w e c = let none : Contains {X = ℕ} [] r =
    subst (λ xs. Contains xs r) (w.waiting p e) c in absurd (omega (arith, none.1))

-- in a well-formed graph each member of a dependent set is a dependency
pub waits : (g : Graph) (p r : ℕ) → IsWellFormed g → Contains (dependents_of g p) r → Depends g p r
waits g p r w c = waits_by g p r (is_idle g p) w refl c

-- where process n has joined the lists of its dependents, the lists have the predecessors among the first n + 1
-- processes
pub predecessors_more : (g : Graph) (n : ℕ) (old new : List (Vec ℕ)) → IsWellFormed g → PredecessorsBelow g n old
    → JoinsEach n (dependents_of g n) old new → PredecessorsBelow g (n + 1) new
predecessors_more g n old new w h j = record {
  size = j.size ∙ h.size;
  sound = λ p r c. elim (j.only r p c) [
    | inl d ↦ h.sound p r d
    | inr d ↦ subst (λ q. Depends g q r) (sym d.0) (waits g n r w d.1)
  ];
  complete = λ p r l d. elim (cases_lt p n) [
    | inl k ↦ j.kept r p (h.complete p r k d)
    | inr k ↦ let same : p ≡ n = omega (arith, k, l) in
        subst (λ q. Contains (list_at new r) q) (sym same)
        (j.joined r (subst (λ q. Contains (dependents_of g q) r) same d.1))
  ];
}

-- once all processes have joined the lists of their dependents, the lists have all predecessors
pub predecessors_all : (g : Graph) (n : ℕ) (lists : List (Vec ℕ)) → process_count g ≤ n → PredecessorsBelow g n lists
    → ArePredecessors g (map (λ v. v.items) lists)
predecessors_all g n lists l h = record {
  size = length-map lists (λ v. v.items) ∙ h.size;
  sound = h.sound;
  complete = λ p r d. h.complete p r (omega (arith, l, idle_within g p d.0)) d;
}

-- ---- numbers at places

-- a place with a number is within the list
pub numbered_within : (numbers : List (Option ℕ)) (p d : ℕ) → number_at numbers p ≡ Some d → p < length numbers
numbered_within [] p d e = absurd cc
numbered_within (x ∷ xs) zero d e = omega arith
numbered_within (x ∷ xs) (suc p) d e = omega (arith, numbered_within xs p d e)

-- there is a number, or there is none
pub cases_number : (o : Option ℕ) → ((d : ℕ) × (o ≡ Some d)) ⊎ (o ≡ None)
cases_number (Some d) = inl (d, refl)
cases_number None = inr refl

-- where the test finds a number there is one
pub numbered : (o : Option ℕ) → IsSome o → (d : ℕ) × (o ≡ Some d)
numbered (Some d) e = (d, refl)
numbered None e = absurd cc

-- where the test finds no number there is none
pub unnumbered : (o : Option ℕ) → is_some o ≡ false → o ≡ None
unnumbered (Some d) e = absurd cc
unnumbered None e = refl

-- where the one place that is named has a number already, nothing changes
numbers_kept : (n p : ℕ) (numbers : List (Option ℕ)) (xs : List ℕ) → IsSome (number_at numbers p)
    → Numbers (λ q. q ≡ p) n numbers numbers xs xs
numbers_kept n p numbers xs h = record {
  size = refl;
  kept = λ q d e. e;
  named = λ q e. subst (λ z. IsSome (number_at numbers z)) (sym e) h;
  made = λ q d e f. let z : None ≡ Some d = sym e ∙ f in absurd cc;
  stays = λ q c. c;
  only = λ q c. inl c;
}

-- where the one place that is named has no number, it gets one and joins the list
numbers_one : (n p : ℕ) (numbers : List (Option ℕ)) (xs : List ℕ) → p < length numbers → number_at numbers p ≡ None
    → Numbers (λ q. q ≡ p) n numbers (set numbers p (Some n)) xs (xs ++ p ∷ [])
numbers_one n p numbers xs l none =
    let here : number_at (set numbers p (Some n)) p ≡ Some n = get_or-set_same numbers p (Some n) None l in
    record {
      size = length-set numbers p (Some n);
      kept = λ q d e. elim (cases_eq q p) [
        | inl h ↦ let z : None ≡ Some d = sym none ∙ ap (number_at numbers) (sym h) ∙ e in absurd cc
        | inr h ↦ get_or-set_other numbers p q (Some n) None h ∙ e
      ];
      named = λ q e. ap is_some (ap (number_at (set numbers p (Some n))) e ∙ here);
      made = λ q d e f. elim (cases_eq q p) [
        | inl h ↦ let same : Some d ≡ Some n = sym f ∙ ap (number_at (set numbers p (Some n))) h ∙ here in
            (cc, h, subst (λ z. Contains (xs ++ p ∷ []) z) (sym h) (Contains-push xs p))
        | inr h ↦ let z : None ≡ Some d = sym e ∙ sym (get_or-set_other numbers p q (Some n) None h) ∙ f in absurd cc
      ];
      stays = λ q c. Contains-append_left xs (p ∷ []) q c;
      only = λ q c. elim (Contains-push_cases xs p q c) [
        | inl d ↦ inl d
        | inr e ↦ inr (ap (number_at numbers) (sym e) ∙ none, ap (number_at (set numbers p (Some n))) (sym e) ∙ here)
      ];
    }

-- where some places that are named are numbered and then others, all of them are
numbers_both : (P Q R : ℕ → Type 0) (n : ℕ) (a b c : List (Option ℕ)) (x y z : List ℕ) → ((p : ℕ) → R p → P p ⊎ Q p)
    → ((p : ℕ) → P p → R p) → ((p : ℕ) → Q p → R p) → Numbers P n a b x y → Numbers Q n b c y z → Numbers R n a c x z
numbers_both P Q R n a b c x y z split left right one two = record {
  size = two.size ∙ one.size;
  kept = λ p d e. two.kept p d (one.kept p d e);
  named = λ p h. elim (split p h) [
    | inl k ↦ let w = numbered (number_at b p) (one.named p k) in ap is_some (two.kept p w.0 w.1)
    | inr k ↦ two.named p k
  ];
  made = λ p d e f. elim (cases_number (number_at b p)) [
    | inl w ↦ let m = one.made p w.0 e w.1 in
        let same : Some d ≡ Some w.0 = sym f ∙ two.kept p w.0 w.1 in
        let is : d ≡ w.0 = cc in
        (is ∙ m.0, left p m.1, two.stays p m.2)
    | inr w ↦ let m = two.made p d w f in (m.0, right p m.1, m.2)
  ];
  stays = λ p k. two.stays p (one.stays p k);
  only = λ p k. elim (two.only p k) [
    | inl m ↦ elim (one.only p m) [
      | inl h ↦ inl h
      | inr h ↦ inr (h.0, two.kept p n h.1)
    ]
    | inr m ↦ elim (cases_number (number_at a p)) [
      | inl w ↦ let bad : None ≡ Some w.0 = sym m.0 ∙ one.kept p w.0 w.1 in absurd cc
      | inr w ↦ inr (w, m.1)
    ]
  ];
}

-- where the next place of a list has a number already, all places up to it have numbers without a change
pub numbers_kept_more : (n i : ℕ) (list : List ℕ) (old numbers new : List (Option ℕ)) (before xs after : List ℕ)
    → i < length list → Numbers (Contains (take i list)) n old numbers before xs
    → IsSome (number_at numbers (get_or list i 0)) → new ≡ numbers → after ≡ xs
    → Numbers (Contains (take (i + 1) list)) n old new before after
numbers_kept_more n i list old numbers new before xs after l h k e f =
    subst (λ m. Numbers (Contains (take (i + 1) list)) n old m before after) (sym e)
    (subst (λ m. Numbers (Contains (take (i + 1) list)) n old numbers before m) (sym f)
    (numbers_both (Contains (take i list)) (λ q. q ≡ get_or list i 0)
    (Contains (take (i + 1) list)) n old numbers numbers before xs xs
    (λ q c. taken_more list i q l c) (λ q c. taken_stays list i q l c) (λ q s. taken_last list i q l s)
    h (numbers_kept n (get_or list i 0) numbers xs k)))

-- where the next place of a list gets its number, all places up to it have theirs
pub numbers_more : (n i : ℕ) (list : List ℕ) (old numbers new : List (Option ℕ)) (before xs after : List ℕ)
    → i < length list → Numbers (Contains (take i list)) n old numbers before xs → get_or list i 0 < length numbers
    → number_at numbers (get_or list i 0) ≡ None → new ≡ set numbers (get_or list i 0) (Some n)
    → after ≡ xs ++ get_or list i 0 ∷ [] → Numbers (Contains (take (i + 1) list)) n old new before after
numbers_more n i list old numbers new before xs after l h m k e f =
    subst (λ z. Numbers (Contains (take (i + 1) list)) n old z before after) (sym e)
    (subst (λ z. Numbers (Contains (take (i + 1) list)) n old (set numbers (get_or list i 0) (Some n)) before z) (sym f)
    (numbers_both (Contains (take i list)) (λ q. q ≡ get_or list i 0) (Contains (take (i + 1) list)) n old numbers
    (set numbers (get_or list i 0) (Some n)) before xs (xs ++ get_or list i 0 ∷ [])
    (λ q c. taken_more list i q l c) (λ q c. taken_stays list i q l c) (λ q s. taken_last list i q l s)
    h (numbers_one n (get_or list i 0) numbers xs m k)))

-- where the predecessors of the next member of a level get numbers, those of all members up to it have them
pub level_more : (lists : List (List ℕ)) (level : List ℕ) (n i : ℕ) (a b c : List (Option ℕ)) (x y z : List ℕ)
    → i < length level → Numbers (IsNamedBy lists (take i level)) n a b x y
    → Numbers (Contains (predecessors_at lists (get_or level i 0))) n b c y z
    → Numbers (IsNamedBy lists (take (i + 1) level)) n a c x z
level_more lists level n i a b c x y z l =
    numbers_both (IsNamedBy lists (take i level)) (Contains (predecessors_at lists (get_or level i 0)))
    (IsNamedBy lists (take (i + 1) level)) n a b c x y z
    (λ p (q, k, m). elim (taken_more level i q l k) [
      | inl h ↦ inl (q, h, m)
      | inr e ↦ inr (subst (λ r. Contains (predecessors_at lists r) p) e m)
    ])
    (λ p (q, k, m). (q, taken_stays level i q l k, m))
    (λ p k. (get_or level i 0, taken_last level i (get_or level i 0) l refl, k))

-- ---- the least place with a number

-- a place that passes the test of having the number has it
numbered_by_test : (o : Option ℕ) (n : ℕ) → true ≡ option_eq eqb o (Some n) → o ≡ Some n
numbered_by_test (Some d) n e = ap (λ m. Some m) (eqb-true d n (sym e))
numbered_by_test None n e = absurd cc

-- a place that fails the test of having the number doesn't have it
unnumbered_by_test : (o : Option ℕ) (n : ℕ) → false ≡ option_eq eqb o (Some n) → o ≢ Some n
unnumbered_by_test o n e f = let bad : true ≡ false =
    sym (eq-eqb n n refl) ∙ sym (ap (λ p. option_eq eqb p (Some n)) f) ∙ sym e in absurd cc

-- where the next member has the number and is below the least so far, it is the least
pub least_more : (n i : ℕ) (list : List ℕ) (numbers : List (Option ℕ)) (least new : Option ℕ) → i < length list
    → IsLeastAt n (take i list) numbers least
    → MatchOption least (true ≡ true) (λ r. (true ≡ true) ↔ (get_or list i 0 < r))
    → true ≡ option_eq eqb (number_at numbers (get_or list i 0)) (Some n) → new ≡ Some (get_or list i 0)
    → IsLeastAt n (take (i + 1) list) numbers new
least_more n i list numbers least new l h below e f =
    subst (λ o. IsLeastAt n (take (i + 1) list) numbers o) (sym f) (
      taken_last list i (get_or list i 0) l refl,
      numbered_by_test (number_at numbers (get_or list i 0)) n e,
      λ q c s. elim (taken_more list i q l c) [
        | inl d ↦ lesser n i list numbers least q h below d s
        | inr same ↦ omega (arith, same)
      ],
    )
  where
    lesser : (n i : ℕ) (list : List ℕ) (numbers : List (Option ℕ)) (least : Option ℕ) (q : ℕ)
        → IsLeastAt n (take i list) numbers least
        → MatchOption least (true ≡ true) (λ r. (true ≡ true) ↔ (get_or list i 0 < r)) → Contains (take i list) q
        → number_at numbers q ≡ Some n → get_or list i 0 ≤ q
    lesser n i list numbers None q h below c s = absurd (h q c s)
    lesser n i list numbers (Some r) q h below c s = omega (arith, h.2 q c s, below.0 refl)

-- where the next member is not below the least so far, that stays the least
pub least_above : (n i : ℕ) (list : List ℕ) (numbers : List (Option ℕ)) (least new : Option ℕ) → i < length list
    → IsLeastAt n (take i list) numbers least
    → MatchOption least (false ≡ true) (λ r. (false ≡ true) ↔ (get_or list i 0 < r)) → new ≡ least
    → IsLeastAt n (take (i + 1) list) numbers new
least_above n i list numbers least new l h above e =
    subst (λ o. IsLeastAt n (take (i + 1) list) numbers o) (sym e) (stays n i list numbers least l h above)
  where
    stays : (n i : ℕ) (list : List ℕ) (numbers : List (Option ℕ)) (least : Option ℕ) → i < length list
        → IsLeastAt n (take i list) numbers least
        → MatchOption least (false ≡ true) (λ r. (false ≡ true) ↔ (get_or list i 0 < r))
        → IsLeastAt n (take (i + 1) list) numbers least
    stays n i list numbers None l h above = absurd cc
    stays n i list numbers (Some r) l h above = (
      taken_stays list i r l h.0,
      h.1,
      λ q c s. elim (taken_more list i q l c) [
        | inl d ↦ h.2 q d s
        | inr same ↦ elim (cases_lt q r) [
          | inl k ↦ let bad = above.1 (subst (λ z. z < r) same k) in absurd cc
          | inr k ↦ k
        ]
      ],
    )

-- where the next member doesn't have the number, the least so far stays the least
pub least_other : (n i : ℕ) (list : List ℕ) (numbers : List (Option ℕ)) (least new : Option ℕ) → i < length list
    → IsLeastAt n (take i list) numbers least → false ≡ option_eq eqb (number_at numbers (get_or list i 0)) (Some n)
    → new ≡ least → IsLeastAt n (take (i + 1) list) numbers new
least_other n i list numbers least new l h e f =
    subst (λ o. IsLeastAt n (take (i + 1) list) numbers o) (sym f)
    (stays n i list numbers least l h (unnumbered_by_test (number_at numbers (get_or list i 0)) n e))
  where
    stays : (n i : ℕ) (list : List ℕ) (numbers : List (Option ℕ)) (least : Option ℕ) → i < length list
        → IsLeastAt n (take i list) numbers least → number_at numbers (get_or list i 0) ≢ Some n
        → IsLeastAt n (take (i + 1) list) numbers least
    stays n i list numbers None l h other = λ q c s. elim (taken_more list i q l c) [
      | inl d ↦ h q d s
      | inr same ↦ other (ap (number_at numbers) (sym same) ∙ s)
    ]
    stays n i list numbers (Some r) l h other = (
      taken_stays list i r l h.0,
      h.1,
      λ q c s. elim (taken_more list i q l c) [
        | inl d ↦ h.2 q d s
        | inr same ↦ absurd (other (ap (number_at numbers) (sym same) ∙ s))
      ],
    )
