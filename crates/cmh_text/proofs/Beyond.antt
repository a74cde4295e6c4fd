-- A leader that reaches itself and what another one reaches.
use Rattle.std.proofs.Common.{◌≡◌, ℕ, zero, suc, ◌+◌, ◌-◌, ◌<◌, Bool, false, inl, inr, List, [], ◌∷◌, map, get_or, refl, sym, ◌∙◌, ap, subst, arith}
use Rattle.std.specs.Prelude.{AllPairs, Contains}
use Rattle.std.proofs.lemmas.Bool.{cases_eq, cases_lt, true≢false}
use Rattle.std.proofs.lemmas.List.{get_or-drop, get_or-take}
use Rattle.std.proofs.lemmas.List.Elements.{Contains-get_or}
use Rattle.std.proofs.lemmas.List.Kept.{AllPairs-from_increasing}
use Rattle.cmh_graph.specs.Core.{core_of, rest_of}
use Rattle.cmh_graph.specs.Graph.{Graph, indices, process_count, IsWithinGraph}
use Rattle.cmh_graph.specs.Path.{reach_of, reaches, Reaches}
use Rattle.cmh_graph.specs.Search.{is_marked}
use Rattle.cmh_graph.proofs.Cores.{core_law}
use Rattle.cmh_graph.proofs.Groups.{head_below, in_own_core, reaches_on, rest_law, rising_law, tail_rises}
use Rattle.cmh_graph.proofs.IndexLists.{by_index}
use Rattle.cmh_graph.proofs.PathLemmas.{cons_contains, contains_cons, contains_index, reaches_then, then_reaches, contains_first}
use Rattle.cmh_graph.proofs.Verdicts.{contains_filter, filter_contains, reached_within}
use Rattle.cmh_text.specs.LeaderReach.{HasOneMore, IsLeaderReachOf}
use Rattle.cmh_text.specs.declared.leader_reach.LeaderReach.{LeaderReach}

-- ---- rising lists

-- rising lists that have the same members are one
pub same_rising : (xs ys : List ℕ) → AllPairs (λ a b. a < b) xs → AllPairs (λ a b. a < b) ys
    → ((z : ℕ) → Contains xs z → Contains ys z) → ((z : ℕ) → Contains ys z → Contains xs z) → xs ≡ ys
same_rising [] [] rx ry to back = refl
same_rising [] (y ∷ ys) rx ry to back = absurd (omega (arith, (back y (contains_first y ys)).1))
same_rising (x ∷ xs) [] rx ry to back = absurd (omega (arith, (to x (contains_first x xs)).1))
same_rising (x ∷ xs) (y ∷ ys) rx ry to back =
    let first : x ≡ y = elim (cons_contains y ys x (to x (contains_first x xs))) [
      | inl same ↦ sym same
      | inr d ↦ elim (cons_contains x xs y (back y (contains_first y ys))) [
        | inl same ↦ same
        | inr e ↦ absurd (omega (arith, head_below y ys ry x d, head_below x xs rx y e))
      ]
    ] in
    let rest : xs ≡ ys =
    same_rising xs ys (tail_rises x xs rx) (tail_rises y ys ry)
    (λ z c. elim (cons_contains y ys z (to z (contains_cons x xs z c))) [
      | inl same ↦ absurd (omega (arith, first, same, head_below x xs rx z c))
      | inr d ↦ d
    ])
    (λ z c. elim (cons_contains x xs z (back z (contains_cons y ys z c))) [
      | inl same ↦ absurd (omega (arith, first, same, head_below y ys ry z c))
      | inr d ↦ d
    ]) in
    λ k. first k ∷ rest k

-- what is below the first of a rising list is below all of it
below_all : (xs : List ℕ) (p q : ℕ) → AllPairs (λ a b. a < b) xs → p < get_or xs 0 0 → Contains xs q → p < q
below_all [] p q rises low c = absurd (omega (arith, c.1))
below_all (x ∷ xs) p q rises low c = elim (cons_contains x xs q c) [
  | inl same ↦ omega (arith, same, low)
  | inr d ↦ omega (arith, low, head_below x xs rises q d)
]

-- a process below the first of a rising list, put before it, leaves it rising
cons_rises : (xs : List ℕ) (p : ℕ) → AllPairs (λ a b. a < b) xs → p < get_or xs 0 0 → AllPairs (λ a b. a < b) (p ∷ xs)
cons_rises xs p rises low i zero d l k = absurd (omega (arith, l))
cons_rises xs p rises low zero (suc j) d l k =
    below_all xs p (get_or xs j d) rises low (Contains-get_or xs j d (omega (arith, k)))
cons_rises xs p rises low (suc i) (suc j) d l k = rises i j d (omega (arith, l)) (omega (arith, k))

-- ---- marks

-- at places other than p the marks with one more at p are the same
same_beside : (p q : ℕ) (old new : List Bool) → HasOneMore p old new → (q ≡ p → ⊥) → is_marked new q ≡ is_marked old q
same_beside p q old new more other = elim (cases_lt q p) [
  | inl low ↦
      sym (get_or-take p new q false low)
      ∙ ap (λ ms. get_or ms q false) (sym more.before)
      ∙ get_or-take p old q false low
  | inr high ↦ elim (cases_lt p q) [
    | inl above ↦
        let place : (p + 1) + (q - (p + 1)) ≡ q = omega (arith, above) in
        ap (λ k. get_or new k false) (sym place)
        ∙ sym (get_or-drop (p + 1) new (q - (p + 1)) false)
        ∙ ap (λ ms. get_or ms (q - (p + 1)) false) (sym more.after)
        ∙ get_or-drop (p + 1) old (q - (p + 1)) false
        ∙ ap (λ k. get_or old k false) place
    | inr same ↦ absurd (other (omega (arith, high, same)))
  ]
]

-- ---- what is reached

-- all that p reaches but itself is reached by l, p isn't, and p reaches l
record ReachesBeside (g : Graph) (p l : ℕ) : Type 0 where
  others : (q : ℕ) → Reaches g p q → (q ≡ p → ⊥) → Reaches g l q
  apart : Reaches g l p → ⊥
  beyond : Reaches g p l

-- where p reaches a leader and has one mark more than it, p itself, that leader reaches all else that p does
beside : (g : Graph) (p : ℕ) (known : LeaderReach) (marks : List Bool) → IsWithinGraph g → p < process_count g
    → IsLeaderReachOf g known → Reaches g p known.leader → marks ≡ map (reaches g p) (indices g)
    → HasOneMore p known.marks.items marks → ReachesBeside g p known.leader
beside g p known marks w i is there of_p more = record {
  others = λ q r other.
      let j = reached_within g w p q i r in
      reaches_then g known.leader q
      (sym (by_index g (reaches g known.leader) known.marks.items q false is.marks j)
      ∙ sym (same_beside p q known.marks.items marks more other)
      ∙ by_index g (reaches g p) marks q false of_p j
      ∙ then_reaches g p q w i r);
  apart = λ r.
      true≢false
      (sym (then_reaches g known.leader p w is.within r)
      ∙ sym (by_index g (reaches g known.leader) known.marks.items p false is.marks i)
      ∙ more.apart);
  beyond = there;
}

-- members of a reach are those that are reached
pub listed_reached : (g : Graph) (p q : ℕ) → Contains (reach_of g p) q → Reaches g p q
listed_reached g p q c = reaches_then g p q (filter_contains (reaches g p) (indices g) q c).1

pub reached_listed : (g : Graph) (p q : ℕ) → IsWithinGraph g → p < process_count g → Reaches g p q
    → Contains (reach_of g p) q
reached_listed g p q w i r =
    contains_filter (reaches g p) (indices g) q (contains_index (process_count g) q (reached_within g w p q i r))
    (then_reaches g p q w i r)

-- where l reaches just what p does but p itself, p is a group by itself
core_alone : (g : Graph) (p l : ℕ) → IsWithinGraph g → p < process_count g → ReachesBeside g p l → core_of g p ≡ p ∷ []
core_alone g p l w i is =
    same_rising (core_of g p) (p ∷ []) (AllPairs-from_increasing (core_of g p) (rising_law g p).1)
    (λ j k d low high. absurd (omega (arith, low, high)))
    (λ q c. elim (cases_eq q p) [
      | inl same ↦ subst (Contains (p ∷ [])) (sym same) (contains_first p [])
      | inr other ↦
          let both = (core_law g p q w i).0 c in
          absurd (is.apart (reaches_on g l q p (is.others q both.0 other) both.1))
    ])
    (λ q c. elim (cons_contains p [] q c) [
      | inl same ↦ subst (Contains (core_of g p)) same (in_own_core g p w i)
      | inr none ↦ absurd (omega (arith, none.1))
    ])

-- where l reaches just what p does but p itself, the rest of p's group is all that l reaches
rest_beyond : (g : Graph) (p l : ℕ) → IsWithinGraph g → p < process_count g → l < process_count g → ReachesBeside g p l
    → rest_of g p ≡ reach_of g l
rest_beyond g p l w i j is =
    same_rising (rest_of g p) (reach_of g l) (AllPairs-from_increasing (rest_of g p) (rising_law g p).2)
    (AllPairs-from_increasing (reach_of g l) (rising_law g l).0)
    (λ q c.
    let both = (rest_law g p q w i).0 c in
    reached_listed g l q w j
    (is.others q both.0 (λ same. both.1 (subst (Contains (core_of g p)) (sym same) (in_own_core g p w i)))))
    (λ q c.
    let there = listed_reached g l q c in
    (rest_law g p q w i).1
    (reaches_on g p l q is.beyond there, λ d. is.apart (reaches_on g l q p there ((core_law g p q w i).0 d).1)))

-- where l reaches just what p does but p, and p is below all of that, p reaches itself and then that
reach_beyond : (g : Graph) (p l : ℕ) → IsWithinGraph g → p < process_count g → l < process_count g → ReachesBeside g p l
    → p < get_or (reach_of g l) 0 0 → p ∷ reach_of g l ≡ reach_of g p
reach_beyond g p l w i j is low =
    let rises = AllPairs-from_increasing (reach_of g l) (rising_law g l).0 in
    same_rising (p ∷ reach_of g l) (reach_of g p) (cons_rises (reach_of g l) p rises low)
    (AllPairs-from_increasing (reach_of g p) (rising_law g p).0)
    (λ q c. elim (cons_contains p (reach_of g l) q c) [
      | inl same ↦
          subst (Contains (reach_of g p)) same
          (reached_listed g p p w i ((core_law g p p w i).0 (in_own_core g p w i)).0)
      | inr d ↦ reached_listed g p q w i (reaches_on g p l q is.beyond (listed_reached g l q d))
    ])
    (λ q c. elim (cases_eq q p) [
      | inl same ↦ subst (Contains (p ∷ reach_of g l)) (sym same) (contains_first p (reach_of g l))
      | inr other ↦
          contains_cons p (reach_of g l) q
          (reached_listed g l q w j (is.others q (listed_reached g p q c) other))
    ])

-- ---- the parts of such a leader

-- p's core is p, its rest is what is known, and it reaches both, p first, where p is below the others
pub record IsBeyond (g : Graph) (p : ℕ) (known : LeaderReach) : Type 0 where
  pub core : core_of g p ≡ p ∷ []
  pub rest : rest_of g p ≡ known.reach.items
  pub reach : p < get_or known.reach.items 0 0 → p ∷ known.reach.items ≡ reach_of g p

pub parts_beyond : (g : Graph) (p : ℕ) (known : LeaderReach) (marks : List Bool) → IsWithinGraph g → p < process_count g
    → IsLeaderReachOf g known → Reaches g p known.leader → marks ≡ map (reaches g p) (indices g)
    → HasOneMore p known.marks.items marks → IsBeyond g p known
parts_beyond g p known marks w i is there of_p more =
    let by = beside g p known marks w i is there of_p more in record {
      core = core_alone g p known.leader w i by;
      rest = rest_beyond g p known.leader w i is.within by ∙ sym is.reach;
      reach = λ low.
          ap (λ xs. p ∷ xs) is.reach
          ∙ reach_beyond g p known.leader w i is.within by (subst (λ xs. p < get_or xs 0 0) is.reach low);
    }
