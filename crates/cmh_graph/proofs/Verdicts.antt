-- The verdict by its test, by paths and by deadlocked sets.
use Rattle.std.proofs.Common.{◌≡◌, ℕ, zero, suc, ◌<◌, Bool, true, false, not, cond, ◌||◌, ◌⊎◌, inl, inr, List, [], ◌∷◌, length, get_or, refl, sym, ◌∙◌, ap, subst, arith}
use Rattle.std.specs.Prelude.{Contains, filter, ◌↔◌, IsTrue}
use Rattle.std.specs.List.{list_all}
use Rattle.std.proofs.lemmas.List.FromFn.{get_or-map-range_with_len}
use Rattle.std.proofs.lemmas.Bool.{not-true, not_from_false, and_parts}
use Rattle.cmh_graph.specs.Graph.{IsWithinGraph, Graph, Process, process_count, is_idle, is_awake, is_woken, is_idle_state, nobody, Depends, indices}
use Rattle.cmh_graph.specs.Path.{Leads, Reaches, reaches, reach_of}
use Rattle.cmh_graph.specs.declared.verdict.Verdict.{Verdict}
use Rattle.cmh_graph.specs.declared.verdict.Verdict.TheVariants.{Deadlocked, Free}
use Rattle.cmh_graph.specs.Verdict.{IsDeadlocked, is_deadlocked, IsDeadlockedSet, IsVerdict, verdict, verdicts, IsInDeadlockedSet}
use Rattle.cmh_graph.proofs.PathLemmas.{depends_within, cons_contains, contains_cons, reaches_then, then_reaches, contains_index}

-- what is idle is one of the list
idle_within_by : (ps : List Process) (p : ℕ) → is_idle_state (get_or ps p nobody).state ≡ true → p < length ps
idle_within_by [] zero e = absurd cc
idle_within_by [] (suc p) e = absurd cc
idle_within_by (x ∷ ps) zero e = omega arith
idle_within_by (x ∷ ps) (suc p) e = omega (arith, idle_within_by ps p e)

-- an idle process is one of the graph
pub idle_within : (g : Graph) (p : ℕ) → is_idle g p ≡ true → p < process_count g
idle_within g p e = idle_within_by g.processes p e

-- what is neither active nor unblocked is idle
asleep_is_idle_by : (idle woken : Bool) → (not idle || woken) ≡ false → idle ≡ true
asleep_is_idle_by true woken e = refl
asleep_is_idle_by false woken e = absurd cc

-- a process that isn't awake is idle
pub asleep_is_idle : (g : Graph) (p : ℕ) → is_awake g p ≡ false → is_idle g p ≡ true
asleep_is_idle g p e = asleep_is_idle_by (is_idle g p) (is_woken g p) e

-- a path continues by a dependency
leads_more : (g : Graph) (p : ℕ) (rest : List ℕ) (q r : ℕ) → Leads g p rest q → Depends g q r
    → (longer : List ℕ) × Leads g p longer r
leads_more g p [] q r e d = (r ∷ [], (subst (λ z. Depends g z r) (sym e) d, refl))
leads_more g p (s ∷ rest) q r l d = let m = leads_more g s rest q r l.1 d in (s ∷ m.0, (l.0, m.1))

-- where p reaches q and q depends on r, p reaches r
pub reaches_more : (g : Graph) (p q r : ℕ) → Reaches g p q → Depends g q r → Reaches g p r
reaches_more g p q r ([], e) d = absurd e
reaches_more g p q r (x ∷ rest, (e, l)) d = let m = leads_more g p rest q r l d in (p ∷ m.0, (refl, m.1))

-- a path ends within the graph
leads_last : (g : Graph) → IsWithinGraph g → (p : ℕ) (rest : List ℕ) (q : ℕ) → p < process_count g → Leads g p rest q
    → q < process_count g
leads_last g w p [] q i e = subst (λ z. z < process_count g) e i
leads_last g w p (r ∷ rest) q i l = leads_last g w r rest q (depends_within g w p r i l.0) l.1

-- what a process of the graph reaches is one of the graph
pub reached_within : (g : Graph) → IsWithinGraph g → (p q : ℕ) → p < process_count g → Reaches g p q
    → q < process_count g
reached_within g w p q i ([], e) = absurd e
reached_within g w p q i (x ∷ rest, (e, l)) = leads_last g w p rest q i l

-- ---- deadlocked sets

-- a path from a member of a deadlocked set ends with a member
member_along : (g : Graph) (member : ℕ → Bool) → IsDeadlockedSet g member → (p : ℕ) (rest : List ℕ) (q : ℕ)
    → member p ≡ true → Leads g p rest q → member q ≡ true
member_along g member s p [] q m e = ap member (sym e) ∙ m
member_along g member s p (r ∷ rest) q m l = member_along g member s r rest q (s.closed p r m l.0.1) l.1

-- what a member of a deadlocked set reaches is a member
member_reached : (g : Graph) (member : ℕ → Bool) → IsDeadlockedSet g member → (p q : ℕ) → member p ≡ true
    → Reaches g p q → member q ≡ true
member_reached g member s p q m ([], e) = absurd e
member_reached g member s p q m (x ∷ rest, (e, l)) = member_along g member s p rest q m l

-- what a deadlocked process reaches is a deadlocked set
reach_is_set : (g : Graph) (p : ℕ) → IsWithinGraph g → p < process_count g → IsDeadlocked g p
    → IsDeadlockedSet g (reaches g p)
reach_is_set g p w i d = record {
  idle = λ q m. asleep_is_idle g q (d.1 q (reaches_then g p q m));
  asleep = λ q m. d.1 q (reaches_then g p q m);
  closed =
      λ q r m c. then_reaches g p r w i
      (reaches_more g p q r (reaches_then g p q m) (asleep_is_idle g q (d.1 q (reaches_then g p q m)), c));
}

-- deadlocked by paths is deadlocked by sets
pub closed_set_law : (g : Graph) (p : ℕ) → IsWithinGraph g → IsDeadlocked g p ↔ IsInDeadlockedSet g p
closed_set_law = λ g p w. (
  λ d. let i =
      idle_within g p d.0 in (reaches g p, then_reaches g p p w i (p ∷ [], (refl, refl)), reach_is_set g p w i d),
  λ s. (s.2.idle p s.1, λ q r. s.2.asleep q (member_reached g s.0 s.2 p q s.1 r)),
)

-- ---- the test

-- a member that passes is kept, by cases
contains_filter_by : (t : ℕ → Bool) (x : ℕ) (xs : List ℕ) (y : ℕ) (b : Bool) → t x ≡ b → t y ≡ true
    → (x ≡ y) ⊎ Contains (filter t xs) y → Contains (cond b (x ∷ filter t xs) (filter t xs)) y
contains_filter_by t x xs y true e f (inl s) = (zero, omega arith, s)
contains_filter_by t x xs y true e f (inr c) = contains_cons x (filter t xs) y c
contains_filter_by t x xs y false e f (inl s) = let z : false ≡ true = sym e ∙ ap t s ∙ f in absurd cc
contains_filter_by t x xs y false e f (inr c) = c

-- a member that passes is kept
pub contains_filter : (t : ℕ → Bool) (xs : List ℕ) (y : ℕ) → Contains xs y → t y ≡ true → Contains (filter t xs) y
contains_filter t [] y c f = absurd (omega (arith, c.1))
contains_filter t (x ∷ xs) y c f =
    contains_filter_by t x xs y (t x) refl f
    (elim (cons_contains x xs y c) [ inl s ↦ inl s | inr d ↦ inr (contains_filter t xs y d f) ])

-- what is kept is a member and passes, by cases
filter_contains_by : (t : ℕ → Bool) (x : ℕ) (xs : List ℕ) (y : ℕ) (b : Bool) → t x ≡ b
    → (Contains (filter t xs) y → Contains xs y × (t y ≡ true)) → Contains (cond b (x ∷ filter t xs) (filter t xs)) y
    → Contains (x ∷ xs) y × (t y ≡ true)
filter_contains_by t x xs y true e h c =
    elim (cons_contains x (filter t xs) y c) [
      | inl s ↦ ((zero, omega arith, s), ap t (sym s) ∙ e)
      | inr d ↦ let w = h d in (contains_cons x xs y w.0, w.1)
    ]
filter_contains_by t x xs y false e h c = let w = h c in (contains_cons x xs y w.0, w.1)

-- what a filtered list has, the list has, and it passes the test
pub filter_contains : (t : ℕ → Bool) (xs : List ℕ) (y : ℕ) → Contains (filter t xs) y → Contains xs y × (t y ≡ true)
filter_contains t [] y c = absurd (omega (arith, c.1))
filter_contains t (x ∷ xs) y c = filter_contains_by t x xs y (t x) refl (λ d. filter_contains t xs y d) c

-- what is kept by a stronger test passes, by cases
all_pass_by : (t u : ℕ → Bool) (x : ℕ) (xs : List ℕ) (b : Bool) → u x ≡ b → (u x ≡ true → t x ≡ true)
    → list_all t (filter u xs) ≡ true → list_all t (cond b (x ∷ filter u xs) (filter u xs)) ≡ true
all_pass_by t u x xs true e h rest = rw (h e, rest) refl
all_pass_by t u x xs false e h rest = rest

-- what is kept by a stronger test passes
all_pass : (t u : ℕ → Bool) (xs : List ℕ) → ((x : ℕ) → u x ≡ true → t x ≡ true) → list_all t (filter u xs) ≡ true
all_pass t u [] h = refl
all_pass t u (x ∷ xs) h = all_pass_by t u x xs (u x) refl (h x) (all_pass t u xs h)

-- a fact that goes by a test, with what the test said
pub by_test : (b : Bool) (M : Bool → Type 0) → (b ≡ true → M true) → (b ≡ false → M false) → M b
by_test true M f g = f refl
by_test false M f g = g refl

-- each member passes where all do
list_all_contains : (t : ℕ → Bool) (xs : List ℕ) (y : ℕ) → list_all t xs ≡ true → Contains xs y → t y ≡ true
list_all_contains t [] y e c = absurd (omega (arith, c.1))
list_all_contains t (x ∷ xs) y e c =
    let both = and_parts (t x) (list_all t xs) e in
    elim (cons_contains x xs y c) [ inl s ↦ ap t (sym s) ∙ both.0 | inr d ↦ list_all_contains t xs y both.1 d ]

-- where the test of deadlock holds the process is deadlocked
pub deadlocked_from_test : (g : Graph) (p : ℕ) → IsWithinGraph g → is_deadlocked g p ≡ true → IsDeadlocked g p
unfolding is_deadlocked
deadlocked_from_test g p w e =
    let both = and_parts (is_idle g p) (list_all (λ q. not (is_awake g q)) (reach_of g p)) e in
    let i = idle_within g p both.0 in (
      both.0,
      λ q r. not-true (is_awake g q)
          (list_all_contains (λ q. not (is_awake g q)) (reach_of g p) q both.1
          (contains_filter (reaches g p) (indices g) q (contains_index (process_count g) q (reached_within g w p q i r))
          (then_reaches g p q w i r))),
    )

-- where the process is deadlocked the test holds
pub test_from_deadlocked : (g : Graph) (p : ℕ) → IsDeadlocked g p → is_deadlocked g p ≡ true
unfolding is_deadlocked
test_from_deadlocked g p d =
    rw (
      d.0,
      all_pass (λ q. not (is_awake g q)) (reaches g p) (indices g)
          (λ q m. not_from_false (is_awake g q) (d.1 q (reaches_then g p q m))),
    ) refl

-- the test of deadlock says what the relation says
pub verdict_law : (g : Graph) (p : ℕ) → IsWithinGraph g → IsTrue (is_deadlocked g p) ↔ IsDeadlocked g p
verdict_law = λ g p w. (λ e. deadlocked_from_test g p w e, λ d. test_from_deadlocked g p d)

-- ---- the verdict in words

-- the verdict that is computed is true, by cases of the test of deadlock
verdict_by : (g : Graph) (p : ℕ) (v : Verdict) → IsWithinGraph g → (b : Bool) → is_deadlocked g p ≡ b
    → cond b Deadlocked Free ≡ v → IsVerdict g p v
verdict_by g p Deadlocked w true t e = deadlocked_from_test g p w t
verdict_by g p Free w true t e = absurd (cc)
verdict_by g p Deadlocked w false t e = absurd (cc)
verdict_by g p Free w false t e = λ dead. let z : true ≡ false = sym (test_from_deadlocked g p dead) ∙ t in absurd cc

-- the verdict that is computed is true
pub verdict_true : (g : Graph) (p : ℕ) (v : Verdict) → IsWithinGraph g → verdict g p ≡ v → IsVerdict g p v
verdict_true g p v w e = verdict_by g p v w (is_deadlocked g p) refl e

-- two verdicts about a process that are both true are one
pub one_verdict : (g : Graph) (p : ℕ) (v u : Verdict) → IsVerdict g p v → IsVerdict g p u → v ≡ u
one_verdict g p Deadlocked Deadlocked a b = refl
one_verdict g p Deadlocked Free a b = absurd (b a)
one_verdict g p Free Deadlocked a b = absurd (a b)
one_verdict g p Free Free a b = refl

-- a verdict that is true is the one that is computed
pub true_verdict : (g : Graph) (p : ℕ) (v : Verdict) → IsWithinGraph g → IsVerdict g p v → v ≡ verdict g p
true_verdict g p v w h = one_verdict g p v (verdict g p) h (verdict_true g p (verdict g p) w refl)

-- the verdict of a process stands at its place in the list of all verdicts
pub verdict_listed : (g : Graph) (known : List Verdict) (p : ℕ) (d : Verdict) → known ≡ verdicts g
    → p < process_count g → get_or known p d ≡ verdict g p
verdict_listed g known p d are l =
    ap (λ vs. get_or vs p d) are
    ∙ get_or-map-range_with_len (verdict g) 0 (process_count g) p p d l (omega arith)
