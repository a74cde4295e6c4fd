-- What rows say of each process, and how many of them are true for a graph.
use Rattle.std.proofs.Common.{◌≡◌, ◌⊎◌, ℕ, ◌<◌, ◌≤◌, Bool, true, false, cond, eqb, Option, Some, None, List, [], ◌∷◌, ◌++◌, map, length, sym, refl, ap, ◌∙◌, subst, inl, inr, ⊎_elim}
use Rattle.std.specs.List.{IsDistinct, AllByRecursion, list_any}
use Rattle.std.proofs.lemmas.Bool.{cases_eq, ne_eqb, eq-eqb, eqb-true, eqb-false, or_cases}
use Rattle.std.proofs.lemmas.List.{length-map}
use Rattle.std.proofs.lemmas.Map.Steps.{length-le_from_distinct_below}
use Rattle.cmh_graph.specs.declared.verdict.Verdict.{Verdict}
use Rattle.cmh_graph.specs.Graph.{Graph, process_count, is_idle}
use Rattle.cmh_graph.specs.Verdict.{verdict}
use Rattle.cmh_graph.proofs.Verdicts.{idle_within}
use Rattle.cmh_rw.specs.declared.row.Row.{Row}
use Rattle.cmh_rw.specs.History.{fold_at, IsTrueOf, AreTold}

-- to say a verdict isn't to say nothing
some_none : (v : Verdict) → Some v ≡ None → ⊥
some_none v e = cc

-- where rest n says nothing if rest m does, and a row before m says nothing, it says nothing before n
cond-none : (b : Bool) (v : Verdict) (m n : Option Verdict) → (m ≡ None → n ≡ None) → cond b (Some v) m ≡ None
    → cond b (Some v) n ≡ None
cond-none true v m n h e = e
cond-none false v m n h e = h e

-- rows that say nothing of a process have only prefixes that say nothing of it
fold-left : (xs ys : List Row) (p : ℕ) → fold_at (xs ++ ys) p ≡ None → fold_at xs p ≡ None
fold-left [] ys p h = refl
fold-left (r ∷ rs) ys p h =
    cond-none (eqb r.process p) r.verdict (fold_at (rs ++ ys) p) (fold_at rs p) (fold-left rs ys p) h

-- what says nothing of a process with a row in front says nothing without it
cond-none_right : (b : Bool) (v : Verdict) (m n : Option Verdict) → (m ≡ None → n ≡ None) → cond b (Some v) m ≡ None
    → n ≡ None
cond-none_right true v m n h e = absurd (some_none v e)
cond-none_right false v m n h e = h e

-- rows that say nothing of a process have an end that says nothing of it
fold-right : (xs ys : List Row) (p : ℕ) → fold_at (xs ++ ys) p ≡ None → fold_at ys p ≡ None
fold-right [] ys p e = e
fold-right (x ∷ xs) ys p e =
    cond-none_right (eqb x.process p) x.verdict (fold_at (xs ++ ys) p) (fold_at ys p) (fold-right xs ys p) e

-- where rest n says k if rest m says nothing, and a row before m says nothing, the row before n says k
cond-skip : (b : Bool) (v : Verdict) (m n k : Option Verdict) → (m ≡ None → n ≡ k) → cond b (Some v) m ≡ None
    → cond b (Some v) n ≡ k
cond-skip true v m n k h e = absurd (some_none v e)
cond-skip false v m n k h e = h e

-- rows that say nothing of a process don't hide what others say
pub fold-skip : (xs ys : List Row) (p : ℕ) → fold_at xs p ≡ None → fold_at (xs ++ ys) p ≡ fold_at ys p
fold-skip [] ys p e = refl
fold-skip (x ∷ xs) ys p e =
    cond-skip (eqb x.process p) x.verdict (fold_at xs p) (fold_at (xs ++ ys) p) (fold_at ys p) (fold-skip xs ys p) e

-- a row of another process doesn't change what is said of this one
pub fold-else : (xs : List Row) (r : Row) (p : ℕ) → eqb r.process p ≡ false → fold_at (xs ++ r ∷ []) p ≡ fold_at xs p
fold-else [] r p n = ap (λ b. cond b (Some r.verdict) None) n
fold-else (x ∷ xs) r p n = ap (λ m. cond (eqb x.process p) (Some x.verdict) m) (fold-else xs r p n)

-- where rest m says nothing or n says the same, it is so with a row before both
cond-keeps : (b : Bool) (v m n : Option Verdict) → ((m ≡ None) ⊎ (n ≡ m))
    → (cond b v m ≡ None) ⊎ (cond b v n ≡ cond b v m)
cond-keeps true v m n h = inr refl
cond-keeps false v m n h = h

-- what the rows say stays, where they say something
pub fold-keeps : (xs ys : List Row) (p : ℕ) → (fold_at xs p ≡ None) ⊎ (fold_at (xs ++ ys) p ≡ fold_at xs p)
fold-keeps [] ys p = inl refl
fold-keeps (x ∷ xs) ys p =
    cond-keeps (eqb x.process p) (Some x.verdict) (fold_at xs p) (fold_at (xs ++ ys) p) (fold-keeps xs ys p)

-- rows that say the same of a process say the same of it behind other rows
pub fold-same : (xs ys zs : List Row) (p : ℕ) → fold_at ys p ≡ fold_at zs p
    → fold_at (xs ++ ys) p ≡ fold_at (xs ++ zs) p
fold-same [] ys zs p e = e
fold-same (r ∷ rs) ys zs p e = ap (λ n. cond (eqb r.process p) (Some r.verdict) n) (fold-same rs ys zs p e)

-- a single row says its own verdict of its process
fold-one : (r : Row) → fold_at (r ∷ []) r.process ≡ Some r.verdict
fold-one r = ap (λ b. cond b (Some r.verdict) None) (eq-eqb r.process r.process refl)

-- rows that say nothing of any process are none
pub fold-nothing : (xs : List Row) → ((p : ℕ) → fold_at xs p ≡ None) → xs ≡ []
fold-nothing [] h = refl
fold-nothing (x ∷ xs) h =
    absurd
    (some_none x.verdict
    (sym (ap (λ b. cond b (Some x.verdict) (fold_at xs x.process)) (eq-eqb x.process x.process refl))
    ∙ h x.process))

-- true rows have true prefixes
pub true-left : (g : Graph) (xs ys : List Row) → IsTrueOf g (xs ++ ys) → IsTrueOf g xs
true-left g [] ys h = tt
true-left g (r ∷ rs) ys h = (h.0, h.1, fold-left rs ys r.process h.2, true-left g rs ys h.3)

-- where nothing is said, the row in front is of another process
cond-false_none : (b : Bool) (v : Verdict) (n : Option Verdict) → cond b (Some v) n ≡ None → (b ≡ false) × (n ≡ None)
cond-false_none true v n e = absurd (some_none v e)
cond-false_none false v n e = (refl, e)

-- true rows stay true with a row behind them of an idle process that has no row, with its verdict
pub true-snoc : (g : Graph) (xs : List Row) (r : Row) → IsTrueOf g xs → is_idle g r.process ≡ true
    → r.verdict ≡ verdict g r.process → fold_at xs r.process ≡ None → IsTrueOf g (xs ++ r ∷ [])
true-snoc g [] r h idle says new = (idle, says, refl, tt)
true-snoc g (x ∷ xs) r h idle says new =
    let apart = cond-false_none (eqb x.process r.process) x.verdict (fold_at xs r.process) new in
    let other : eqb r.process x.process ≡ false =
    ne_eqb r.process x.process (λ e. eqb-false x.process r.process apart.0 (sym e)) in
    (h.0, h.1, fold-else xs r x.process other ∙ h.2, true-snoc g xs r h.3 idle says apart.1)

-- of a process that later rows name, earlier ones say nothing
pub true-apart : (g : Graph) (xs ys : List Row) (p : ℕ) (v : Verdict) → IsTrueOf g (xs ++ ys) → fold_at ys p ≡ Some v
    → fold_at xs p ≡ None
true-apart g [] ys p v h says = refl
true-apart g (x ∷ xs) ys p v h says = ⊎_elim
    (λ same. absurd (some_none v (sym says ∙ ap (fold_at ys) (sym same) ∙ fold-right xs ys x.process h.2)))
    (λ other. ap (λ b. cond b (Some x.verdict) (fold_at xs p)) (ne_eqb x.process p other)
    ∙ true-apart g xs ys p v h.3 says)
    (cases_eq x.process p)

-- what is said is said by the row in front or behind it
cond-says : (b : Bool) (v w : Verdict) (n : Option Verdict) → cond b (Some v) n ≡ Some w → (b ≡ true) ⊎ (n ≡ Some w)
cond-says true v w n e = inl refl
cond-says false v w n e = inr e

-- a process with a true row is idle
pub true-idle : (g : Graph) (xs : List Row) (p : ℕ) (v : Verdict) → IsTrueOf g xs → fold_at xs p ≡ Some v
    → is_idle g p ≡ true
true-idle g [] p v h e = absurd (some_none v (sym e))
true-idle g (x ∷ xs) p v h e = ⊎_elim
    (λ same. ap (is_idle g) (sym (eqb-true x.process p same)) ∙ h.0)
    (λ later. true-idle g xs p v h.3 later)
    (cond-says (eqb x.process p) x.verdict v (fold_at xs p) e)

-- true rows have true ends
pub true-right : (g : Graph) (xs ys : List Row) → IsTrueOf g (xs ++ ys) → IsTrueOf g ys
true-right g [] ys h = h
true-right g (x ∷ xs) ys h = true-right g xs ys h.3

-- the processes of rows that say nothing of p are other than p
none_apart : (p : ℕ) (xs : List Row) → fold_at xs p ≡ None
    → AllByRecursion (λ q. eqb p q ≡ false) (map (λ (r : Row). r.process) xs)
none_apart p [] e = tt
none_apart p (x ∷ xs) e = let apart = cond-false_none (eqb x.process p) x.verdict (fold_at xs p) e in
    (ne_eqb p x.process (λ same. eqb-false x.process p apart.0 (sym same)), none_apart p xs apart.1)

-- true rows name distinct processes
true-distinct : (g : Graph) (xs : List Row) → IsTrueOf g xs → IsDistinct eqb (map (λ (r : Row). r.process) xs)
unfolding IsDistinct
true-distinct g [] h = tt
true-distinct g (x ∷ xs) h = (none_apart x.process xs h.2, true-distinct g xs h.3)

-- true rows name processes of the graph alone
true-within : (g : Graph) (xs : List Row) → IsTrueOf g xs → (q : ℕ)
    → list_any (eqb q) (map (λ (r : Row). r.process) xs) ≡ true → q < process_count g
true-within g [] h q e = absurd (cc)
true-within g (x ∷ xs) h q e = ⊎_elim
    (λ same. idle_within g q (ap (is_idle g) (eqb-true q x.process same) ∙ h.0))
    (λ later. true-within g xs h.3 q later)
    (or_cases (eqb q x.process) (list_any (eqb q) (map (λ (r : Row). r.process) xs)) e)

-- there are no more true rows than processes
pub true-few : (g : Graph) (xs : List Row) → IsTrueOf g xs → length xs ≤ process_count g
true-few g xs h =
    subst (λ n. n ≤ process_count g) (length-map xs (λ (r : Row). r.process))
    (length-le_from_distinct_below (map (λ (r : Row). r.process) xs) (process_count g) (true-distinct g xs h)
    (true-within g xs h))

-- where each stored verdict is that of its row, and the verdict of each row is stored, stored verdicts and rows say the
-- same
pub told-all : (staged told : List Row) → ((p : ℕ) → (fold_at told p ≡ None) ⊎ (fold_at told p ≡ fold_at staged p))
    → AreTold staged told → (p : ℕ) → fold_at told p ≡ fold_at staged p
told-all staged told each all p = ⊎_elim (λ none. by_staged (fold_at staged p) refl none) (λ same. same) (each p)
  where
    by_staged : (o : Option Verdict) → fold_at staged p ≡ o → fold_at told p ≡ None → fold_at told p ≡ fold_at staged p
    by_staged None e none = none ∙ sym e
    by_staged (Some v) e none = all p v e ∙ sym e

-- once the verdict of a staged row is stored, the stored verdicts say it of the row's process
pub told-now : (told staged : List Row) (r : Row) → fold_at staged r.process ≡ Some r.verdict
    → (fold_at told r.process ≡ None) ⊎ (fold_at told r.process ≡ fold_at staged r.process)
    → fold_at (told ++ r ∷ []) r.process ≡ Some r.verdict
told-now told staged r says (inl none) = fold-skip told (r ∷ []) r.process none ∙ fold-one r
told-now told staged r says (inr same) =
    ⊎_elim (λ none. absurd (some_none r.verdict (sym says ∙ sym same ∙ none))) (λ e. e ∙ same ∙ says)
    (fold-keeps told (r ∷ []) r.process)
