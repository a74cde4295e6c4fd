-- What weighs the same has the same members.
use Rattle.std.proofs.Common.{◌≡◌, ℕ, zero, ◌+◌, ◌<◌, Bool, true, false, cond, eqb, ◌&&◌, List, [], ◌∷◌, refl, ◌∙◌, ap, subst, arith, ⊎_elim}
use Rattle.std.specs.Prelude.{Contains}
use Rattle.std.proofs.lemmas.Bool.{eqb-true, eq-eqb, and_parts}
use Rattle.cmh_graph.specs.declared.verdict.Verdict.{Verdict}
use Rattle.cmh_graph.specs.declared.verdict.Verdict.TheVariants.{Deadlocked, Free}
use Rattle.cmh_graph.proofs.PathLemmas.{cons_contains, contains_cons}
use Rattle.cmh_graph.proofs.Verdicts.{by_test}
use Rattle.cmh_rw.specs.declared.row.Row.{Row}
use Rattle.cmh_rw.specs.Machine.{total}

-- ---- a test of equal postings

verdict_eqb : Verdict → Verdict → Bool
verdict_eqb Deadlocked Deadlocked = true
verdict_eqb Deadlocked Free = false
verdict_eqb Free Deadlocked = false
verdict_eqb Free Free = true

bool_eqb : Bool → Bool → Bool
bool_eqb true true = true
bool_eqb true false = false
bool_eqb false true = false
bool_eqb false false = true

row_eqb : Row → Row → Bool
row_eqb r s = eqb r.process s.process && (verdict_eqb r.verdict s.verdict && bool_eqb r.last s.last)

-- whether two lists of rows are equal
pub rows_eqb : List Row → List Row → Bool
rows_eqb [] [] = true
rows_eqb [] (s ∷ ss) = false
rows_eqb (r ∷ rs) [] = false
rows_eqb (r ∷ rs) (s ∷ ss) = row_eqb r s && rows_eqb rs ss

verdict_eqb-true : (a b : Verdict) → verdict_eqb a b ≡ true → a ≡ b
unfolding verdict_eqb
verdict_eqb-true Deadlocked Deadlocked e = refl
verdict_eqb-true Deadlocked Free e = absurd (cc)
verdict_eqb-true Free Deadlocked e = absurd (cc)
verdict_eqb-true Free Free e = refl

bool_eqb-true : (a b : Bool) → bool_eqb a b ≡ true → a ≡ b
unfolding bool_eqb
bool_eqb-true true true e = refl
bool_eqb-true true false e = absurd (cc)
bool_eqb-true false true e = absurd (cc)
bool_eqb-true false false e = refl

row_eqb-true : (r s : Row) → row_eqb r s ≡ true → r ≡ s
unfolding row_eqb
row_eqb-true r s e =
    let first = and_parts (eqb r.process s.process) (verdict_eqb r.verdict s.verdict && bool_eqb r.last s.last) e in
    let rest = and_parts (verdict_eqb r.verdict s.verdict) (bool_eqb r.last s.last) first.1 in
    λ k. record {
      process = eqb-true r.process s.process first.0 k;
      verdict = verdict_eqb-true r.verdict s.verdict rest.0 k;
      last = bool_eqb-true r.last s.last rest.1 k;
    }

-- two lists of rows that the test finds equal are equal
rows_eqb-true : (xs ys : List Row) → rows_eqb xs ys ≡ true → xs ≡ ys
unfolding rows_eqb
rows_eqb-true [] [] e = refl
rows_eqb-true [] (s ∷ ss) e = absurd (cc)
rows_eqb-true (r ∷ rs) [] e = absurd (cc)
rows_eqb-true (r ∷ rs) (s ∷ ss) e =
    let both = and_parts (row_eqb r s) (rows_eqb rs ss) e in
    λ k. row_eqb-true r s both.0 k ∷ rows_eqb-true rs ss both.1 k

verdict_eqb-refl : (a : Verdict) → verdict_eqb a a ≡ true
unfolding verdict_eqb
verdict_eqb-refl Deadlocked = refl
verdict_eqb-refl Free = refl

bool_eqb-refl : (a : Bool) → bool_eqb a a ≡ true
unfolding bool_eqb
bool_eqb-refl true = refl
bool_eqb-refl false = refl

row_eqb-refl : (r : Row) → row_eqb r r ≡ true
unfolding row_eqb
row_eqb-refl r = rw (eq-eqb r.process r.process refl, verdict_eqb-refl r.verdict, bool_eqb-refl r.last) refl

-- the test finds a list of rows equal to itself
rows_eqb-refl : (xs : List Row) → rows_eqb xs xs ≡ true
unfolding rows_eqb
rows_eqb-refl [] = refl
rows_eqb-refl (r ∷ rs) = rw (row_eqb-refl r, rows_eqb-refl rs) refl

-- ---- members

-- a posting weighs 1 where it is this one, and else nothing
abbrev pub is_one : List Row → List Row → ℕ
is_one x y = cond {A = ℕ} (rows_eqb y x) 1 0

-- a posting that is a member of a list weighs something there
member_weighs : (x : List Row) (ps : List (List Row)) → Contains ps x → 0 < total (is_one x) ps
member_weighs x [] c = absurd (let l = c.1 in omega arith)
member_weighs x (p ∷ ps) c = ⊎_elim
    (λ e. let one : is_one x p ≡ 1 = ap (λ b. cond {A = ℕ} b 1 0) (ap (λ q. rows_eqb q x) e ∙ rows_eqb-refl x) in
    omega arith)
    (λ r. let rest = member_weighs x ps r in omega arith)
    (cons_contains p ps x c)

-- a posting that weighs something in a list is a member of it
weighs_member : (x : List Row) (ps : List (List Row)) → 0 < total (is_one x) ps → Contains ps x
weighs_member x [] l = absurd (omega arith)
weighs_member x (p ∷ ps) l =
    by_test (rows_eqb p x) (λ b. 0 < cond {A = ℕ} b 1 0 + total (is_one x) ps → Contains (p ∷ ps) x)
    (λ yes h. subst (λ q. Contains (p ∷ ps) q) (rows_eqb-true p x yes) (zero, omega arith, refl))
    (λ no h. contains_cons p ps x (weighs_member x ps (omega arith)))
    l

-- two lists of postings that weigh the same, however it is weighed, have the same members
pub same_members : (xs ys : List (List Row)) → ((h : List Row → ℕ) → total h xs ≡ total h ys)
    → (x : List Row) → Contains xs x → Contains ys x
same_members xs ys same x c =
    let much = member_weighs x xs c in
    let e = same (is_one x) in
    weighs_member x ys (omega arith)
