-- What rows that are true for a graph say.
use Rattle.std.proofs.Common.{◌≡◌, ℕ, ◌+◌, cond, eqb, List, [], ◌∷◌, ◌++◌, refl, sym, ◌∙◌, ap, arith, zero-add, Some, None, Option, IfSome}
use Rattle.std.proofs.lemmas.Bool.{eqb-true}
use Rattle.std.proofs.lemmas.List.Sums.{sum_by-append}
use Rattle.std.proofs.lemmas.Option.{same_Some}
use Rattle.cmh_graph.specs.declared.verdict.Verdict.{Verdict}
use Rattle.cmh_graph.specs.Graph.{Graph, IsWithinGraph}
use Rattle.cmh_graph.specs.Verdict.{verdict, IsVerdict}
use Rattle.cmh_graph.proofs.Verdicts.{verdict_true, by_test}
use Rattle.cmh_rw.specs.declared.row.Row.{Row}
use Rattle.cmh_rw.specs.History.{fold_at, IsTrueOf}
use Rattle.cmh_board.specs.Board.{row_times}

-- ---- what rows say of a process

-- what rows say of a process they say with other rows behind them
pub present-append : (xs ys : List Row) (p : ℕ) (v : Verdict) → fold_at xs p ≡ Some v
    → fold_at (xs ++ ys) p ≡ Some v
present-append [] ys p v e = absurd (cc)
present-append (x ∷ xs) ys p v e =
    by_test (eqb x.process p)
    (λ b. cond b (Some x.verdict) (fold_at xs p) ≡ Some v
    → cond b (Some x.verdict) (fold_at (xs ++ ys) p) ≡ Some v)
    (λ yes h. h)
    (λ no h. present-append xs ys p v h)
    e

-- what true rows say of a process is its verdict
pub verdict_in : (g : Graph) (rows : List Row) (p : ℕ) (v : Verdict) → IsTrueOf g rows
    → fold_at rows p ≡ Some v → verdict g p ≡ v
verdict_in g [] p v t e = absurd (cc)
verdict_in g (r ∷ rs) p v t e =
    by_test (eqb r.process p)
    (λ b. cond b (Some r.verdict) (fold_at rs p) ≡ Some v → verdict g p ≡ v)
    (λ yes h. ap (verdict g) (sym (eqb-true r.process p yes)) ∙ sym t.1 ∙ same_Some r.verdict v h)
    (λ no h. verdict_in g rs p v t.3 h)
    e

-- whatever true rows say of a process is the truth
pub truth_in : (g : Graph) (rows : List Row) (p : ℕ) (o : Option Verdict) → IsWithinGraph g
    → IsTrueOf g rows → o ≡ fold_at rows p → IfSome o (λ v. IsVerdict g p v)
truth_in g rows p None within t e = tt
truth_in g rows p (Some v) within t e =
    verdict_true g p v within (verdict_in g rows p v t (sym e))

-- ---- how often a process stands

-- a row in front adds 1 to how often its own process stands, and nothing for another
times-cons : (r : Row) (rs : List Row) (p : ℕ)
    → row_times p (r ∷ rs) ≡ cond {A = ℕ} (eqb r.process p) 1 0 + row_times p rs
times-cons r rs p =
    sum_by-append (λ (x : Row). cond {A = ℕ} (eqb x.process p) 1 0) (r ∷ []) rs
    ∙ ap (λ n. n + row_times p rs) (zero-add (cond {A = ℕ} (eqb r.process p) 1 0))

-- a process of which the rows say nothing stands nowhere in them
times-absent : (rows : List Row) (p : ℕ) → fold_at rows p ≡ None → row_times p rows ≡ 0
times-absent [] p e = refl
times-absent (r ∷ rs) p e = times-cons r rs p ∙
    by_test (eqb r.process p)
    (λ b. cond b (Some r.verdict) (fold_at rs p) ≡ None → cond {A = ℕ} b 1 0 + row_times p rs ≡ 0)
    (λ yes h. absurd (cc))
    (λ no h. let rest = times-absent rs p h in omega arith)
    e

-- in true rows a process of which something is said stands once
pub times-present : (g : Graph) (rows : List Row) (p : ℕ) (v : Verdict) → IsTrueOf g rows
    → fold_at rows p ≡ Some v → row_times p rows ≡ 1
times-present g [] p v t e = absurd (cc)
times-present g (r ∷ rs) p v t e = times-cons r rs p ∙
    by_test (eqb r.process p)
    (λ b. cond b (Some r.verdict) (fold_at rs p) ≡ Some v → cond {A = ℕ} b 1 0 + row_times p rs ≡ 1)
    (λ yes h. let none = ap (fold_at rs) (sym (eqb-true r.process p yes)) ∙ t.2 in
    let rest = times-absent rs p none in omega arith)
    (λ no h. let rest = times-present g rs p v t.3 h in omega arith)
    e
