-- Rows and verdicts are read back from their words.
use Rattle.cmh_rw.specs.declared.row.Row.{Row}
use Rattle.std.proofs.Common.{◌≡◌, ◌≢◌, ℕ, zero, suc, ◌+◌, ◌-◌, ◌*◌, ◌/◌, ◌%◌, ◌≤◌, Bool, true, false, cond, eqb, Some, List, [], ◌∷◌, ◌++◌, length, get_or, refl, ap, ◌∙◌, arith}
use Rattle.cmh_graph.specs.declared.verdict.Verdict.{Verdict}
use Rattle.cmh_graph.specs.declared.verdict.Verdict.TheVariants.{Deadlocked, Free}
use Rattle.cmh_rw.specs.declared.TheConstants.{FIRST_VERDICT}
use Rattle.cmh_rw.specs.History.{bit, free_bit, verdict_code, row_of, row_code}
use Rattle.cmh_rw.specs.View.{mark}

-- the three parts of a row's word are read back from it
parts : (p a b : ℕ) → a ≤ 1 → b ≤ 1
    → ((4 * p + 2 * a + b) / 4 ≡ p) × ((4 * p + 2 * a + b) / 2 % 2 ≡ a) × ((4 * p + 2 * a + b) % 2 ≡ b)
parts p a b ha hb = (omega arith, omega arith, omega arith)

-- a bit is at most 1
pub bit-small : (b : Bool) → bit b ≤ 1
bit-small true = omega arith
bit-small false = omega arith

-- the number of a verdict is at most 1
pub free_bit-small : (v : Verdict) → free_bit v ≤ 1
free_bit-small Deadlocked = omega arith
free_bit-small Free = omega arith

-- a bit is read back from its number
eqb-bit : (b : Bool) → eqb (bit b) 1 ≡ b
eqb-bit true = refl
eqb-bit false = refl

-- a verdict is read back from its number
free-verdict : (v : Verdict) → cond (eqb (free_bit v) 1) Free Deadlocked ≡ v
free-verdict Deadlocked = refl
free-verdict Free = refl

-- a row is read back from its word
pub row_code_law : (r : Row) → row_of (row_code r) ≡ r
row_code_law r =
    let e = parts r.process (bit r.last) (free_bit r.verdict) (bit-small r.last) (free_bit-small r.verdict) in
    λ k. record {
      process = e.0 k;
      verdict = (ap (λ n. cond (eqb n 1) Free Deadlocked) e.2 ∙ free-verdict r.verdict) k;
      last = (ap (λ n. eqb n 1) e.1 ∙ eqb-bit r.last) k;
    }

-- a verdict is read back from its word
verdict_of-code : (v : Verdict) → cond (eqb (verdict_code (Some v)) 2) Free Deadlocked ≡ v
verdict_of-code Deadlocked = refl
verdict_of-code Free = refl

-- the process and the verdict are read back from the store of a verdict
pub mark_of : (p : ℕ) (v : Verdict)
    → mark (FIRST_VERDICT + p - FIRST_VERDICT) (cond (eqb (verdict_code (Some v)) 2) Free Deadlocked) ≡ mark p v
mark_of p v = let e : FIRST_VERDICT + p - FIRST_VERDICT ≡ p = omega arith in λ k. mark (e k) (verdict_of-code v k)

-- with one more put behind a list, it stands at the list's end
pub get-seam : (l : List ℕ) (a n : ℕ) → n ≡ length l → get_or (l ++ a ∷ []) n 0 ≡ a
get-seam [] a zero e = refl
get-seam [] a (suc n) e = absurd (omega arith)
get-seam (x ∷ xs) a zero e = absurd (omega arith)
get-seam (x ∷ xs) a (suc n) e = get-seam xs a n (omega arith)

-- with one more put behind a list, all other places are as before
pub get-else : (l : List ℕ) (a n : ℕ) → n ≢ length l → get_or (l ++ a ∷ []) n 0 ≡ get_or l n 0
get-else [] a zero e = absurd (e refl)
get-else [] a (suc n) e = refl
get-else (x ∷ xs) a zero e = refl
get-else (x ∷ xs) a (suc n) e = get-else xs a n (λ h. e (ap suc h))
