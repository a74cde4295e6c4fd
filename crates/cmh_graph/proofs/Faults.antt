-- Answers whose faults are turned into others.
use Rattle.std.proofs.Common.{◌≡◌, Result, Ok, Err, IfOk, MatchResult, subst}
use Rattle.std.specs.Prelude.{IsErrAnd}

module _ {A E F : Type 0} where
  -- what is known of an answer is known of what it gives, whatever becomes of its fault
  pub given : (r : Result A E) (s : Result A F) (a : A) (P : A → Type 0) (Q : E → F → Type 0)
      → MatchResult r (λ x. s ≡ Ok x) (λ e. IsErrAnd s (Q e)) → s ≡ Ok a → IfOk r P → P a
  given (Ok x) s a P Q cases is known = let first : s ≡ Ok x = cases in let e : x ≡ a = cc in subst P e known
  given (Err e) s a P Q cases is known = absurd (subst (λ t. IsErrAnd t (Q e)) is cases)
