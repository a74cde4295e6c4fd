-- The comparison of two verdicts.
use Rattle.cmh_run.proofs.Common.{◌≡◌, true, refl, Verdict, Deadlocked, Free, the_type}
use denote.Enum.Bare.{sameb}

-- two verdicts that compare as alike are equal
pub equal_verdicts : (a b : Verdict) → sameb the_type a b ≡ true → a ≡ b
equal_verdicts Deadlocked Deadlocked h = refl
equal_verdicts Deadlocked Free h = absurd (cc)
equal_verdicts Free Deadlocked h = absurd (cc)
equal_verdicts Free Free h = refl

-- a verdict compares as alike with itself
pub verdict_equals_itself : (a : Verdict) → sameb the_type a a ≡ true
verdict_equals_itself Deadlocked = refl
verdict_equals_itself Free = refl
