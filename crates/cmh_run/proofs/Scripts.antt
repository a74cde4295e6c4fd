-- What lines answer, and which of them are refused.
use Rattle.cmh_run.proofs.Common.{◌≡◌, ℕ, suc, ◌<◌, ◌≤◌, Bool, false, not, eqb, List, [], ◌∷◌, length, get_or, slice_get, Some, None, refl, sym, ◌∙◌, inl, inr, arith, IfSome, true≢false, cases_Bool, eqb-true, and_parts, slice_get-get_or, slice_get_within, get_or_from_slice_get, Verdict, Free, the_type, Graph, process_count, IsWithinGraph, verdict, verdicts, IsVerdict, length-by_index, one_verdict, verdict_true, ScriptLine, AreTrueOf}
use Rattle.std.specs.Prelude.{nat_le, position, ◌&&◌, ◌==◌}
use Rattle.std.specs.Bool.{Decides}
use Rattle.std.specs.List.{position_or_len}
use Rattle.std.proofs.lemmas.Bool.Decides.{Decides-not, not_from_Decides}
use Rattle.std.proofs.lemmas.Grind.{common_steps}
use Rattle.std.proofs.lemmas.List.Quantifiers.{position-Some}
use Rattle.std.proofs.lemmas.List.Sums.{fails_before_first}
use denote.Enum.Bare.{sameb}
use Rattle.cmh_graph.specs.Judge.{IsFirst}
use Rattle.cmh_graph.proofs.PartLemmas.{first_place}
use Rattle.cmh_graph.proofs.Verdicts.{verdict_listed}
use Rattle.cmh_run.specs.Script.{answer_at, IsLineOutOfRange, is_listed}
use Rattle.cmh_run.proofs.Verdicts.{equal_verdicts, verdict_equals_itself}

-- ---- what lines answer

-- true lines answer the truth about a process at each ask
pub told_true : (g : Graph) (lines : List ScriptLine) (ask p : ℕ) → AreTrueOf g lines
    → IfSome (answer_at lines ask p) (λ v. IsVerdict g p v)
told_true g [] ask p h = tt
told_true g (e ∷ lines) ask p h = elim (cases_Bool (e.0 == ask && e.1 == p)) [
  | inl t ↦ rw t (rw (eqb-true e.1 p (and_parts (eqb e.0 ask) (eqb e.1 p) t).1) at (h 0 e refl))
  | inr f ↦ rw f (told_true g lines ask p (λ i x s. h (suc i) x s))
]

-- ---- the first line that passes a test

-- a line, where any will do
no_line : ScriptLine
no_line = (0, 0, Free)

module _ (test : ScriptLine → Bool) (P : ScriptLine → Type 0) (lines : List ScriptLine)
    (means : (k : ℕ) (line : ScriptLine) → slice_get lines k ≡ Some line → Decides (test line) (P line)) where
  -- line k is one of which P holds
  abbrev IsAt : ℕ → Type 0
  IsAt k = (line : ScriptLine) × (slice_get lines k ≡ Some line) × P line

  -- where line k fails the test, P doesn't hold of it
  fails : (k : ℕ) → test (get_or lines k no_line) ≡ false → IsAt k → ⊥
  fails k e (line, is, h) =
      true≢false (sym ((means k line is).1 h) ∙ rw (← get_or_from_slice_get lines k line no_line is) e)

  -- where no line passes the test, P holds of none
  pub none_found : position test lines ≡ None → (k : ℕ) → IsAt k → ⊥
  none_found e k h =
      let past : length lines ≤ position_or_len test lines = grind (arith, common_steps) in
      fails k (fails_before_first test lines k no_line (omega (arith, slice_get_within lines k h.0 h.1, past))) h

  -- the first line that passes the test is the first of which P holds
  pub first_found : (i : ℕ) → position test lines ≡ Some i → IsFirst IsAt i
  first_found i e =
      let found = position-Some test lines i no_line e in
      let there = slice_get-get_or lines i no_line found.0 in
      first_place IsAt i (λ k below. fails k (found.2 k below))
      (get_or lines i no_line, there, (means i (get_or lines i no_line) there).0 found.1)

-- ---- lines out of range

-- a line is about none of this number of processes exactly where it passes the test
pub beyond_means : {n count : ℕ} (lines : List ScriptLine) → n ≡ count → (k : ℕ) (line : ScriptLine)
    → slice_get lines k ≡ Some line → Decides (nat_le n line.1) (count ≤ line.1)
beyond_means lines is k line s = (λ e. grind (arith, is), λ l. grind (arith, is))

-- ---- lines that aren't true

-- the list of all verdicts has that of each process
pub truth_at : (g : Graph) (truth : List Verdict) (p : ℕ) → truth ≡ verdicts g → p < process_count g → p < length truth
truth_at g truth p is within = rw (is, length-by_index g (verdict g)) within

-- a verdict is that of a process exactly where it equals the one by the test
pub verdict_decides : (g : Graph) (p : ℕ) (v : Verdict) → IsWithinGraph g
    → Decides (sameb the_type (verdict g p) v) (IsVerdict g p v)
verdict_decides g p v w = (
  λ e. verdict_true g p v w (equal_verdicts (verdict g p) v e),
  λ h. rw (one_verdict g p (verdict g p) v (verdict_true g p (verdict g p) w refl) h) (verdict_equals_itself v),
)

module _ (g : Graph) (truth : List Verdict) (lines : List ScriptLine) (w : IsWithinGraph g)
    (is : truth ≡ verdicts g) (never : (k : ℕ) → IsLineOutOfRange (process_count g) lines k → ⊥) where
  -- a line is in the list of all verdicts exactly where it is true
  listed_means : (k : ℕ) (line : ScriptLine) → slice_get lines k ≡ Some line
      → Decides (is_listed truth line) (IsVerdict g line.1 line.2)
  listed_means k line s =
      let not_more : process_count g ≤ line.1 → ⊥ = λ l. never k (line, s, l) in
      let within : line.1 < process_count g = omega arith in
      rw (
        slice_get-get_or truth line.1 Free (truth_at g truth line.1 is within),
        verdict_listed g truth line.1 Free is within,
      ) (verdict_decides g line.1 line.2 w)

  -- a line isn't in the list of all verdicts exactly where it isn't true
  pub unlisted_means : (k : ℕ) (line : ScriptLine) → slice_get lines k ≡ Some line
      → Decides (not (is_listed truth line)) (IsVerdict g line.1 line.2 → ⊥)
  unlisted_means k line s = Decides-not (is_listed truth line) (listed_means k line s)

  -- where each line is in the list of all verdicts, all are true
  pub true_of : position (λ (line : ScriptLine). not (is_listed truth line)) lines ≡ None → AreTrueOf g lines
  true_of e k line s = elim (cases_Bool (is_listed truth line)) [
    | inl listed ↦ (listed_means k line s).0 listed
    | inr unlisted ↦ absurd (none_found _ _ lines unlisted_means e k
        (line, s, not_from_Decides (is_listed truth line) (listed_means k line s) unlisted))
  ]
