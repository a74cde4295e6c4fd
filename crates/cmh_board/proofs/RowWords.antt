-- Rows that are read back from their words.
use Rattle.std.proofs.Common.{◌≡◌, ℕ, zero, suc, ◌+◌, ◌<◌, ◌≤◌, List, [], ◌∷◌, ◌++◌, length, map, get_or, take, refl, sym, ◌∙◌, ap, arith, Some, None, slice_get}
use Rattle.std.specs.Prelude.{Option}
use Rattle.std.specs.List.{range_with_len}
use Rattle.std.proofs.lemmas.Bool.{cases_lt}
use Rattle.std.proofs.Common.{inl, inr}
use Rattle.std.proofs.lemmas.List.{take_more, length-map, get_or_past}
use Rattle.std.proofs.lemmas.List.FromFn.{map-range_with_len_more, get_or-map-range_with_len, length-range_with_len}
use Rattle.std.proofs.lemmas.Option.{slice_get_within, get_or_from_slice_get}
use Rattle.cmh_graph.specs.declared.verdict.Verdict.{Verdict}
use Rattle.cmh_graph.specs.declared.TheConstants.{MAX_PROCESSES}
use Rattle.cmh_graph.specs.Graph.{Graph, process_count, IsWithinGraph}
use Rattle.cmh_graph.specs.Verdict.{IsVerdict}
use Rattle.cmh_graph.proofs.Verdicts.{idle_within, verdict_true}
use Rattle.cmh_rw.specs.declared.row.Row.{Row}
use Rattle.cmh_rw.specs.History.{row_code, row_of, row_words, fold_at, IsTrueOf}
use Rattle.cmh_rw.proofs.Codes.{bit-small, free_bit-small, row_code_law}
use Rattle.cmh_rw.proofs.Folds.{true-few, true-idle}
use Rattle.cmh_board.specs.Snap.{verdict_at}
use Rattle.cmh_board.proofs.Histories.{verdict_in}

-- a row that stands in true rows has a place among the processes
pub row_within : (g : Graph) (rows : List Row) (n : ℕ) → IsTrueOf g rows → n < length rows → n < process_count g
row_within g rows n t l = omega (arith, true-few g rows t)

-- the word of a row is small
code_small : (r : Row) → r.process < MAX_PROCESSES → row_code r < row_words
code_small r l = omega (arith, bit-small r.last, free_bit-small r.verdict)

-- the word of each true row is small
pub codes_small : (g : Graph) (rows : List Row) (n : ℕ) → process_count g ≤ MAX_PROCESSES → IsTrueOf g rows
    → n < length rows
    → get_or (map row_code rows) n 0 < row_words
codes_small g [] n few t l = absurd (omega arith)
codes_small g (r ∷ rs) zero few t l = let there = idle_within g r.process t.0 in code_small r (omega arith)
codes_small g (r ∷ rs) (suc n) few t l = codes_small g rs n few t.3 (omega arith)

-- the row that a word stands for is the one that stands there
pub row_back : (rows : List Row) (n code : ℕ) → n < length rows → code ≡ get_or (map row_code rows) n 0
    → slice_get rows n ≡ Some (row_of code)
row_back [] n code l e = absurd (omega arith)
row_back (r ∷ rs) zero code l e = ap (λ x. Some x) (sym (ap row_of e ∙ row_code_law r))
row_back (r ∷ rs) (suc n) code l e = row_back rs n code (omega arith) e

-- rows as far as they were read, with the next one, are the rows as far as that one
pub take_got : (rows : List Row) (n : ℕ) (r : Row) → slice_get rows n ≡ Some r
    → take (n + 1) rows ≡ take n rows ++ r ∷ []
take_got rows n r e = take_more rows n r (slice_get_within rows n r e)
    ∙ ap (λ x. take n rows ++ x ∷ []) (get_or_from_slice_get rows n r r e)

-- true rows say nothing of what is no process
absent_past : (g : Graph) (rows : List Row) (p : ℕ) → IsTrueOf g rows → process_count g ≤ p → (o : Option Verdict)
    → fold_at rows p ≡ o → o ≡ None
absent_past g rows p t past None e = refl
absent_past g rows p t past (Some v) e = let there = idle_within g p (true-idle g rows p v t e) in absurd (omega arith)

-- the list of what true rows say of each process shows the rows
pub shows_all : (g : Graph) (rows : List Row) (verdicts : List (Option Verdict)) → IsTrueOf g rows
    → verdicts ≡ map (fold_at rows) (range_with_len 0 (process_count g))
    → (p : ℕ) → verdict_at verdicts p ≡ fold_at rows p
shows_all g rows verdicts t e p = elim (cases_lt p (process_count g)) [
  | inl l ↦ ap (λ l. verdict_at l p) e
      ∙ get_or-map-range_with_len (fold_at rows) 0 (process_count g) p p None l (omega arith)
  | inr l ↦ ap (λ l. verdict_at l p) e
      ∙ get_or_past (map (fold_at rows) (range_with_len 0 (process_count g))) p None
      (rw (
        length-map (range_with_len 0 (process_count g)) (fold_at rows),
        length-range_with_len 0 (process_count g),
      ) l)
      ∙ sym (absent_past g rows p t l (fold_at rows p) refl)
]

-- what rows say of the first p processes, with what they say of p, is what they say of the first p + 1
pub verdicts_more : (rows : List Row) (verdicts : List (Option Verdict)) (p : ℕ)
    → verdicts ≡ map (fold_at rows) (range_with_len 0 p)
    → verdicts ++ fold_at rows p ∷ [] ≡ map (fold_at rows) (range_with_len 0 (p + 1))
verdicts_more rows verdicts p e =
    ap (λ l. l ++ fold_at rows p ∷ []) e ∙ sym (map-range_with_len_more (fold_at rows) 0 p p (omega arith))

-- where the rows are true, what a snapshot shows of them is the truth
pub snap_true : (g : Graph) (rows : List Row) (verdicts : List (Option Verdict)) → IsWithinGraph g → IsTrueOf g rows
    → ((p : ℕ) → verdict_at verdicts p ≡ fold_at rows p)
    → (p : ℕ) (v : Verdict) → verdict_at verdicts p ≡ Some v → IsVerdict g p v
snap_true g rows verdicts within t shows p v e = verdict_true g p v within (verdict_in g rows p v t (sym (shows p) ∙ e))
