-- Findings become records: rows are numbered, and lists grow together.
use Rattle.std.proofs.Common.{◌≡◌, ◌≢◌, ℕ, ◌+◌, ◌<◌, ◌≤◌, inl, inr, true, false, cond, eqb, List, [], ◌∷◌, ◌++◌, drop, length, get_or, set, Some, None, sym, refl, ap, ◌∙◌, subst, arith}
use Rattle.std.specs.Prelude.{All}
use Rattle.std.proofs.lemmas.Bool.{cases_Bool, eqb-true, eqb-false}
use Rattle.std.proofs.lemmas.List.{drop_all, drop_more, get_or_default, get_or-set_other, get_or-set_same, length-set}
use Rattle.std.proofs.lemmas.List.Elements.{All-cons, All-nil, All-tail}
use Rattle.std.proofs.lemmas.Option.{slice_get_read}
use Rattle.cmh_graph.specs.declared.verdict.Verdict.{Verdict}
use Rattle.cmh_graph.specs.Graph.{Graph, process_count}
use Rattle.cmh_graph.proofs.Verdicts.{idle_within}
use Rattle.cmh_rw.specs.declared.row.Row.{Row}
use Rattle.cmh_rw.specs.History.{fold_at, IsTrueOf}
use Rattle.cmh_work.specs.declared.finding.Finding.{Finding}
use Rattle.cmh_work.specs.declared.record.Record.{Record}
use Rattle.cmh_work.specs.Record.{IsRowFor}
use Rattle.cmh_work.specs.Numbering.{IsNumbered, AreNumbered}

-- numbered findings with one more, and its record, are numbered
pub numbered_more : {L : Type 0} {R : Type 0} (rows : List Row) (fs : List (Finding R L)) (rs : List (Record R L))
    (f : Finding R L) (r : Record R L) → AreNumbered rows fs rs → IsNumbered rows f r
    → AreNumbered rows (fs ++ f ∷ []) (rs ++ r ∷ [])
numbered_more rows [] [] f r h k = (k, tt)
numbered_more rows [] (x ∷ xs) f r h k = absurd h
numbered_more rows (y ∷ ys) [] f r h k = absurd h
numbered_more rows (y ∷ ys) (x ∷ xs) f r h k = (h.0, numbered_more rows ys xs f r h.1 k)

-- what a row of p says, the rows say of p that begin with it
said_here : (r : Row) (rest : List Row) (p : ℕ) → eqb r.process p ≡ true → fold_at (r ∷ rest) p ≡ Some r.verdict
said_here r rest p e = ap (λ b. cond b (Some r.verdict) (fold_at rest p)) e

-- a row in front of another process than p changes nothing of what the rows say of p
said_later : (r : Row) (rest : List Row) (p : ℕ) → eqb r.process p ≡ false → fold_at (r ∷ rest) p ≡ fold_at rest p
said_later r rest p e = ap (λ b. cond b (Some r.verdict) (fold_at rest p)) e

-- the rows of a history that is true of a graph are of its processes
pub rows_within : (g : Graph) (rows : List Row) → IsTrueOf g rows → All (λ (r : Row). r.process < process_count g) rows
rows_within g [] h = All-nil (λ (r : Row). r.process < process_count g)
rows_within g (r ∷ rs) h =
    All-cons (λ (x : Row). x.process < process_count g) r rs (idle_within g r.process h.0) (rows_within g rs h.3)

-- a process that stands in rows of this number of processes is one of these
stands_within : (rows : List Row) (count p : ℕ) (v : Verdict) → All (λ (r : Row). r.process < count) rows
    → fold_at rows p ≡ Some v → p < count
stands_within [] count p v w e = absurd cc
stands_within (r ∷ rs) count p v w e = elim (cases_Bool (eqb r.process p)) [
  | inl same ↦ let process = eqb-true r.process p same in omega (arith, process, w 0 r (omega arith))
  | inr other ↦
      stands_within rs count p v (All-tail (λ (x : Row). x.process < count) r rs w) (sym (said_later r rs p other) ∙ e)
]

-- From row n on each row's process has the number of a row that says what the rows from there on say of it.
pub record NumbersFrom (rows : List Row) (count n : ℕ) (numbers : List ℕ) : Type 0 where
  pub size : length numbers ≡ count
  pub few : n ≤ length rows
  pub each : (p : ℕ) (v : Verdict) → fold_at (drop n rows) p ≡ Some v → IsRowFor rows (get_or numbers p 0) p v

-- past the last row there is nothing to number
pub numbers_start : (rows : List Row) (count n : ℕ) (numbers : List ℕ) → n ≡ length rows → length numbers ≡ count
    → NumbersFrom rows count n numbers
numbers_start rows count n numbers end size = record {
  size = size;
  few = omega arith;
  each = λ p v e.
      let none = ap (λ l. fold_at l p) (drop_all n rows (omega arith)) in
      let bad : None ≡ Some v = sym none ∙ e in
      absurd cc;
}

-- the row of this number is p's, with what it says
row_for : (rows : List Row) (n p : ℕ) (r : Row) (v : Verdict) → n < length rows → r ≡ get_or rows n r
    → r.process ≡ p → r.verdict ≡ v → IsRowFor rows n p v
row_for rows n p r v low at process verdict =
    let row : r ≡ record { process = p; verdict = v; last = r.last } =
    λ i. record { process = process i; verdict = verdict i; last = r.last } in
    (r.last, slice_get_read rows (length rows) n r refl low at ∙ ap Some row)

-- once the row before the numbered ones has its number, the rows from it on are numbered
pub numbers_more : (rows : List Row) (count k n : ℕ) (d : Row) (numbers : List ℕ) → k ≡ n + 1
    → All (λ (r : Row). r.process < count) rows → NumbersFrom rows count k numbers
    → NumbersFrom rows count n (set numbers (get_or rows n d).process n)
numbers_more rows count k n d numbers next w s =
    let r = get_or rows n d in
    let rest = drop (n + 1) rows in
    let low : n < length rows = omega (arith, s.few, next) in
    let here : drop n rows ≡ r ∷ rest = drop_more rows n d low in
    record {
      size = length-set numbers r.process n ∙ s.size;
      few = omega (arith, low);
      each = λ p v e.
          let says : fold_at (r ∷ rest) p ≡ Some v = ap (λ l. fold_at l p) (sym here) ∙ e in
          elim (cases_Bool (eqb r.process p)) [
            | inl same ↦
                let process = eqb-true r.process p same in
                let told : Some r.verdict ≡ Some v = sym (said_here r rest p same) ∙ says in
                let verdict : r.verdict ≡ v = cc in
                let number : get_or (set numbers r.process n) p 0 ≡ n =
                ap (λ q. get_or (set numbers q n) p 0) process
                ∙ get_or-set_same numbers p n 0 (omega (arith, w n d low, process, s.size)) in
                subst (λ m. IsRowFor rows m p v) (sym number)
                (row_for rows n p r v low (get_or_default rows n d r low) process verdict)
            | inr other ↦
                let apart : p ≢ r.process = λ same. eqb-false r.process p other (sym same) in
                let later : fold_at (drop k rows) p ≡ Some v =
                ap (λ m. fold_at (drop m rows) p) next ∙ sym (said_later r rest p other) ∙ says in
                subst (λ m. IsRowFor rows m p v) (sym (get_or-set_other numbers r.process p n 0 apart))
                (s.each p v later)
          ];
    }

-- each process that stands in the rows has a number
pub numbers_within : (rows : List Row) (count n : ℕ) (numbers : List ℕ)
    → All (λ (r : Row). r.process < count) rows → NumbersFrom rows count n numbers
    → (p : ℕ) (v : Verdict) → fold_at rows p ≡ Some v → p < length numbers
numbers_within rows count n numbers w s p v e = omega (arith, stands_within rows count p v w e, s.size)

-- numbers from the first row on are the numbers of all rows
pub numbers_all : (rows : List Row) (count n : ℕ) (numbers : List ℕ) → n ≡ 0 → NumbersFrom rows count n numbers
    → (p : ℕ) (v : Verdict) → fold_at rows p ≡ Some v → IsRowFor rows (get_or numbers p 0) p v
numbers_all rows count n numbers first s p v e = s.each p v (ap (λ m. fold_at (drop m rows) p) first ∙ e)
