-- The stores of a row and of a verdict keep the rule.
use Rattle.std.proofs.Common.{◌≡◌, ℕ, ◌+◌, ◌-◌, ◌<◌, true, cond, eqb, Some, List, [], ◌∷◌, ◌++◌, map, length, get_or, set, sym, refl, ap, ◌∙◌, subst, arith, length-append, append_assoc, get_or-set_same, get_or-set_other, inl, inr, ⊎_elim}
use Rattle.std.proofs.lemmas.List.{length-map}
use Rattle.std.proofs.lemmas.Bool.{cases_eq, cases_Bool, ne_eqb}
use mathlib.Core.List.{map-append}
use Rattle.atomic_table.specs.Table.{keeps, Allows}
use Rattle.atomic_table.proofs.Lists.{at_set, at_map}
use Rattle.cmh_graph.specs.declared.TheConstants.{MAX_PROCESSES}
use Rattle.cmh_graph.specs.declared.verdict.Verdict.{Verdict}
use Rattle.cmh_graph.specs.declared.verdict.Verdict.TheVariants.{Deadlocked, Free}
use Rattle.cmh_graph.specs.Graph.{Graph, is_idle}
use Rattle.cmh_graph.specs.Verdict.{verdict}
use Rattle.cmh_rw.specs.declared.TheConstants.{FIRST_ROW, FIRST_VERDICT}
use Rattle.cmh_rw.specs.declared.machine.SeatState.TheVariants.{Writing}
use Rattle.cmh_rw.specs.declared.row.Row.{Row}
use Rattle.cmh_rw.specs.declared.view.View.{View}
use Rattle.cmh_rw.specs.History.{rows_in, row_code, row_of, verdict_code, fold_at, IsOpen, IsTrueOf}
use Rattle.cmh_rw.specs.Machine.{total}
use Rattle.cmh_rw.specs.View.{CanStage, with_row, with_told, mark}
use Rattle.cmh_rw.specs.Rule.{lock_of, SeatRule, WordsRule}
use Rattle.cmh_rw.proofs.Codes.{row_code_law, mark_of, get-seam, get-else}
use Rattle.cmh_rw.proofs.Folds.{fold-else, fold-keeps, fold-skip, true-snoc, true-apart, told-now}
use Rattle.cmh_rw.proofs.Lawful.{total-set}
use Rattle.cmh_rw.proofs.Moments.{TableSeat, held_graph, writes-Writing, beside_writer, some_writer, lock_beside}
use Rattle.cmh_rw.proofs.Postings.{part-snoc}

-- beside a writer, a seat knows the same whatever rows are staged and verdicts stored
still : (postings : List (List Row)) (staged told more_staged more_told : List Row) (u : View)
    → (u.lock.state ≡ Writing → ⊥) → SeatRule postings staged told u → SeatRule postings more_staged more_told u
still postings staged told more_staged more_told u not k =
    record {
      writing = λ e. absurd (not e);
      bare = k.bare;
      ready = k.ready;
      seen = k.seen;
      other = k.other;
      fresh = k.fresh;
      gone = k.gone;
    }

-- where a writer stores a row that it may stage, the rule is kept
pub stages : (key : Graph) (slots id n : ℕ) (r : Row) (me : TableSeat) → me.0.lock.state ≡ Writing → me.0.loaded ≡ true
    → CanStage me.0 r → n ≡ length me.0.seen + length me.0.staged → n < MAX_PROCESSES
    → Allows (WordsRule key) slots id me (FIRST_ROW + n) (λ _. row_code r)
    (λ _ m. m ≡ (with_row me.0 (row_of (row_code r)), me.1))
stages key slots id n r me writing loaded can is low s b _ at _ =
    let v = me.0 in let w = with_row v r in let old = rows_in b.postings in
    let k = b.each id v at in let own = k.writing writing in let fresh = k.fresh loaded in let all = old ++ b.staged in
    let staged : v.staged ++ r ∷ [] ≡ b.staged ++ r ∷ [] = ap (λ l. l ++ r ∷ []) own.0 in
    let longer : all ++ r ∷ [] ≡ old ++ (b.staged ++ r ∷ []) = append_assoc old b.staged (r ∷ []) in
    let codes : map row_code (all ++ r ∷ []) ≡ map row_code all ++ row_code r ∷ [] = map-append row_code all (r ∷ []) in
    let seen : v.seen ++ v.staged ≡ all = ap (λ l. l ++ v.staged) fresh.1 ∙ ap (λ l. old ++ l) own.0 in
    let end : n ≡ length (map row_code all) =
    is ∙ sym (length-append v.seen v.staged) ∙ ap length seen ∙ sym (length-map all row_code) in
    let graph : v.lock.graph ≡ key =
    held_graph key v.lock (b.lock.each id v.lock (at_map lock_of s.views id v at)) fresh.0 in
    let wide = b.lock.wide in (
      w,
      keeps,
      tt,
      record {
        postings = b.postings;
        staged = b.staged ++ r ∷ [];
        told = b.told;
        small = b.small;
        lock = lock_beside key s b id v w (FIRST_ROW + n) (row_code r) at refl (omega arith);
        count = get_or-set_other s.words (FIRST_ROW + n) 1 (row_code r) 0 (λ e. omega arith) ∙ b.count;
        rows = λ i small. ⊎_elim
            (λ same. ap (λ j. get_or (set s.words (FIRST_ROW + n) (row_code r)) (FIRST_ROW + j) 0) same
            ∙ get_or-set_same s.words (FIRST_ROW + n) (row_code r) 0 (omega arith)
            ∙ sym (get-seam (map row_code all) (row_code r) i (same ∙ end))
            ∙ ap (λ l. get_or l i 0) (sym codes ∙ ap (map row_code) longer))
            (λ other. get_or-set_other s.words (FIRST_ROW + n) (FIRST_ROW + i) (row_code r) 0 (λ e. other (omega arith))
            ∙ b.rows i small ∙ sym (get-else (map row_code all) (row_code r) i (λ e. other (e ∙ sym end)))
            ∙ ap (λ l. get_or l i 0) (sym codes ∙ ap (map row_code) longer))
            (cases_eq i n);
        verdicts =
            λ p small. get_or-set_other s.words (FIRST_ROW + n) (FIRST_VERDICT + p) (row_code r) 0 (λ e. omega arith)
            ∙ b.verdicts p small;
        whole = b.whole;
        true_of =
            subst (IsTrueOf key) longer
            (true-snoc key all r b.true_of (ap (λ g. is_idle g r.process) (sym graph) ∙ can.idle)
            (can.true_verdict ∙ ap (λ g. verdict g r.process) graph)
            (ap (λ l. fold_at l r.process) (sym seen) ∙ can.fresh));
        part = part-snoc b.staged r (subst IsOpen own.0 can.unended) (cases_Bool r.last);
        told_of =
            λ p. ⊎_elim inl
            (λ same. ⊎_elim (λ z. inl (same ∙ z)) (λ e. inr (same ∙ sym e)) (fold-keeps b.staged (r ∷ []) p))
            (b.told_of p);
        idle = λ z. absurd (some_writer key s id v w at refl writing z);
        each = λ i u e. ⊎_elim
            (λ t. subst (SeatRule b.postings (b.staged ++ r ∷ []) b.told) t.1
            record {
              writing = λ _. (staged, own.1);
              bare = λ not. absurd (not writing);
              ready = inr loaded;
              seen = k.seen;
              other = k.other;
              fresh = k.fresh;
              gone = k.gone;
            })
            (λ t. still b.postings b.staged b.told (b.staged ++ r ∷ []) b.told u
            (λ writes. writes-Writing u.lock.state writes (beside_writer key s b id i v u at writing t.1 t.0).0)
            (b.each i u t.1))
            (at_set s.views id i w u e);
        owners = λ h. let sum = total-set (λ (u : View). total h u.mine) s.views id v w at in omega (arith, b.owners h);
      },
      ap (λ q. (with_row v q, me.1)) (sym (row_code_law r)),
    )

-- where a writer stores the verdict of a staged row, the rule is kept
pub tells : (key : Graph) (slots id p : ℕ) (says : Verdict) (me : TableSeat) → me.0.lock.state ≡ Writing
    → fold_at me.0.staged p ≡ Some says → p < MAX_PROCESSES
    → Allows (WordsRule key) slots id me (FIRST_VERDICT + p) (λ _. verdict_code (Some says))
    (λ _ m. m ≡ (
      with_told me.0
          (mark (FIRST_VERDICT + p - FIRST_VERDICT) (cond (eqb (verdict_code (Some says)) 2) Free Deadlocked)),
      me.1,
    ))
tells key slots id p says me writing staged_says low s b _ at _ =
    let v = me.0 in let q = mark p says in let w = with_told v q in let old = rows_in b.postings in
    let k = b.each id v at in let own = k.writing writing in let code = verdict_code (Some says) in
    let said : fold_at b.staged p ≡ Some says = ap (λ l. fold_at l p) (sym own.0) ∙ staged_says in
    let none_old = true-apart key old b.staged p says b.true_of said in
    let now = told-now b.told b.staged q said (b.told_of p) in
    let wide = b.lock.wide in (
      w,
      keeps,
      tt,
      record {
        postings = b.postings;
        staged = b.staged;
        told = b.told ++ q ∷ [];
        small = b.small;
        lock = lock_beside key s b id v w (FIRST_VERDICT + p) code at refl (omega arith);
        count = get_or-set_other s.words (FIRST_VERDICT + p) 1 code 0 (λ e. omega arith) ∙ b.count;
        rows =
            λ i small. get_or-set_other s.words (FIRST_VERDICT + p) (FIRST_ROW + i) code 0 (λ e. omega arith)
            ∙ b.rows i small;
        verdicts = λ j small. ⊎_elim
            (λ same. ap (λ n. get_or (set s.words (FIRST_VERDICT + p) code) (FIRST_VERDICT + n) 0) same
            ∙ get_or-set_same s.words (FIRST_VERDICT + p) code 0 (omega arith)
            ∙ sym
            (ap verdict_code
            (ap (fold_at (old ++ (b.told ++ q ∷ []))) same ∙ fold-skip old (b.told ++ q ∷ []) p none_old ∙ now)))
            (λ other. get_or-set_other s.words (FIRST_VERDICT + p) (FIRST_VERDICT + j) code 0 (λ e. other (omega arith))
            ∙ b.verdicts j small
            ∙ sym
            (ap verdict_code
            (ap (λ l. fold_at l j) (sym (append_assoc old b.told (q ∷ [])))
            ∙ fold-else (old ++ b.told) q j (ne_eqb p j (λ e. other (sym e))))))
            (cases_eq j p);
        whole = b.whole;
        true_of = b.true_of;
        part = b.part;
        told_of = λ j. ⊎_elim
            (λ same. inr (ap (fold_at (b.told ++ q ∷ [])) same ∙ now ∙ sym (ap (fold_at b.staged) same ∙ said)))
            (λ other. let e = fold-else b.told q j (ne_eqb p j (λ e. other (sym e))) in
            ⊎_elim (λ z. inl (e ∙ z)) (λ y. inr (e ∙ y)) (b.told_of j))
            (cases_eq j p);
        idle = λ z. absurd (some_writer key s id v w at refl writing z);
        each = λ i u e. ⊎_elim
            (λ t. subst (SeatRule b.postings b.staged (b.told ++ q ∷ [])) t.1
            record {
              writing = λ _. (own.0, ap (λ l. l ++ q ∷ []) own.1);
              bare = λ not. absurd (not writing);
              ready = k.ready;
              seen = k.seen;
              other = k.other;
              fresh = k.fresh;
              gone = k.gone;
            })
            (λ t. still b.postings b.staged b.told b.staged (b.told ++ q ∷ []) u
            (λ writes. writes-Writing u.lock.state writes (beside_writer key s b id i v u at writing t.1 t.0).0)
            (b.each i u t.1))
            (at_set s.views id i w u e);
        owners = λ h. let sum = total-set (λ (u : View). total h u.mine) s.views id v w at in omega (arith, b.owners h);
      },
      ap (λ r. (with_told v r, me.1)) (sym (mark_of p says)),
    )
