-- The store of the count keeps the rule: the staged rows become the next posting.
use Rattle.std.proofs.Common.{◌≡◌, ℕ, ◌+◌, true, [], ◌∷◌, ◌++◌, map, length, get_or, sym, refl, ap, ◌∙◌, subst, arith, length-append, append-nil, get_or-set_same, get_or-set_other, inl, ⊎_elim}
use Rattle.atomic_table.specs.Table.{keeps, Allows}
use Rattle.atomic_table.proofs.Lists.{at_set}
use Rattle.cmh_graph.specs.Graph.{Graph}
use Rattle.cmh_rw.specs.declared.TheConstants.{FIRST_ROW, FIRST_VERDICT}
use Rattle.cmh_rw.specs.declared.machine.SeatState.TheVariants.{Writing}
use Rattle.cmh_rw.specs.declared.view.View.{View}
use Rattle.cmh_rw.specs.Machine.{total, writes}
use Rattle.cmh_rw.specs.History.{rows_in, row_code, verdict_code, fold_at, EndsLast, IsPosting, IsTrueOf, AreTold}
use Rattle.cmh_rw.specs.View.{view_after_posting}
use Rattle.cmh_rw.specs.Rule.{SeatRule, WordsRule}
use Rattle.cmh_rw.proofs.Folds.{fold-same, told-all}
use Rattle.cmh_rw.proofs.Lawful.{total-set, total-append}
use Rattle.cmh_rw.proofs.Moments.{TableSeat, writes-Writing, beside_writer, lock_beside}
use Rattle.cmh_rw.proofs.Postings.{rows_in-snoc, whole-snoc, seen-grows, posting_from, ends-some}

-- where a writer stores the count, the rule is kept, and its staged rows are the next posting
pub counts_in : (key : Graph) (slots id n : ℕ) (me : TableSeat) → me.0.lock.state ≡ Writing → EndsLast me.0.staged
    → AreTold me.0.staged me.0.told
    → n ≡ length me.0.seen + length me.0.staged
    → Allows (WordsRule key) slots id me 1 (λ _. n)
    (λ _ m. (m ≡ (view_after_posting me.0, me.1)) × IsPosting me.0.staged)
counts_in key slots id n me writing ends stored is s b _ at _ =
    let v = me.0 in let w = view_after_posting v in let old = rows_in b.postings in
    let k = b.each id v at in let own = k.writing writing in
    let loaded : v.loaded ≡ true = ⊎_elim (λ none. absurd (ends-some v.staged ends none)) (λ yes. yes) k.ready in
    let fresh = k.fresh loaded in let all = b.postings ++ b.staged ∷ [] in
    let posting : IsPosting b.staged = posting_from b.staged b.part (subst EndsLast own.0 ends) in
    let told : (p : ℕ) → fold_at b.told p ≡ fold_at b.staged p =
    told-all b.staged b.told b.told_of
    (λ p says e. ap (λ l. fold_at l p) (sym own.1) ∙ stored p says (ap (λ l. fold_at l p) own.0 ∙ e)) in
    let now : rows_in all ≡ old ++ b.staged = rows_in-snoc b.postings b.staged in
    let mine : v.seen ++ v.staged ≡ rows_in all = ap (λ l. l ++ v.staged) fresh.1 ∙ ap (λ l. old ++ l) own.0
    ∙ sym now in
    let rest : rows_in all ++ [] ≡ old ++ b.staged = append-nil (rows_in all) ∙ now in
    let wide = b.lock.wide in (
      w,
      keeps,
      tt,
      record {
        postings = all;
        staged = [];
        told = [];
        small = b.small;
        lock = lock_beside key s b id v w 1 n at refl (omega arith);
        count =
            get_or-set_same s.words 1 n 0 (omega arith) ∙ (is ∙ sym (length-append v.seen v.staged) ∙ ap length mine);
        rows =
            λ i low. get_or-set_other s.words 1 (FIRST_ROW + i) n 0 (λ e. omega arith) ∙ b.rows i low
            ∙ ap (λ l. get_or (map row_code l) i 0) (sym rest);
        verdicts =
            λ p low. get_or-set_other s.words 1 (FIRST_VERDICT + p) n 0 (λ e. omega arith) ∙ b.verdicts p low
            ∙ ap verdict_code (fold-same old b.told b.staged p (told p))
            ∙ ap (λ l. verdict_code (fold_at l p)) (sym rest);
        whole = whole-snoc b.postings b.staged b.whole posting;
        true_of = subst (IsTrueOf key) (sym rest) b.true_of;
        part = inl tt;
        told_of = λ p. inl refl;
        idle = λ _. (refl, refl);
        each = λ i u e. ⊎_elim
            (λ t. subst (SeatRule all [] []) t.1 record {
              writing = λ _. (refl, refl);
              bare = λ _. (refl, refl);
              ready = inl refl;
              seen = (all, [], sym (append-nil all), mine);
              other = seen-grows v.other b.postings b.staged k.other;
              fresh = λ _. (fresh.0, mine);
              gone = λ e. absurd (let one = ap writes writing in let z = ap writes e in omega arith);
            })
            (λ t. let j = b.each i u t.1 in let free = beside_writer key s b id i v u at writing t.1 t.0 in record {
              writing = λ wr. absurd (writes-Writing u.lock.state wr free.0);
              bare = j.bare;
              ready = j.ready;
              seen = seen-grows u.seen b.postings b.staged j.seen;
              other = seen-grows u.other b.postings b.staged j.other;
              fresh = λ yes. let h = (j.fresh yes).0 in absurd (omega (arith, free.0, free.1));
              gone = j.gone;
            })
            (at_set s.views id i w u e);
        owners =
            λ h. let sum = total-set (λ (u : View). total h u.mine) s.views id v w at in
            let a = total-append h v.mine (v.staged ∷ []) in
            let c = total-append h b.postings (b.staged ∷ []) in
            let same = ap h own.0 in
            omega (arith, b.owners h);
      },
      (refl, subst IsPosting (sym own.0) posting),
    )
