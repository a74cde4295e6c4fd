-- What a writer has added.
use Rattle.std.proofs.Common.{◌≡◌, ℕ, ◌+◌, ◌<◌, ◌≤◌, List, [], ◌∷◌, ◌++◌, length, refl, sym, ◌∙◌, ap, subst, arith, append-nil}
use Rattle.std.proofs.lemmas.List.{nil_from_length}
use Rattle.cmh_graph.specs.declared.verdict.Verdict.{Verdict}
use Rattle.cmh_graph.specs.Graph.{Graph, IsWithinGraph}
use Rattle.cmh_graph.proofs.Verdicts.{true_verdict}
use Rattle.cmh_rw.specs.declared.row.Row.{Row}
use Rattle.cmh_rw.specs.declared.view.View.{View}
use Rattle.cmh_rw.specs.History.{fold_at, EndsLast, IsPosting, IsHistory, IsTrueOf, AreTold}
use Rattle.cmh_rw.specs.declared.machine.SeatState.TheVariants.{Writing}
use Rattle.cmh_rw.specs.View.{AfterLoad, view_after_posting, view_after_try, view_after_end}
use Rattle.cmh_board.specs.Board.{unposted_in, rows_of, with_posting, row_times, loads_to_add, Posts}
use Rattle.cmh_board.specs.Posting.{PostingValue, IsTruth}
use Rattle.cmh_board.specs.Adding.{CanPost, IsWriter, OnlyLoads, Stages, Adds}
use Rattle.cmh_board.proofs.PostingRows.{rows_end, rows_told, true_behind, said_behind, once_behind, history-snoc, length-rows_of}

-- the rows that a posting adds to a history: those of its processes that stand in no row yet
abbrev new_rows : PostingValue → List Row → List Row
new_rows t rows = rows_of t.verdict (unposted_in rows t.processes)

-- a seat that has seen the new rows behind the history has added them
adds_from : (t : PostingValue) (v a w : View) (found : ℕ) → CanPost v.lock.graph t.verdict t.processes
    → AfterLoad v 1 found a
    → w.seen ≡ a.seen ++ new_rows t a.seen → w.mine ≡ with_posting v.mine (new_rows t a.seen) → w.lock ≡ v.lock
    → w.staged ≡ [] → w.loads + 1 ≡ a.loads + loads_to_add t (new_rows t a.seen) → IsHistory w.seen → Adds t v w
adds_from t v a w found can h seen mine lock staged loads history =
    let g = v.lock.graph in
    let begins = h.begins.1 in record {
      added = record {
        between = h.begins.0;
        rows = new_rows t a.seen;
        new = ap (new_rows t) begins;
        seen = seen ∙ ap (λ l. l ++ new_rows t a.seen) begins;
        mine = mine;
        loads = (let e = ap (λ (u : View). u.loads) h.view in omega arith);
        once = λ p c. ap (row_times p) seen ∙ once_behind g t.verdict t.processes a.seen h.true_of can p c;
        says = λ p c. ap (λ l. fold_at l p) seen ∙ said_behind g t.verdict t.processes a.seen h.true_of can p c;
      };
      lock = lock;
      staged = staged;
      whole = history;
      true_of = subst (IsTrueOf g) (sym seen) (true_behind g t.verdict t.processes a.seen h.true_of can);
    }

-- where no process of the posting is new, the seat has added it, with no rows
pub adds_none : (t : PostingValue) (v a b : View) (found : ℕ) → IsWriter v → CanPost v.lock.graph t.verdict t.processes
    → AfterLoad v 1 found a
    → OnlyLoads (length t.processes) a b → length (unposted_in a.seen t.processes) ≡ 0 → Adds t v b
adds_none t v a b found writer can h loads few =
    let none : new_rows t a.seen ≡ [] = ap (rows_of t.verdict) (nil_from_length (unposted_in a.seen t.processes) few) in
    let seen : b.seen ≡ a.seen ++ new_rows t a.seen =
    loads.seen ∙ sym (append-nil a.seen) ∙ ap (λ l. a.seen ++ l) (sym none) in
    adds_from t v a b found can h seen
    (loads.mine ∙ ap (λ (u : View). u.mine) h.view ∙ ap (with_posting v.mine) (sym none))
    (loads.lock ∙ ap (λ (u : View). u.lock) h.view)
    (loads.staged ∙ ap (λ (u : View). u.staged) h.view ∙ writer.unstaged)
    (let e = loads.loads in let n = ap (loads_to_add t) none in omega arith)
    (subst IsHistory (sym loads.seen) h.whole)

-- a posting with rows is added
some_posting : (mine : List (List Row)) (d : Verdict) (ps : List ℕ) → 0 < length ps
    → with_posting mine (rows_of d ps) ≡ mine ++ rows_of d ps ∷ []
some_posting mine d [] l = absurd (omega arith)
some_posting mine d (p ∷ ps) l = refl

-- for a posting with rows each verdict is loaded twice
loads_of_some : (t : PostingValue) (ps : List ℕ) → 0 < length ps
    → loads_to_add t (rows_of t.verdict ps) ≡ 1 + length t.processes + length t.processes
loads_of_some t [] l = absurd (omega arith)
loads_of_some t (p ∷ ps) l = refl

-- where new rows were staged and counted, the seat has added the posting
pub adds_rows : (t : PostingValue) (v a b s w : View) (found : ℕ) → CanPost v.lock.graph t.verdict t.processes
    → AfterLoad v 1 found a
    → OnlyLoads (length t.processes) a b → Stages t.verdict t.processes b s → w ≡ view_after_posting s
    → IsPosting s.staged
    → 0 < length (unposted_in a.seen t.processes)
    → Adds t v w
adds_rows t v a b s w found can h loads st e posting some =
    let rows = new_rows t a.seen in
    let staged : s.staged ≡ rows = st.staged ∙ ap (new_rows t) loads.seen in
    let kept : s.seen ≡ a.seen = st.seen ∙ loads.seen in
    let seen : w.seen ≡ a.seen ++ rows =
    ap (λ (u : View). u.seen) e ∙ ap (λ l. l ++ s.staged) kept ∙ ap (λ l. a.seen ++ l) staged in
    adds_from t v a w found can h seen
    (ap (λ (u : View). u.mine) e
    ∙ ap (λ l. l ++ s.staged ∷ []) (st.mine ∙ loads.mine ∙ ap (λ (u : View). u.mine) h.view)
    ∙ ap (λ r. v.mine ++ r ∷ []) staged ∙ sym (some_posting v.mine t.verdict (unposted_in a.seen t.processes) some))
    (ap (λ (u : View). u.lock) e ∙ st.lock ∙ loads.lock ∙ ap (λ (u : View). u.lock) h.view)
    (ap (λ (u : View). u.staged) e)
    (let x = ap (λ (u : View). u.loads) e in let y = st.loads in let z = loads.loads in
    let n = loads_of_some t (unposted_in a.seen t.processes) some in omega arith)
    (subst IsHistory (sym seen) (history-snoc a.seen rows h.whole (subst IsPosting staged posting)))

-- where some process is new, what is staged for a posting ends with a last row
pub staged_ends : (d : Verdict) (ps : List ℕ) (v s : View) → Stages d ps v s → 0 < length (unposted_in v.seen ps)
    → EndsLast s.staged
staged_ends d ps v s st some = subst EndsLast (sym st.staged) (ends_some (unposted_in v.seen ps) some)
  where
    ends_some : (qs : List ℕ) → 0 < length qs → EndsLast (rows_of d qs)
    ends_some [] l = absurd (omega arith)
    ends_some (q ∷ qs) l = rows_end d q qs

-- each verdict of the rows that are staged for a posting is stored
pub staged_told : (d : Verdict) (ps : List ℕ) (v s : View) → Stages d ps v s → AreTold s.staged s.told
staged_told d ps v s st =
    subst (λ x. AreTold x s.told) (sym st.staged)
    (subst (λ y. AreTold (rows_of d (unposted_in v.seen ps)) y) (sym st.told) (rows_told d (unposted_in v.seen ps)))

-- the rows seen before and the new ones are together as many as are seen and staged afterwards
pub staged_number : (d : Verdict) (ps : List ℕ) (v s : View) (count new : ℕ) → Stages d ps v s → count ≡ length v.seen
    → new ≡ length (unposted_in v.seen ps) → count + new ≡ length s.seen + length s.staged
staged_number d ps v s count new st c n =
    let x = ap length st.seen in
    let y = ap length st.staged ∙ length-rows_of d (unposted_in v.seen ps) in
    omega arith

-- a true posting may be posted
pub can_post : (g : Graph) (t : PostingValue) → IsWithinGraph g → IsTruth g t → CanPost g t.verdict t.processes
can_post g t within truth = record {
  idle = truth.idle;
  truth = λ p c. true_verdict g p t.verdict within (truth.verdict p c);
  once = truth.once;
}

-- some word is loaded for each posting
loads_something : (t : PostingValue) (rows : List Row) → 0 < loads_to_add t rows
loads_something t [] = omega arith
loads_something t (r ∷ rs) = omega arith

-- a seat that took the lock, added a posting and ended its hold has posted it
pub posts_from : (t : PostingValue) (v u a w : View) → u ≡ view_after_try v Writing 0 → Adds t u a → w
    ≡ view_after_end a
    → (w.lock.found ≡ 0) × (v.loads < w.loads) × Posts t v w
posts_from t v u a w took adds ended =
    let added = adds.added in
    let lock = adds.lock ∙ ap (λ (x : View). x.lock) took in
    let before = ap (λ (x : View). x.seen) took in
    let seen = ap (λ (x : View). x.seen) ended in (
      ap (λ (x : View). x.lock.found) ended ∙ ap (λ l. l.found) lock,
      (let x = ap (λ (y : View). y.loads) took in let y = added.loads in
          let z = ap (λ (y : View). y.loads) ended in
          let some = loads_something t added.rows in omega arith),
      record {
        added = record {
          between = added.between;
          rows = added.rows;
          new = added.new ∙ ap (λ l. rows_of t.verdict (unposted_in (l ++ added.between) t.processes)) before;
          seen = seen ∙ added.seen ∙ ap (λ l. (l ++ added.between) ++ added.rows) before;
          mine = ap (λ (x : View). x.mine) ended ∙ added.mine
              ∙ ap (λ (x : View). with_posting x.mine added.rows) took;
          loads = (let x = ap (λ (y : View). y.loads) took in let y = added.loads in
              let z = ap (λ (y : View). y.loads) ended in omega arith);
          once = λ p c. ap (row_times p) seen ∙ added.once p c;
          says = λ p c. ap (λ l. fold_at l p) seen ∙ added.says p c;
        };
        share = ap (λ (x : View). x.lock.share) ended ∙ ap (λ l. l.share) lock;
        graph = ap (λ (x : View). x.lock.graph) ended ∙ ap (λ l. l.graph) lock;
      },
    )

-- refused tries have changed nothing but the number of tries
pub record IsUntouched (v w : View) : Type 0 where
  pub seen : w.seen ≡ v.seen
  pub mine : w.mine ≡ v.mine
  pub share : w.lock.share ≡ v.lock.share
  pub graph : w.lock.graph ≡ v.lock.graph
  pub loads : w.loads ≡ v.loads
  pub tries : v.lock.tries ≤ w.lock.tries
