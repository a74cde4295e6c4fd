-- The rows of a posting.
use Rattle.std.proofs.Common.{◌≡◌, ◌≢◌, ℕ, Bool, true, false, cond, eqb, List, [], ◌∷◌, ◌++◌, length, refl, sym, ◌∙◌, ap, subst, arith, append_assoc, append-nil, ⊎_elim, Some, None, Option}
use Rattle.std.specs.Prelude.{Contains, is_none}
use Rattle.std.specs.List.{IsDistinct}
use Rattle.std.proofs.lemmas.Bool.{eqb-true, eq-eqb}
use Rattle.std.proofs.lemmas.Map.Keys.{IsDistinct-tail}
use Rattle.cmh_graph.specs.declared.verdict.Verdict.{Verdict}
use Rattle.cmh_graph.specs.Graph.{Graph, is_idle}
use Rattle.cmh_graph.specs.Verdict.{verdict}
use Rattle.cmh_graph.proofs.PathLemmas.{cons_contains, contains_cons, contains_first}
use Rattle.cmh_rw.specs.declared.row.Row.{Row}
use Rattle.cmh_rw.specs.History.{fold_at, IsOpen, EndsLast, IsPosting, IsHistory, IsTrueOf, AreTold}
use Rattle.cmh_rw.specs.View.{row, mark}
use Rattle.cmh_board.specs.Board.{is_empty, rows_of, unposted_in, row_times}
use Rattle.cmh_board.specs.Adding.{marks, CanPost}
use Rattle.cmh_rw.proofs.Folds.{fold-skip, true-snoc}
use Rattle.cmh_rw.proofs.Postings.{rows_in-snoc, whole-snoc}
use Rattle.cmh_board.proofs.Histories.{present-append, verdict_in, times-present}
use Rattle.cmh_board.proofs.Lists.{first_once, distinct-filter}
use Rattle.cmh_graph.proofs.Verdicts.{contains_filter, filter_contains, by_test}

-- ---- rows of processes

-- rows of other processes say nothing of p
pub absent-marks : (v : Verdict) (ps : List ℕ) (p : ℕ) → (Contains ps p → ⊥) → fold_at (marks v ps) p ≡ None
absent-marks v [] p out = refl
absent-marks v (q ∷ ps) p out =
    by_test (eqb q p) (λ b. cond b (Some v) (fold_at (marks v ps) p) ≡ None)
    (λ yes. absurd (out (subst (λ x. Contains (q ∷ ps) x) (eqb-true q p yes) (contains_first q ps))))
    (λ no. absent-marks v ps p (λ c. out (contains_cons q ps p c)))

-- a row of p behind those of others says its verdict
pub marks-said : (v : Verdict) (ps : List ℕ) (p : ℕ) (last : Bool) → (Contains ps p → ⊥)
    → fold_at (marks v ps ++ row p v last ∷ []) p ≡ Some v
marks-said v ps p last out =
    fold-skip (marks v ps) (row p v last ∷ []) p (absent-marks v ps p out)
    ∙ ap (λ b. cond b (Some v) None) (eq-eqb p p refl)

-- marks alone are no last rows
pub open-marks : (v : Verdict) (ps : List ℕ) → IsOpen (marks v ps)
open-marks v [] = tt
open-marks v (p ∷ ps) = (refl, open-marks v ps)

-- the marks of a list with one more process are its marks, and then that of the process
marks-snoc : (v : Verdict) (ps : List ℕ) (p : ℕ) → marks v (ps ++ p ∷ []) ≡ marks v ps ++ mark p v ∷ []
marks-snoc v [] p = refl
marks-snoc v (q ∷ ps) p = ap (λ l. mark q v ∷ l) (marks-snoc v ps p)

-- a list with one more behind it isn't empty
nonempty : (ps : List ℕ) (p : ℕ) → is_empty (ps ++ p ∷ []) ≡ false
nonempty [] p = refl
nonempty (q ∷ ps) p = refl

-- the rows of a posting are marks, and then a last one
rows_of-snoc : (v : Verdict) (ps : List ℕ) (p : ℕ)
    → rows_of v (ps ++ p ∷ []) ≡ marks v ps ++ row p v true ∷ []
rows_of-snoc v [] p = refl
rows_of-snoc v (q ∷ ps) p =
    ap (λ b. row q v b ∷ rows_of v (ps ++ p ∷ [])) (nonempty ps p)
    ∙ ap (λ l. mark q v ∷ l) (rows_of-snoc v ps p)

-- the rows of the processes that are done, of which the last is a last row where no other is to come
abbrev pub rows_so_far : Verdict → List ℕ → List ℕ → List Row
rows_so_far v processes [] = rows_of v processes
rows_so_far v processes (p ∷ ps) = marks v processes

-- the rows so far with the next one are marks, and then its row, a last one if no more are to come
pub rows_so_far-more : (v : Verdict) (ps : List ℕ) (p : ℕ) (rest : List ℕ)
    → rows_so_far v (ps ++ p ∷ []) rest ≡ marks v ps ++ row p v (is_empty rest) ∷ []
rows_so_far-more v ps p [] = rows_of-snoc v ps p
rows_so_far-more v ps p (q ∷ rest) = marks-snoc v ps p

-- the marks of some processes and of one more are those of them all
pub marks-more : (v : Verdict) (ps : List ℕ) (p : ℕ) → marks v ps ++ mark p v ∷ [] ≡ marks v (ps ++ p ∷ [])
marks-more v ps p = sym (marks-snoc v ps p)

-- the rows of a posting say of each process what its marks say
rows-marks : (v : Verdict) (ps : List ℕ) (p : ℕ) → fold_at (rows_of v ps) p ≡ fold_at (marks v ps) p
rows-marks v [] p = refl
rows-marks v (q ∷ ps) p = ap (λ o. cond (eqb q p) (Some v) o) (rows-marks v ps p)

-- the marks of a posting say of each process what its rows say
pub rows_told : (v : Verdict) (ps : List ℕ) → AreTold (rows_of v ps) (marks v ps)
rows_told v ps p u e = sym (rows-marks v ps p) ∙ e

-- the rows of a posting say its verdict of each of its processes
rows_of-said : (v : Verdict) (ps : List ℕ) (p : ℕ) → Contains ps p → fold_at (rows_of v ps) p ≡ Some v
rows_of-said v [] p c = absurd (let l = c.1 in omega arith)
rows_of-said v (q ∷ ps) p c =
    by_test (eqb q p) (λ b. eqb q p ≡ b → cond b (Some v) (fold_at (rows_of v ps) p) ≡ Some v)
    (λ yes is. refl)
    (λ no is. ⊎_elim
    (λ e. absurd (true_false (sym (eq-eqb q p e) ∙ is)))
    (λ r. rows_of-said v ps p r)
    (cons_contains q ps p c))
    refl
  where
    true_false : true ≢ false
    true_false e = cc

-- the rows of one process or more end with a last one
pub rows_end : (v : Verdict) (p : ℕ) (ps : List ℕ) → EndsLast (rows_of v (p ∷ ps))
rows_end v p [] = ([], row p v true, refl, refl)
rows_end v p (q ∷ ps) = let rest = rows_end v q ps in
    (row p v false ∷ rest.0, rest.1, ap (λ l. row p v false ∷ l) rest.2, rest.3)

-- a posting has as many rows as processes
pub length-rows_of : (v : Verdict) (ps : List ℕ) → length (rows_of v ps) ≡ length ps
length-rows_of v [] = refl
length-rows_of v (p ∷ ps) = let e = length-rows_of v ps in omega arith

-- ---- rows that come behind a history

-- what a process needs for a row behind these: it is idle, has this verdict, and has no row yet
record AllowsRow (g : Graph) (v : Verdict) (xs : List Row) (p : ℕ) : Type 0 where
  idle : is_idle g p ≡ true
  says : v ≡ verdict g p
  none : fold_at xs p ≡ None

-- true rows stay true with the rows of fresh, distinct processes behind them
true-rows : (g : Graph) (v : Verdict) (ps : List ℕ) (xs : List Row) → IsTrueOf g xs
    → ((p : ℕ) → Contains ps p → AllowsRow g v xs p) → IsDistinct eqb ps → IsTrueOf g (xs ++ rows_of v ps)
true-rows g v [] xs t fresh distinct = subst (IsTrueOf g) (sym (append-nil xs)) t
true-rows g v (p ∷ ps) xs t fresh distinct =
    let f = fresh p (contains_first p ps) in
    let r = row p v (is_empty ps) in
    let more = true-snoc g xs r t f.idle f.says f.none in
    subst (IsTrueOf g) (append_assoc xs (r ∷ []) (rows_of v ps))
    (true-rows g v ps (xs ++ r ∷ []) more
    (λ q c. let h = fresh q (contains_cons p ps q c) in record {
      idle = h.idle;
      says = h.says;
      none = fold-skip xs (r ∷ []) q h.none ∙ other q c;
    })
    (IsDistinct-tail eqb p ps distinct))
  where
    other : (q : ℕ) → Contains ps q → cond (eqb p q) (Some v) None ≡ None
    other q c = by_test (eqb p q) (λ b. cond b (Some v) None ≡ None)
        (λ yes. absurd (first_once p ps distinct (subst (λ x. Contains ps x) (sym (eqb-true p q yes)) c)))
        (λ no. refl)

-- where true rows say something of a process, they say its verdict
agrees : (g : Graph) (xs : List Row) (p : ℕ) (v : Verdict) → IsTrueOf g xs → v ≡ verdict g p
    → (o : Option Verdict) → fold_at xs p ≡ o → is_none o ≡ false → fold_at xs p ≡ Some v
agrees g xs p v t says None e s = absurd (cc)
agrees g xs p v t says (Some u) e s =
    e ∙ ap (λ w. Some w) (sym (verdict_in g xs p u t e) ∙ sym says)

-- a verdict that a test finds to be none is none
pub none_is : (o : Option Verdict) → is_none o ≡ true → o ≡ None
none_is None e = refl
none_is (Some u) e = absurd (cc)

-- a process that may be posted, and has no row, is fresh
fresh_in : (g : Graph) (v : Verdict) (ps : List ℕ) (xs : List Row) → CanPost g v ps
    → (p : ℕ) → Contains (unposted_in xs ps) p → AllowsRow g v xs p
fresh_in g v ps xs can p c =
    let f : ℕ → Bool = λ q. is_none (fold_at xs q) in
    let kept = filter_contains f ps p c in record {
      idle = can.idle p kept.0;
      says = can.truth p kept.0;
      none = none_is (fold_at xs p) (kept.1);
    }

-- the new rows of a posting behind a true history leave it true
pub true_behind : (g : Graph) (v : Verdict) (ps : List ℕ) (xs : List Row) → IsTrueOf g xs
    → CanPost g v ps → IsTrueOf g (xs ++ rows_of v (unposted_in xs ps))
true_behind g v ps xs t can =
    let f : ℕ → Bool = λ q. is_none (fold_at xs q) in
    true-rows g v (unposted_in xs ps) xs t (fresh_in g v ps xs can)
    (distinct-filter f ps can.once)

-- with the new rows of a posting behind a true history, each process of the posting has its verdict
pub said_behind : (g : Graph) (v : Verdict) (ps : List ℕ) (xs : List Row) → IsTrueOf g xs
    → CanPost g v ps → (p : ℕ) → Contains ps p
    → fold_at (xs ++ rows_of v (unposted_in xs ps)) p ≡ Some v
said_behind g v ps xs t can p c =
    let f : ℕ → Bool = λ q. is_none (fold_at xs q) in
    let rows = rows_of v (unposted_in xs ps) in
    by_test (f p) (λ b. fold_at (xs ++ rows) p ≡ Some v)
    (λ yes. fold-skip xs rows p (none_is (fold_at xs p) yes)
    ∙ rows_of-said v (unposted_in xs ps) p (contains_filter f ps p c yes))
    (λ no. present-append xs rows p v
    (agrees g xs p v t (can.truth p c) (fold_at xs p) refl no))

-- with the new rows of a posting behind a true history, each process of the posting stands once
pub once_behind : (g : Graph) (v : Verdict) (ps : List ℕ) (xs : List Row) → IsTrueOf g xs
    → CanPost g v ps → (p : ℕ) → Contains ps p
    → row_times p (xs ++ rows_of v (unposted_in xs ps)) ≡ 1
once_behind g v ps xs t can p c =
    times-present g (xs ++ rows_of v (unposted_in xs ps)) p v (true_behind g v ps xs t can)
    (said_behind g v ps xs t can p c)

-- ---- whole postings

-- a history with a posting behind it is a history
pub history-snoc : (xs rows : List Row) → IsHistory xs → IsPosting rows → IsHistory (xs ++ rows)
history-snoc xs rows h posting = (
  h.0 ++ rows ∷ [],
  ap (λ l. l ++ rows) h.1 ∙ sym (rows_in-snoc h.0 rows),
  whole-snoc h.0 rows h.2 posting,
)
