-- A load in a hold keeps the rule, and shows the history.
use Rattle.std.proofs.Common.{◌≡◌, ◌≢◌, ℕ, ◌+◌, ◌<◌, ◌≤◌, true, ◌++◌, map, length, get_or, set, sym, refl, ap, ◌∙◌, subst, arith, inr}
use Rattle.std.proofs.lemmas.List.{set-get_or, get_or_append_left, length-map}
use mathlib.Core.List.{map-append}
use Rattle.atomic_table.specs.Table.{keeps, Allows}
use Rattle.atomic_table.proofs.Lists.{at_map}
use Rattle.cmh_graph.specs.declared.TheConstants.{MAX_PROCESSES}
use Rattle.cmh_graph.specs.Graph.{Graph}
use Rattle.cmh_rw.specs.declared.machine.SeatState.TheVariants.{Reading, Writing}
use Rattle.cmh_rw.specs.History.{rows_in, row_code, verdict_code, fold_at, IsTrueOf}
use Rattle.cmh_rw.specs.View.{IsHeld, AfterLoad}
use Rattle.cmh_rw.specs.Rule.{Moment, lock_of, SeatRule, WordsRule}
use Rattle.cmh_rw.specs.declared.view.View.{View}
use Rattle.cmh_rw.proofs.Folds.{true-left, true-few}
use Rattle.cmh_rw.proofs.Postings.{seen-prefix, all-seen}
use Rattle.cmh_rw.proofs.Moments.{TableSeat, held_graph, own_rows, reviewed}

-- the rows of the history are true for the graph
pub history-true : (key : Graph) (s : Moment) (b : WordsRule key s) → IsTrueOf key (rows_in b.postings)
history-true key s b = true-left key (rows_in b.postings) b.staged b.true_of

-- there are no more rows of the history than the words have room for
pub history-few : (key : Graph) (s : Moment) (b : WordsRule key s) → length (rows_in b.postings) ≤ MAX_PROCESSES
history-few key s b =
    let few = true-few key (rows_in b.postings) (history-true key s b) in let small = b.small in omega arith

-- row n of the history stands in its word
pub history-row : (key : Graph) (s : Moment) (b : WordsRule key s) (n : ℕ) → n < length (rows_in b.postings)
    → get_or s.words (2 + n) 0 ≡ get_or (map row_code (rows_in b.postings)) n 0
history-row key s b n lt = let rows = rows_in b.postings in let few = history-few key s b in
    b.rows n (omega arith) ∙ ap (λ l. get_or l n 0) (map-append row_code rows b.staged)
    ∙ get_or_append_left (map row_code rows) (map row_code b.staged) 0 n
    (subst (λ m. n < m) (sym (length-map rows row_code)) lt)

-- a reader doesn't write
reading_writing : Reading ≢ Writing
reading_writing e = cc

-- a load in a hold shows the history
pub loads : (key : Graph) (slots id word : ℕ) (me : TableSeat) → IsHeld me.0.lock.state
    → Allows (WordsRule key) slots id me word (λ n. n) (λ found m. AfterLoad me.0 word found m.0 × (m.1 ≡ me.1))
loads key slots id word me held s b _ at _ =
    let v = me.0 in
    let rows = rows_in b.postings in
    let w : View = record v { loaded = true; seen = rows; loads = v.loads + 1 } in
    let k = b.each id v at in
    let own = own_rows key s b id v at held in
    let graph : v.lock.graph ≡ key =
    held_graph key v.lock (b.lock.each id v.lock (at_map lock_of s.views id v at)) held in
    let knows : SeatRule b.postings b.staged b.told w =
    record {
      writing = k.writing;
      bare = k.bare;
      ready = inr refl;
      seen = all-seen b.postings;
      other = k.other;
      fresh = λ _. (held, refl);
      gone = k.gone;
    } in (
      w,
      keeps,
      tt,
      subst (λ l. WordsRule key record { words = l; homes = s.homes; views = set s.views id w })
          (sym (set-get_or s.words word 0)) (reviewed key s b id v w at refl refl knows),
      (
        record {
          view = refl;
          begins = seen-prefix v.seen b.postings k.seen;
          same = λ yes. sym (k.fresh yes).1;
          whole = (b.postings, refl, b.whole);
          true_of = subst (λ g. IsTrueOf g rows) (sym graph) (history-true key s b);
          few = history-few key s b;
          staged_true =
              subst (λ g. IsTrueOf g (rows ++ v.staged)) (sym graph)
              (subst (λ l. IsTrueOf key (rows ++ l)) (sym own.0) b.true_of);
          bare = λ reads. k.bare (λ e. reading_writing (sym reads ∙ e));
          count = λ e. ap (λ i. get_or s.words i 0) e ∙ b.count;
          row = λ n e lt. ap (λ i. get_or s.words i 0) e ∙ history-row key s b n lt;
          verdict =
              λ p e low. ap (λ i. get_or s.words i 0) e ∙ b.verdicts p low
              ∙ ap (λ t. verdict_code (fold_at (rows ++ t) p)) (sym own.1);
        },
        refl,
      ),
    )
