-- What the words show at the end. Closed with the whole share, a seat is the only one left.
use Rattle.std.proofs.Common.{◌≡◌, ℕ, zero, suc, ◌+◌, ◌≤◌, List, [], ◌∷◌, ◌++◌, map, get_or, sym, refl, ap, ◌∙◌, subst, arith, append-nil}
use mathlib.Core.Option.{some, some-injective, some-ne-none}
use lib.ListN.{get_elem?}
use Rattle.atomic_table.proofs.Lists.{at_map}
use Rattle.cmh_graph.specs.Graph.{Graph}
use Rattle.cmh_rw.specs.declared.TheConstants.{MAX_SEATS}
use Rattle.cmh_rw.specs.declared.machine.SeatState.{SeatState}
use Rattle.cmh_rw.specs.declared.machine.SeatState.TheVariants.{Away, Retreating, Reading, Writing, Spent}
use Rattle.cmh_rw.specs.declared.row.Row.{Row}
use Rattle.cmh_rw.specs.declared.view.View.{View}
use Rattle.cmh_rw.specs.Machine.{total, writes, reads, retreats}
use Rattle.cmh_rw.specs.History.{rows_in, row_code, verdict_code, fold_at}
use Rattle.cmh_rw.specs.Rule.{Moment, lock_of, state_of, share_of, HasShare, HasLockShare, WordsRule}
use Rattle.cmh_rw.specs.Seats.{ClosedHistory, IsWhole}
use Rattle.cmh_rw.proofs.Lawful.{total-in}
use Rattle.cmh_rw.proofs.LoadSteps.{history-true, history-few, history-row}
use Rattle.cmh_rw.proofs.Lock.{alone}

-- the view has a share or is spent, and where it is spent it has added nothing
abbrev Shares : Graph → View → Type 0
Shares key v = HasLockShare key v.lock × (v.lock.state ≡ Spent → v.mine ≡ [])

-- a view with no share has added nothing
none_added : (key : Graph) (v : View) (h : List Row → ℕ) → Shares key v → v.lock.share ≡ 0 → total h v.mine ≡ 0
none_added key v h shares z =
    let P : SeatState → Type 0 =
    λ s. HasShare key v.lock.graph v.lock.share s → (s ≡ Spent → v.mine ≡ []) → total h v.mine ≡ 0 in
    elim v.lock.state as P [
      | Away ↦ λ k g. let p = k.0 in absurd (omega arith)
      | Retreating ↦ λ k g. let p = k.0 in absurd (omega arith)
      | Reading ↦ λ k g. let p = k.0 in absurd (omega arith)
      | Writing ↦ λ k g. let p = k.0 in absurd (omega arith)
      | Spent ↦ λ k g. ap (total h) (g refl)
    ] shares.0 shares.1

-- views with no shares have added nothing
all_none : (key : Graph) (views : List View) (h : List Row → ℕ)
    → ((i : ℕ) (v : View) → get_elem? views i ≡ some v → Shares key v) → total share_of (map lock_of views) ≡ 0
    → total (λ v. total h v.mine) views ≡ 0
all_none key [] h each z = refl
all_none key (v ∷ vs) h each z =
    let r = all_none key vs h (λ i w e. each (suc i) w e) (omega arith) in
    let a = none_added key v h (each zero v refl) (omega arith) in
    omega arith

-- where one view has all shares, it has added all that was added
mine_of_one : (key : Graph) (views : List View) (id : ℕ) (v : View) (h : List Row → ℕ)
    → ((i : ℕ) (u : View) → get_elem? views i ≡ some u → Shares key u) → get_elem? views id ≡ some v
    → total share_of (map lock_of views) ≤ v.lock.share
    → total (λ u. total h u.mine) views ≡ total h v.mine
mine_of_one key [] id v h each at most = absurd (some-ne-none v (sym at))
mine_of_one key (x ∷ xs) zero v h each at most =
    let is = some-injective x v at in
    let share = ap (λ (u : View). u.lock.share) is in
    let mine = ap (λ (u : View). total h u.mine) is in
    let r = all_none key xs h (λ i w e. each (suc i) w e) (omega arith) in omega arith
mine_of_one key (x ∷ xs) (suc id) v h each at most =
    let in_there = total-in share_of (map lock_of xs) id v.lock (at_map lock_of xs id v at) in
    let r = mine_of_one key xs id v h (λ i w e. each (suc i) w e) at (omega arith) in
    let a = none_added key x h (each zero x refl) (omega arith) in
    omega arith

-- with the whole share, the seat has added each posting
adds_all : (key : Graph) (s : Moment) (b : WordsRule key s) (id : ℕ) (v : View) → get_elem? s.views id ≡ some v
    → v.lock.share ≡ MAX_SEATS → (h : List Row → ℕ) → total h v.mine ≡ total h b.postings
adds_all key s b id v at whole h = let few = b.lock.shares in
    sym (mine_of_one key s.views id v h
    (λ i u e. (b.lock.each i u.lock (at_map lock_of s.views i u e), (b.each i u e).gone)) at (omega arith))
    ∙ b.owners h

-- where a seat that is away has the whole share, no seat holds the lock
nobody_holds : (key : Graph) (s : Moment) (b : WordsRule key s) (id : ℕ) (v : View) → get_elem? s.views id ≡ some v
    → v.lock.state ≡ Away → v.lock.share ≡ MAX_SEATS
    → total writes (map state_of (map lock_of s.views)) + total reads (map state_of (map lock_of s.views)) +
    total retreats (map state_of (map lock_of s.views)) ≡ 0
nobody_holds key s b id v at away whole = let few = b.lock.shares in
    alone key (map lock_of s.views) id v.lock b.lock.each (at_map lock_of s.views id v at) (omega arith)
    ∙ ap (λ a. writes a + reads a + retreats a) away

-- where a seat that is away has the whole share, the words are the history and no more
whole_words : (key : Graph) (s : Moment) (b : WordsRule key s) (id : ℕ) (v : View) → get_elem? s.views id ≡ some v
    → v.lock.state ≡ Away → v.lock.share ≡ MAX_SEATS → IsWhole v b.postings s.words
whole_words key s b id v at away whole =
    let none_in = nobody_holds key s b id v at away whole in
    let word = b.lock.lock.word in
    let clear = b.idle (omega arith) in
    let old = rows_in b.postings in
    record {
      free = omega arith;
      rows = λ n low. b.rows n low
          ∙ ap (λ l. get_or (map row_code l) n 0) (ap (λ l. old ++ l) clear.0 ∙ append-nil old);
      verdicts = λ p low. b.verdicts p low
          ∙ ap (λ l. verdict_code (fold_at l p)) (ap (λ l. old ++ l) clear.1 ∙ append-nil old);
      mine = adds_all key s b id v at whole;
    }

-- what the words of a moment show to a seat that is away
shows : (key : Graph) (s : Moment) (b : WordsRule key s) (id : ℕ) (v : View) → get_elem? s.views id ≡ some v
    → v.lock.state ≡ Away → ClosedHistory key v s.words
shows key s b id v at away = record {
  postings = b.postings;
  whole = b.whole;
  true_of = history-true key s b;
  seen = (b.each id v at).seen;
  count = b.count;
  few = history-few key s b;
  row = history-row key s b;
  with_each_share = whole_words key s b id v at away;
}

-- what the words at the end show to a seat that is away
pub closed_shows : (key : Graph) (s : Moment) (words : List ℕ) (b : WordsRule key s) (id : ℕ) (v : View)
    → get_elem? s.views id ≡ some v → v.lock.state ≡ Away → s.words ≡ words → ClosedHistory key v words
closed_shows key s words b id v at away is = subst (ClosedHistory key v) is (shows key s b id v at away)
