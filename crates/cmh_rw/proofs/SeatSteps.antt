-- The opening moment meets the rule, and a split and a join of seats that are away keep it.
use Rattle.std.proofs.Common.{◌≡◌, ◌≢◌, ℕ, zero, suc, ◌+◌, ◌<◌, ◌≤◌, false, ltb, List, [], ◌∷◌, ◌++◌, map, length, replicate, set, sym, refl, ap, ◌∙◌, subst, arith, append-nil, inl, ◌⊎◌, ⊎_elim}
use Rattle.std.proofs.lemmas.List.{map-set, set-get_or, length-replicate, get_or-replicate}
use Rattle.std.proofs.lemmas.Bool.{cond_both, false≢true}
use mathlib.Core.List.{map-append}
use mathlib.Core.Option.{some, some-injective, some-ne-none}
use lib.ListN.{get_elem?}
use Rattle.atomic_table.specs.Table.{opening, keeps, Allows, Splits, Joins}
use Rattle.atomic_table.proofs.Lists.{at_set, at_map, at_snoc}
use Rattle.cmh_graph.specs.declared.TheConstants.{MAX_PROCESSES}
use Rattle.cmh_graph.specs.Graph.{Graph, process_count}
use Rattle.cmh_rw.specs.declared.TheConstants.{MAX_SEATS, FIRST_ROW, FIRST_VERDICT, BOARD_WORDS}
use Rattle.cmh_rw.specs.declared.machine.SeatState.TheVariants.{Away, Writing, Spent}
use Rattle.cmh_rw.specs.declared.row.Row.{Row}
use Rattle.cmh_rw.specs.declared.view.LockView.{LockView}
use Rattle.cmh_rw.specs.declared.view.View.{View}
use Rattle.cmh_rw.specs.Machine.{total, writes}
use Rattle.cmh_rw.specs.History.{IsSeen, IsTrueOf, StartsWith}
use Rattle.cmh_rw.specs.View.{opening_view, lock_less_one, view_less_one, newcomer_lock, newcomer_view, lock_of_both, view_before_compare, view_after_compare, spent_view}
use Rattle.cmh_rw.specs.Rule.{lock_of, lock_moment, state_of, share_of, HasLockShare, LockRule, SeatRule, WordsRule}
use Rattle.cmh_rw.proofs.Folds.{true-left}
use Rattle.cmh_rw.proofs.Lawful.{total-set, total-append, total-snoc, total-in}
use Rattle.cmh_rw.proofs.Lock.{split_kept, join_kept}
use Rattle.cmh_rw.proofs.LoadSteps.{history-true}
use Rattle.cmh_rw.proofs.Moments.{TableSeat, away_writing, away_spent, not_held, idle_still, state_at, away_graph, reviewed}
use Rattle.cmh_rw.proofs.Postings.{none-seen, seen-prefix, seen_compare}

-- a view that doesn't write, and has loaded, stored and added nothing, is as the rule asks
blank : (postings : List (List Row)) (staged told : List Row) (v : View) → v.lock.state ≢ Writing → v.staged ≡ []
    → v.told ≡ [] → v.mine ≡ [] → v.loaded ≡ false → v.other ≡ [] → IsSeen v.seen postings
    → SeatRule postings staged told v
blank postings staged told v not bare none_told none_mine fresh other seen = record {
  writing = λ e. absurd (not e);
  bare = λ _. (bare, none_told);
  ready = inl bare;
  seen = seen;
  other = subst (λ l. IsSeen l postings) (sym other) (none-seen postings);
  fresh = λ yes. absurd (false≢true (sym fresh ∙ yes));
  gone = λ _. none_mine;
}

-- a spent seat doesn't write
spent_writing : Spent ≢ Writing
spent_writing e = cc

-- the opening moment, in which all words are 0 and there is one seat, meets the rule
pub opens : (key : Graph) → process_count key ≤ MAX_PROCESSES
    → WordsRule key (opening (replicate BOARD_WORDS 0) [] (opening_view key))
opens key small = record {
  postings = [];
  staged = [];
  told = [];
  small = small;
  lock = record {
    wide = length-replicate {A = ℕ} BOARD_WORDS 0;
    lock =
        record {
          word = get_or-replicate {A = ℕ} BOARD_WORDS 0 0 0 (omega arith);
          one_writer = omega arith;
          alone = λ p. refl;
        };
    shares = omega arith;
    each = λ i l e. only i l e;
  };
  count = get_or-replicate {A = ℕ} BOARD_WORDS 1 0 0 (omega arith);
  rows = λ n low. get_or-replicate {A = ℕ} BOARD_WORDS (FIRST_ROW + n) 0 0 (omega arith);
  verdicts = λ p low. get_or-replicate {A = ℕ} BOARD_WORDS (FIRST_VERDICT + p) 0 0 (omega arith);
  whole = tt;
  true_of = tt;
  part = inl tt;
  told_of = λ p. inl refl;
  idle = λ _. (refl, refl);
  each = λ i v e. first i v e;
  owners = λ h. refl;
}
  where
    only : (i : ℕ) (l : LockView) → get_elem? ((opening_view key).lock ∷ []) i ≡ some l → HasLockShare key l
    only zero l e = subst (HasLockShare key) (some-injective (opening_view key).lock l e) (omega arith, refl)
    only (suc i) l e = absurd (some-ne-none l (sym e))

    first : (i : ℕ) (v : View) → get_elem? (opening_view key ∷ []) i ≡ some v → SeatRule [] [] [] v
    first zero v e =
        subst (SeatRule [] [] []) (some-injective (opening_view key) v e)
        (blank [] [] [] (opening_view key) away_writing refl refl refl refl refl (none-seen []))
    first (suc i) v e = absurd (some-ne-none v (sym e))

-- where a seat that is away is split, the rule is kept
pub splits : (key : Graph) (id : ℕ) (v : View) → v.lock.state ≡ Away → 1 < v.lock.share
    → Splits (WordsRule key) id v (view_less_one v) (newcomer_view v)
splits key id v away more s b at =
    let k = b.each id v at in
    let low = split_kept key id v.lock away more (lock_moment s) b.lock (at_map lock_of s.views id v at) in
    let views : map lock_of (set s.views id (view_less_one v) ++ newcomer_view v ∷ [])
    ≡ set (map lock_of s.views) id (lock_less_one v.lock) ++ newcomer_lock v.lock ∷ [] =
    map-append lock_of (set s.views id (view_less_one v)) (newcomer_view v ∷ [])
    ∙ ap (λ l. l ++ newcomer_lock v.lock ∷ []) (map-set lock_of s.views id (view_less_one v)) in
    let states : map state_of (set (map lock_of s.views) id (lock_less_one v.lock) ++ newcomer_lock v.lock ∷ [])
    ≡ set (map state_of (map lock_of s.views)) id v.lock.state ++ Away ∷ [] =
    map-append state_of (set (map lock_of s.views) id (lock_less_one v.lock)) (newcomer_lock v.lock ∷ [])
    ∙ ap (λ l. l ++ Away ∷ []) (map-set state_of (map lock_of s.views) id (lock_less_one v.lock)) in record {
      postings = b.postings;
      staged = b.staged;
      told = b.told;
      small = b.small;
      lock = subst (λ l. LockRule key record { words = s.words; homes = s.homes; views = l }) (sym views) low;
      count = b.count;
      rows = b.rows;
      verdicts = b.verdicts;
      whole = b.whole;
      true_of = b.true_of;
      part = b.part;
      told_of = b.told_of;
      idle = λ z. let l = map state_of (map lock_of s.views) in
          let y =
          sym (total-snoc writes (set l id v.lock.state) Away)
          ∙ ap (total writes) (sym (ap (map state_of) views ∙ states)) ∙ z in
          b.idle (idle_still l id v.lock.state v.lock.state (state_at s.views id v at) (ap writes away) (omega arith));
      each = λ i u g. ⊎_elim
          (λ old. ⊎_elim
          (λ t. subst (SeatRule b.postings b.staged b.told) t.1
          record {
            writing = k.writing;
            bare = k.bare;
            ready = k.ready;
            seen = k.seen;
            other = k.other;
            fresh = k.fresh;
            gone = k.gone;
          })
          (λ t. b.each i u t.1) (at_set s.views id i (view_less_one v) u old))
          (λ new. subst (SeatRule b.postings b.staged b.told) new
          (blank b.postings b.staged b.told (newcomer_view v) away_writing refl refl refl refl refl k.seen))
          (at_snoc (set s.views id (view_less_one v)) (newcomer_view v) u i g);
      owners =
          λ h. let sum = total-set (λ (u : View). total h u.mine) s.views id v (view_less_one v) at in
          let all = total-snoc (λ (u : View). total h u.mine) (set s.views id (view_less_one v)) (newcomer_view v) in
          omega (arith, b.owners h);
    }

-- where a seat that is away is joined into another that is, the rule is kept
pub joins : (key : Graph) (id : ℕ) (v : View) (other : ℕ) (w : View) → v.lock.state ≡ Away → w.lock.state ≡ Away
    → Joins (WordsRule key) id v other w (view_before_compare v w) spent_view
joins key id v other w away away' s b at apart there =
    let both = view_before_compare v w in let mid = set s.views id both in let k = b.each id v at in
    let first : map lock_of mid ≡ set (map lock_of s.views) id (lock_of_both v.lock w.lock) =
    map-set lock_of s.views id both in
    let there' : get_elem? (set (map lock_of s.views) id (lock_of_both v.lock w.lock)) other ≡ some w.lock =
    subst (λ l. get_elem? l other ≡ some w.lock) first (at_map lock_of mid other w there) in
    let low =
    join_kept key id v.lock other w.lock away away' (lock_moment s) b.lock (at_map lock_of s.views id v at) apart
    there' in
    let views : map lock_of (set mid other spent_view)
    ≡ set (set (map lock_of s.views) id (lock_of_both v.lock w.lock)) other spent_view.lock =
    map-set lock_of mid other spent_view ∙ ap (λ l. set l other spent_view.lock) first in
    let was : SeatRule b.postings b.staged b.told w =
    ⊎_elim (λ t. absurd (apart t.0)) (λ t. b.each other w t.1) (at_set s.views id other both w there) in
    record {
      postings = b.postings;
      staged = b.staged;
      told = b.told;
      small = b.small;
      lock = subst (λ l. LockRule key record { words = s.words; homes = s.homes; views = l }) (sym views) low;
      count = b.count;
      rows = b.rows;
      verdicts = b.verdicts;
      whole = b.whole;
      true_of = b.true_of;
      part = b.part;
      told_of = b.told_of;
      idle = λ z. let l = map state_of (map lock_of s.views) in let m = map state_of (map lock_of mid) in
          let one : m ≡ set l id v.lock.state =
          ap (map state_of) first ∙ map-set state_of (map lock_of s.views) id (lock_of_both v.lock w.lock) in
          let two : map state_of (map lock_of (set mid other spent_view)) ≡ set m other Spent =
          ap (map state_of) (map-set lock_of mid other spent_view)
          ∙ map-set state_of (map lock_of mid) other spent_view.lock in
          let y =
          idle_still m other w.lock.state Spent (state_at mid other w there) (ap writes away')
          (ap (total writes) (sym two) ∙ z) in
          b.idle
          (idle_still l id v.lock.state v.lock.state (state_at s.views id v at) (ap writes away)
          (ap (total writes) (sym one) ∙ y));
      each = λ i u g. ⊎_elim
          (λ t. subst (SeatRule b.postings b.staged b.told) t.1
          (blank b.postings b.staged b.told spent_view spent_writing refl refl refl refl refl
          (none-seen b.postings)))
          (λ t. ⊎_elim
          (λ t'. subst (SeatRule b.postings b.staged b.told) t'.1 record {
            writing = k.writing;
            bare = k.bare;
            ready = k.ready;
            seen = k.seen;
            other = was.seen;
            fresh = λ yes. absurd (not_held v.lock.state away (k.fresh yes).0);
            gone = λ e. absurd (away_spent (sym away ∙ e));
          })
          (λ t'. b.each i u t'.1)
          (at_set s.views id i both u t.1))
          (at_set mid other i spent_view u g);
      owners =
          λ h. let sum = total-set (λ (u : View). total h u.mine) s.views id v both at in
          let all = total-set (λ (u : View). total h u.mine) mid other w spent_view there in
          let mine = total-append h v.mine w.mine in omega (arith, b.owners h);
    }

-- a load after a join keeps the rule: one of the two histories begins the other, and the longer is kept
pub compares : (key : Graph) (slots id : ℕ) (me : TableSeat) → me.0.lock.state ≡ Away
    → Allows (WordsRule key) slots id me 0 (λ n. n) (λ _ m. (m ≡ (view_after_compare me.0, me.1))
    × (StartsWith me.0.seen me.0.other ⊎ StartsWith me.0.other me.0.seen)
    × IsTrueOf me.0.lock.graph (m.0.seen ++ m.0.staged) × (me.0.lock.share ≤ MAX_SEATS))
compares key slots id me away s b _ at _ =
    let v = me.0 in let w = view_after_compare v in let k = b.each id v at in let few = b.lock.shares in
    let seen : IsSeen w.seen b.postings =
    cond_both (ltb (length v.seen) (length v.other)) v.other v.seen (λ l. IsSeen l b.postings) (λ _. k.other)
    (λ _. k.seen) in
    let bare = k.bare (λ e. away_writing (sym away ∙ e)) in
    let begins = seen-prefix w.seen b.postings seen in
    let graph = away_graph key v.lock (b.lock.each id v.lock (at_map lock_of s.views id v at)) away in
    let true_seen : IsTrueOf key w.seen =
    true-left key w.seen begins.0 (subst (IsTrueOf key) begins.1 (history-true key s b)) in
    let share = total-in share_of (map lock_of s.views) id v.lock (at_map lock_of s.views id v at) in
    let knows : SeatRule b.postings b.staged b.told w = record {
      writing = k.writing;
      bare = k.bare;
      ready = k.ready;
      seen = seen;
      other = none-seen b.postings;
      fresh = λ yes. absurd (not_held v.lock.state away (k.fresh yes).0);
      gone = k.gone;
    } in (
      w,
      keeps,
      tt,
      subst (λ l. WordsRule key record { words = l; homes = s.homes; views = set s.views id w })
          (sym (set-get_or s.words 0 0)) (reviewed key s b id v w at refl refl knows),
      (
        refl,
        seen_compare b.postings v.other v.seen k.other k.seen,
        subst (λ g. IsTrueOf g (w.seen ++ v.staged)) (sym graph)
            (subst (λ l. IsTrueOf key (w.seen ++ l)) (sym bare.0)
            (subst (IsTrueOf key) (sym (append-nil w.seen)) true_seen)),
        omega arith,
      ),
    )
