-- How the rows of a posting come to be staged, one by one.
use Rattle.std.proofs.Common.{◌≡◌, ℕ, suc, ◌+◌, ◌<◌, ◌≤◌, Bool, true, false, cond, eqb, List, [], ◌∷◌, ◌++◌, length, get_or, take, drop, refl, sym, ◌∙◌, ap, subst, arith, append-nil, length-append, Some, None, Option, ⊎_elim}
use Rattle.std.specs.Prelude.{Contains, filter, is_none}
use Rattle.std.specs.List.{IsDistinct}
use Rattle.std.proofs.lemmas.Bool.{ne_eqb, eq-eqb, eqb-false}
use Rattle.std.proofs.lemmas.List.{get_or_default, take-append-drop, get_or-take, length-take-le, length-map}
use Rattle.std.proofs.lemmas.List.Elements.{filter_more, filter-append}
use Rattle.std.proofs.lemmas.Map.Keys.{apart_from_distinct}
use Rattle.std.proofs.Math.Seq.{drop-cons}
use Rattle.cmh_graph.specs.declared.verdict.Verdict.{Verdict}
use Rattle.cmh_graph.specs.declared.verdict.Verdict.TheVariants.{Deadlocked, Free}
use Rattle.cmh_graph.specs.Graph.{is_idle}
use Rattle.cmh_graph.specs.Verdict.{verdict}
use Rattle.cmh_rw.specs.declared.row.Row.{Row}
use Rattle.cmh_rw.specs.declared.view.View.{View}
use Rattle.cmh_rw.specs.History.{fold_at, verdict_code, IsOpen}
use Rattle.cmh_rw.specs.View.{row, mark, AfterLoad, CanStage, with_row, with_told}
use Rattle.cmh_rw.proofs.Folds.{fold-skip, fold-keeps}
use Rattle.cmh_board.specs.Board.{is_empty, unposted_in}
use Rattle.cmh_board.specs.Adding.{CanPost, OnlyLoads, marks}
use Rattle.cmh_board.proofs.PostingRows.{rows_so_far, absent-marks, marks-said, open-marks, rows_so_far-more, marks-more, none_is}
use Rattle.cmh_graph.proofs.Verdicts.{filter_contains}

-- ---- loads in a hold

-- a load in a hold in which words had been loaded changes nothing else that the seat knows
pub only_load : (v : View) (word found : ℕ) (w : View) → v.loaded ≡ true → AfterLoad v word found w → OnlyLoads 1 v w
only_load v word found w had a = record {
  lock = ap (λ (u : View). u.lock) a.view;
  loaded = ap (λ (u : View). u.loaded) a.view;
  seen = a.same had;
  staged = ap (λ (u : View). u.staged) a.view;
  told = ap (λ (u : View). u.told) a.view;
  mine = ap (λ (u : View). u.mine) a.view;
  loads = (let e = ap (λ (u : View). u.loads) a.view in omega arith);
}

-- a verdict word is 0 just where nothing is said
pub code_none : (o : Option Verdict) → eqb (verdict_code o) 0 ≡ is_none o
code_none None = refl
code_none (Some Deadlocked) = refl
code_none (Some Free) = refl

-- rows behind that don't name a process change nothing of what is said of it
absent-behind : (xs ys : List Row) (p : ℕ) → fold_at ys p ≡ None → fold_at (xs ++ ys) p ≡ fold_at xs p
absent-behind xs ys p none = ⊎_elim
    (λ e. fold-skip xs ys p e ∙ none ∙ sym e)
    (λ same. same)
    (fold-keeps xs ys p)

-- ---- how far the processes were gone through

-- those of the first i processes that stand in no row
abbrev pub done : List Row → List ℕ → ℕ → List ℕ
done rows ps i = unposted_in rows (take i ps)

-- those of the processes from place i on that stand in no row
abbrev to_come : List Row → List ℕ → ℕ → List ℕ
to_come rows ps i = unposted_in rows (drop i ps)

-- whether a process stands in no row
abbrev is_new : List Row → ℕ → Bool
is_new rows p = is_none (fold_at rows p)

done-more : (rows : List Row) (ps : List ℕ) (i : ℕ) (b : Bool) → i < length ps → is_new rows (get_or ps i 0) ≡ b
    → done rows ps (i + 1) ≡ done rows ps i ++ cond b (get_or ps i 0 ∷ []) []
done-more rows ps i b l e =
    filter_more (is_new rows) ps i 0 l ∙ ap (λ c. done rows ps i ++ cond c (get_or ps i 0 ∷ []) []) e

to_come-more : (rows : List Row) (ps : List ℕ) (i : ℕ) (b : Bool) → i < length ps → is_new rows (get_or ps i 0) ≡ b
    → to_come rows ps i ≡ cond b (get_or ps i 0 ∷ to_come rows ps (i + 1)) (to_come rows ps (i + 1))
to_come-more rows ps i b l e =
    let next : suc i ≡ i + 1 = omega arith in
    ap (filter (is_new rows)) (drop-cons ps i 0 l ∙ ap (λ n. get_or ps i 0 ∷ drop n ps) next)
    ∙ ap (λ c. cond c (get_or ps i 0 ∷ to_come rows ps (i + 1)) (to_come rows ps (i + 1))) e

-- a process that stands in no row is one more that is done
done-new : (rows : List Row) (ps : List ℕ) (i : ℕ) → i < length ps → is_new rows (get_or ps i 0) ≡ true
    → done rows ps (i + 1) ≡ done rows ps i ++ get_or ps i 0 ∷ []
done-new rows ps i l e = done-more rows ps i true l e

done-old : (rows : List Row) (ps : List ℕ) (i : ℕ) → i < length ps → is_new rows (get_or ps i 0) ≡ false
    → done rows ps (i + 1) ≡ done rows ps i
done-old rows ps i l e = done-more rows ps i false l e ∙ append-nil (done rows ps i)

to_come-new : (rows : List Row) (ps : List ℕ) (i : ℕ) → i < length ps → is_new rows (get_or ps i 0) ≡ true
    → to_come rows ps i ≡ get_or ps i 0 ∷ to_come rows ps (i + 1)
to_come-new rows ps i l e = to_come-more rows ps i true l e

to_come-old : (rows : List Row) (ps : List ℕ) (i : ℕ) → i < length ps → is_new rows (get_or ps i 0) ≡ false
    → to_come rows ps i ≡ to_come rows ps (i + 1)
to_come-old rows ps i l e = to_come-more rows ps i false l e

-- the processes that stand in no row are those that are done and those that are to come
whole : (rows : List Row) (ps : List ℕ) (i : ℕ) → unposted_in rows ps ≡ done rows ps i ++ to_come rows ps i
whole rows ps i =
    ap (filter (is_new rows)) (sym (take-append-drop i ps)) ∙ filter-append (is_new rows) (take i ps) (drop i ps)

-- a process that stands at place i isn't among the first i
not_before : (rows : List Row) (ps : List ℕ) (i : ℕ) → IsDistinct eqb ps → i < length ps
    → Contains (done rows ps i) (get_or ps i 0) → ⊥
not_before rows ps i once l c =
    let p = get_or ps i 0 in
    let there = (filter_contains (is_new rows) (take i ps) p c).0 in
    let few = length-take-le i ps (omega arith) in
    let k = there.0 in
    let low : k < i = (let b = there.1 in omega arith) in
    let same = get_or_default ps k 0 p (omega arith) ∙ sym (get_or-take i ps k p low) ∙ there.2 in
    eqb-false (get_or ps k 0) p (apart_from_distinct eqb ps k i 0 once low l) same

-- ---- what is staged

-- the rows of what is done are staged, and their verdicts are stored
pub record Staging (v : View) (d : Verdict) (ps : List ℕ) (i : ℕ) (w : View) (n : ℕ) : Type 0 where
  pub lock : w.lock ≡ v.lock
  pub loaded : w.loaded ≡ true
  pub seen : w.seen ≡ v.seen
  pub staged : w.staged ≡ rows_so_far d (done v.seen ps i) (to_come v.seen ps i)
  pub told : w.told ≡ marks d (done v.seen ps i)
  pub mine : w.mine ≡ v.mine
  pub loads : w.loads ≡ v.loads + i
  pub number : n ≡ length v.seen + length (done v.seen ps i)

-- the stored verdicts say nothing of the process at hand
pub untold : (v : View) (d : Verdict) (ps : List ℕ) (i : ℕ) (w : View) (n : ℕ) → Staging v d ps i w n
    → IsDistinct eqb ps → i < length ps
    → fold_at (w.seen ++ w.told) (get_or ps i 0) ≡ fold_at v.seen (get_or ps i 0)
untold v d ps i w n s once l =
    ap (λ t. fold_at (w.seen ++ t) (get_or ps i 0)) s.told
    ∙ absent-behind w.seen (marks d (done v.seen ps i)) (get_or ps i 0)
    (absent-marks d (done v.seen ps i) (get_or ps i 0) (not_before v.seen ps i once l))
    ∙ ap (λ l. fold_at l (get_or ps i 0)) s.seen

-- a process that stands in a row is passed over
pub staging-old : (v : View) (d : Verdict) (ps : List ℕ) (i : ℕ) (w u : View) (n : ℕ) → Staging v d ps i w n
    → i < length ps
    → is_new v.seen (get_or ps i 0) ≡ false → OnlyLoads 1 w u → Staging v d ps (i + 1) u n
staging-old v d ps i w u n s l old a = record {
  lock = a.lock ∙ s.lock;
  loaded = a.loaded;
  seen = a.seen ∙ s.seen;
  staged = a.staged ∙ s.staged ∙ ap (λ q. rows_so_far d q (to_come v.seen ps i)) (sym (done-old v.seen ps i l old))
      ∙ ap (λ q. rows_so_far d (done v.seen ps (i + 1)) q) (to_come-old v.seen ps i l old);
  told = a.told ∙ s.told ∙ ap (λ q. marks d q) (sym (done-old v.seen ps i l old));
  mine = a.mine ∙ s.mine;
  loads = (let p = s.loads in let q = a.loads in omega arith);
  number = s.number ∙ ap (λ q. length v.seen + length q) (sym (done-old v.seen ps i l old));
}

-- where the process at hand stands in no row, what is staged is open
staged_open : (v : View) (d : Verdict) (ps : List ℕ) (i : ℕ) (w u : View) (n : ℕ) → Staging v d ps i w n → i < length ps
    → is_new v.seen (get_or ps i 0) ≡ true → OnlyLoads 1 w u → u.staged ≡ marks d (done v.seen ps i)
staged_open v d ps i w u n s l new a =
    a.staged ∙ s.staged ∙ ap (rows_so_far d (done v.seen ps i)) (to_come-new v.seen ps i l new)

-- where the process at hand stands in no row, its row may be staged
pub can_stage : (v : View) (d : Verdict) (ps : List ℕ) (i : ℕ) (w u : View) (n : ℕ) (last : Bool) → Staging v d ps i w n
    → CanPost v.lock.graph d ps → i < length ps → is_new v.seen (get_or ps i 0) ≡ true → OnlyLoads 1 w u
    → CanStage u (row (get_or ps i 0) d last)
can_stage v d ps i w u n last s can l new a =
    let p = get_or ps i 0 in
    let there : Contains ps p = (i, l, get_or_default ps i p 0 l) in
    let bare = staged_open v d ps i w u n s l new a in
    let graph = ap (λ k. k.graph) (a.lock ∙ s.lock) in record {
      unended = subst IsOpen (sym bare) (open-marks d (done v.seen ps i));
      idle = ap (λ g. is_idle g p) graph ∙ can.idle p there;
      fresh = ap (λ r. fold_at (u.seen ++ r) p) bare
          ∙ absent-behind u.seen (marks d (done v.seen ps i)) p
          (absent-marks d (done v.seen ps i) p (not_before v.seen ps i can.once l))
          ∙ ap (λ r. fold_at r p) (a.seen ∙ s.seen) ∙ none_is (fold_at v.seen p) new;
      true_verdict = can.truth p there ∙ ap (λ g. verdict g p) (sym graph);
    }

-- once the row of the process at hand is staged, its verdict may be stored
pub can_tell : (v : View) (d : Verdict) (ps : List ℕ) (i : ℕ) (w u : View) (n : ℕ) (last : Bool) → Staging v d ps i w n
    → IsDistinct eqb ps → i < length ps → is_new v.seen (get_or ps i 0) ≡ true → OnlyLoads 1 w u
    → (x : View) → x ≡ with_row u (row (get_or ps i 0) d last) → fold_at x.staged (get_or ps i 0) ≡ Some d
can_tell v d ps i w u n last s once l new a x e =
    let p = get_or ps i 0 in
    ap (λ (y : View). fold_at y.staged p) e
    ∙ ap (λ r. fold_at (r ++ row p d last ∷ []) p) (staged_open v d ps i w u n s l new a)
    ∙ marks-said d (done v.seen ps i) p last (not_before v.seen ps i once l)

-- a number is the last where no process is to come
last_is : (rest : List ℕ) (n end : ℕ) → end ≡ n + 1 + length rest → eqb (n + 1) end ≡ is_empty rest
last_is [] n end e = eq-eqb (n + 1) end (omega arith)
last_is (p ∷ rest) n end e = ne_eqb (n + 1) end (λ same. absurd (omega arith))

pub is_last : (v : View) (d : Verdict) (ps : List ℕ) (i : ℕ) (w : View) (n end : ℕ) → Staging v d ps i w n
    → i < length ps
    → is_new v.seen (get_or ps i 0) ≡ true → end ≡ length v.seen + length (unposted_in v.seen ps)
    → eqb (n + 1) end ≡ is_empty (to_come v.seen ps (i + 1))
is_last v d ps i w n end s l new e =
    let p = get_or ps i 0 in
    let all = ap length (whole v.seen ps i ∙ ap (λ q. done v.seen ps i ++ q) (to_come-new v.seen ps i l new))
    ∙ length-append (done v.seen ps i) (p ∷ to_come v.seen ps (i + 1)) in
    let number = s.number in
    last_is (to_come v.seen ps (i + 1)) n end (omega arith)

-- the next row has a number below the end
pub below_end : (v : View) (d : Verdict) (ps : List ℕ) (i : ℕ) (w : View) (n end : ℕ) → Staging v d ps i w n
    → i < length ps
    → is_new v.seen (get_or ps i 0) ≡ true → end ≡ length v.seen + length (unposted_in v.seen ps) → n + 1 ≤ end
below_end v d ps i w n end s l new e =
    let p = get_or ps i 0 in
    let all = ap length (whole v.seen ps i ∙ ap (λ q. done v.seen ps i ++ q) (to_come-new v.seen ps i l new))
    ∙ length-append (done v.seen ps i) (p ∷ to_come v.seen ps (i + 1)) in
    let number = s.number in
    omega arith

-- the number of the next row is the number of rows that are seen and staged
pub next_number : (v : View) (d : Verdict) (ps : List ℕ) (i : ℕ) (w u : View) (n : ℕ) → Staging v d ps i w n
    → i < length ps
    → is_new v.seen (get_or ps i 0) ≡ true → OnlyLoads 1 w u → n ≡ length u.seen + length u.staged
next_number v d ps i w u n s l new a =
    let seen = ap length (a.seen ∙ s.seen) in
    let staged = ap length (staged_open v d ps i w u n s l new a) ∙ length-map (done v.seen ps i) (λ p. mark p d) in
    let number = s.number in
    omega arith

-- what is found of the process at hand is whether it stands in a row
pub found_new : (v : View) (d : Verdict) (ps : List ℕ) (i : ℕ) (w : View) (n : ℕ) (b : Bool) → Staging v d ps i w n
    → IsDistinct eqb ps
    → i < length ps → b ≡ is_none (fold_at (w.seen ++ w.told) (get_or ps i 0)) → is_new v.seen (get_or ps i 0) ≡ b
found_new v d ps i w n b s once l e = sym (e ∙ ap is_none (untold v d ps i w n s once l))

-- a process that stands in no row is done once its row is staged and its verdict is stored
pub staging-new : (v : View) (d : Verdict) (ps : List ℕ) (i : ℕ) (w u x y : View) (n : ℕ) (last : Bool)
    → Staging v d ps i w n → i < length ps
    → is_new v.seen (get_or ps i 0) ≡ true → OnlyLoads 1 w u → x ≡ with_row u (row (get_or ps i 0) d last)
    → y ≡ with_told x (mark (get_or ps i 0) d) → last ≡ is_empty (to_come v.seen ps (i + 1))
    → Staging v d ps (i + 1) y (n + 1)
staging-new v d ps i w u x y n last s l new a ex ey el =
    let p = get_or ps i 0 in
    let was = done v.seen ps i in
    let rest = to_come v.seen ps (i + 1) in
    let now = done-new v.seen ps i l new in record {
      lock = ap (λ (z : View). z.lock) ey ∙ ap (λ (z : View). z.lock) ex ∙ a.lock ∙ s.lock;
      loaded = ap (λ (z : View). z.loaded) ey ∙ ap (λ (z : View). z.loaded) ex ∙ a.loaded;
      seen = ap (λ (z : View). z.seen) ey ∙ ap (λ (z : View). z.seen) ex ∙ a.seen ∙ s.seen;
      staged = ap (λ (z : View). z.staged) ey ∙ ap (λ (z : View). z.staged) ex
          ∙ ap (λ r. r ++ row p d last ∷ []) (staged_open v d ps i w u n s l new a)
          ∙ ap (λ b. marks d was ++ row p d b ∷ []) el
          ∙ sym (rows_so_far-more d was p rest) ∙ ap (λ q. rows_so_far d q rest) (sym now);
      told = ap (λ (z : View). z.told) ey ∙ ap (λ (z : View). z.told ++ mark p d ∷ []) ex
          ∙ ap (λ r. r ++ mark p d ∷ []) (a.told ∙ s.told) ∙ marks-more d was p ∙ ap (λ q. marks d q) (sym now);
      mine = ap (λ (z : View). z.mine) ey ∙ ap (λ (z : View). z.mine) ex ∙ a.mine ∙ s.mine;
      loads = (let q = ap (λ (z : View). z.loads) ey ∙ ap (λ (z : View). z.loads) ex in let r = a.loads in
          let t = s.loads in omega arith);
      number = (let k = ap length now ∙ length-append was (p ∷ []) in let m = s.number in omega arith);
    }
