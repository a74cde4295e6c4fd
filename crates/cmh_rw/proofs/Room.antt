-- What a seat has seen and staged fits the graph, so that its words have room for the next row.
use Rattle.std.proofs.Common.{◌≡◌, ◌⊎◌, ℕ, ◌+◌, ◌<◌, ◌≤◌, Some, List, [], ◌∷◌, ◌++◌, length, sym, ap, ◌∙◌, subst, arith, length-append, append_assoc, append-nil}
use Rattle.std.specs.Coded.{le_prop}
use Rattle.std.proofs.Math.Logic.{∥∥₁_elim, ∥∥₁_map}
use Rattle.cmh_graph.specs.declared.TheConstants.{MAX_PROCESSES}
use Rattle.cmh_graph.specs.declared.verdict.Verdict.{Verdict}
use Rattle.cmh_graph.specs.Graph.{Graph, process_count}
use Rattle.cmh_graph.proofs.Verdicts.{idle_within}
use Rattle.cmh_rw.specs.declared.row.Row.{Row}
use Rattle.cmh_rw.specs.declared.view.View.{View}
use Rattle.cmh_rw.specs.History.{fold_at, FitsIn, IsTrueOf, StartsWith}
use Rattle.cmh_rw.specs.View.{AfterLoad, CanStage, with_row, view_before_compare, view_after_compare}
use Rattle.cmh_rw.proofs.Folds.{true-snoc, true-few, true-idle, true-left, true-right}
use Rattle.cmh_rw.proofs.Postings.{longer_begins}

-- what a seat knows of its rows
abbrev pub Fits : View → Type 0
Fits v = ∥ FitsIn v.lock.graph (v.seen ++ v.staged) ∥₁

-- rows that fit the graph, with one more that may be staged, fit it too
fits_row : (v : View) (r : Row) → CanStage v r → FitsIn v.lock.graph (v.seen ++ v.staged)
    → FitsIn v.lock.graph (v.seen ++ (v.staged ++ r ∷ []))
fits_row v r can f =
    record {
      small = f.small;
      true_of =
          subst (IsTrueOf v.lock.graph) (append_assoc v.seen v.staged (r ∷ []))
          (true-snoc v.lock.graph (v.seen ++ v.staged) r f.true_of can.idle can.true_verdict can.fresh);
    }

-- where what a seat has seen and staged fits the graph, it fits with one more row that may be staged
pub fits_with_row : (v : View) (r : Row) → CanStage v r → Fits v → Fits (with_row v r)
fits_with_row v r can fits = ∥∥₁_map fits (fits_row v r can)

-- behind rows that fit the graph, a row that may be staged has a number below that of the row words
row_within : (v : View) (r : Row) (n : ℕ) → CanStage v r → n ≡ length v.seen + length v.staged
    → FitsIn v.lock.graph (v.seen ++ v.staged) → n < MAX_PROCESSES
row_within v r n can is f =
    let more = fits_row v r can f in
    let few = true-few v.lock.graph (v.seen ++ (v.staged ++ r ∷ [])) more.true_of in
    let small = more.small in
    let a = length-append v.seen (v.staged ++ r ∷ []) in let b = length-append v.staged (r ∷ []) in omega arith

-- where what a seat knows of its rows fits, a row that it may stage has a row word
pub row_has_word : (v : View) (r : Row) (n : ℕ) → CanStage v r → n ≡ length v.seen + length v.staged → Fits v
    → n < MAX_PROCESSES
row_has_word v r n can is fits = ∥∥₁_elim fits le_prop (row_within v r n can is)

-- in rows that fit the graph, a process with a staged row has a number below that of the verdict words
verdict_within : (v : View) (p : ℕ) (says : Verdict) → fold_at v.staged p ≡ Some says
    → FitsIn v.lock.graph (v.seen ++ v.staged) → p < MAX_PROCESSES
verdict_within v p says e f =
    let idle = true-idle v.lock.graph v.staged p says (true-right v.lock.graph v.seen v.staged f.true_of) e in
    let within = idle_within v.lock.graph p idle in let small = f.small in omega arith

-- where what a seat knows of its rows fits, a process with a row that it has staged has a verdict word
pub verdict_has_word : (v : View) (p : ℕ) (says : Verdict) → fold_at v.staged p ≡ Some says → Fits v → p < MAX_PROCESSES
verdict_has_word v p says e fits = ∥∥₁_elim fits le_prop (verdict_within v p says e)

-- after a load the rows that are seen and staged still fit the graph
loaded_fits : (v : View) (word found : ℕ) (w : View) → AfterLoad v word found w
    → FitsIn v.lock.graph (v.seen ++ v.staged) → FitsIn w.lock.graph (w.seen ++ w.staged)
loaded_fits v word found w after f =
    let graph = ap (λ (u : View). u.lock.graph) after.view in
    let staged = ap (λ (u : View). u.staged) after.view in
    record {
      small = subst (λ g. process_count g ≤ MAX_PROCESSES) (sym graph) f.small;
      true_of =
          subst (λ g. IsTrueOf g (w.seen ++ w.staged)) (sym graph)
          (subst (λ l. IsTrueOf v.lock.graph (w.seen ++ l)) (sym staged) after.staged_true);
    }

-- where what a seat knows of its rows fits, it fits after a load
pub fits_loaded : (v : View) (word found : ℕ) (w : View) → AfterLoad v word found w → Fits v → Fits w
fits_loaded v word found w after fits = ∥∥₁_map fits (loaded_fits v word found w after)

-- where what is seen and staged fits the graph, what is seen alone fits it
seen_fits : (g : Graph) (seen staged : List Row) → FitsIn g (seen ++ staged) → FitsIn g (seen ++ [])
seen_fits g seen staged f =
    record { small = f.small; true_of = subst (IsTrueOf g) (sym (append-nil seen)) (true-left g seen staged f.true_of) }

-- where rows seen and staged are known to fit, those seen, which a new seat has alone, are known to fit
pub fits_newcomer : (g : Graph) (seen staged : List Row) → ∥ FitsIn g (seen ++ staged) ∥₁ → ∥ FitsIn g (seen ++ []) ∥₁
fits_newcomer g seen staged fits = ∥∥₁_map fits (seen_fits g seen staged)

-- after a join the rows that are seen and staged fit the graph
joined_fits : (v w : View) (mid : View) (end : View) → mid ≡ view_before_compare v w → end
    ≡ view_after_compare (view_before_compare v w)
    → IsTrueOf mid.lock.graph (end.seen ++ end.staged) → FitsIn v.lock.graph (v.seen ++ v.staged)
    → FitsIn end.lock.graph (end.seen ++ end.staged)
joined_fits v w mid end first told h f =
    let graph : end.lock.graph ≡ v.lock.graph = ap (λ (u : View). u.lock.graph) told in
    let same : mid.lock.graph ≡ end.lock.graph = ap (λ (u : View). u.lock.graph) first ∙ sym graph in
    record {
      small = subst (λ g. process_count g ≤ MAX_PROCESSES) (sym graph) f.small;
      true_of = subst (λ g. IsTrueOf g (end.seen ++ end.staged)) same h;
    }

-- where what a seat knows of its rows fits, it fits after a join
pub fits_joined : (v w : View) (mid : View) (end : View) → mid ≡ view_before_compare v w → end
    ≡ view_after_compare (view_before_compare v w)
    → IsTrueOf mid.lock.graph (end.seen ++ end.staged) → Fits v → Fits end
fits_joined v w mid end first told h fits = ∥∥₁_map fits (joined_fits v w mid end first told h)

-- after a join the seat has seen what either had seen
pub joined_begins : (v w : View) (mid : View) (end : View) → mid ≡ view_before_compare v w → end
    ≡ view_after_compare (view_before_compare v w)
    → StartsWith mid.seen mid.other ⊎ StartsWith mid.other mid.seen
    → StartsWith end.seen v.seen × StartsWith end.seen w.seen
joined_begins v w mid end first told h =
    let P : View → Type 0 = λ u. StartsWith u.seen u.other ⊎ StartsWith u.other u.seen in
    let Q : View → Type 0 = λ u. StartsWith u.seen v.seen × StartsWith u.seen w.seen in
    subst Q (sym told) (longer_begins v.seen w.seen (subst P first h))
