use Rattle.std.proofs.Common.{◌≡◌, ◌≢◌, ℕ, true, false, None, IsTrue, [], ◌∷◌, ◌++◌, refl, sym, ap, ◌∙◌, subst}
use Rattle.std.proofs.lemmas.Bool.{ne_eqb}
use Rattle.cmh_graph.specs.declared.verdict.Verdict.{Verdict}
use Rattle.cmh_graph.specs.Graph.{is_idle}
use Rattle.cmh_graph.specs.Verdict.{verdict}
use Rattle.cmh_rw.specs.declared.view.View.{View}
use Rattle.cmh_rw.specs.History.{fold_at, IsOpen}
use Rattle.cmh_rw.specs.View.{CanStage, with_row, with_told, row, mark}
use Rattle.cmh_rw.proofs.Folds.{fold-else}
use Rattle.cmh_tests.proofs.rw.posting.store_two.Goals as goal

-- after the row of another process that isn't a last one, the second row can be staged
second_can : (v : View) (p q : ℕ) (a b : Verdict) → v.staged ≡ [] → IsTrue (is_idle v.lock.graph q)
    → b ≡ verdict v.lock.graph q → fold_at v.seen q ≡ None → p ≢ q
    → CanStage (with_told (with_row v (row p a false)) (mark p a)) (row q b true)
second_can v p q a b clear idle says new apart = record {
  unended = subst (λ l. IsOpen (l ++ row p a false ∷ [])) (sym clear) (refl, tt);
  idle = idle;
  fresh =
      ap (λ l. fold_at (v.seen ++ (l ++ row p a false ∷ [])) q) clear
      ∙ (fold-else v.seen (row p a false) q (ne_eqb p q apart) ∙ new);
  true_verdict = says;
}

pub store_row-requires-2-clause-can : goal.store_row-requires-2-clause-can
store_row-requires-2-clause-can c =
    let v = c.args.seat.now.seat.me.0 in let first = c.args.first in let second = c.args.second in
    let is = c.store_verdict.ensures.told ∙ ap (λ u. with_told u (mark first.0 first.1)) c.store_row.ensures.staged in
    subst (λ u. CanStage u (row second.0 second.1 true)) (sym is)
    (second_can v first.0 second.0 first.1 second.1 c.requires.clear.0 c.requires.idle.1 c.requires.verdicts.1
    c.requires.new.1 c.requires.two)
