use Rattle.cmh_run.proofs.Common.{◌≡◌, true, sym, ◌∙◌, subst, CheckState, HintIsFit}
use Rattle.cmh_run.proofs.CheckLemmas.{truth_at, fit_where_true}
use Rattle.cmh_run.proofs.checker.Checker.is_fit.Goals as goal

-- the receiver of the delivery has a verdict in the list
pub bounds-truth-delivery : goal.bounds-truth-delivery
bounds-truth-delivery c =
    truth_at c.args.graph.now c.args.truth.now c.args.delivery.message.to c.requires.truth c.requires.process.within

-- the hint is asked for, so it must be true
pub returns-then-asks : goal.returns-then-asks
returns-then-asks c =
    subst (λ (a : CheckState).
    (c.eq.result ≡ true → HintIsFit c.args.graph.now a.network c.args.delivery.message c.args.delivery.hint)
    × (HintIsFit c.args.graph.now a.network c.args.delivery.message c.args.delivery.hint → c.eq.result ≡ true))
    c.self.view_is
    (fit_where_true c.args.graph.now c.self.inside.network c.args.delivery.message c.args.delivery.hint
    c.in-Some.verdict _ c.args.truth.now c.eq.result
    c.law_built_graph.ensures c.in-Some.is (sym c.asks.ensures ∙ c.if-asks.true) c.requires.truth
    c.requires.process.within
    c.eq.ensures)
