use Rattle.std.proofs.Common.{sym, subst, arith, get_or, length, ℕ, ◌<◌, List}
use Rattle.std.specs.Prelude.{Contains}
use Rattle.cmh_graph.specs.Search.{Numbers}
use Rattle.cmh_graph.proofs.PositionLemmas.{level_more}
use Rattle.cmh_graph.proofs.search.next_level.Goals as goal

pub number_each-requires : goal.number_each-requires
number_each-requires c =
    let q = get_or c.args.level.now c.loop-q.q-index 0 in
    λ k d l.
    let within =
    subst (λ (xs : List ℕ). (i e : ℕ) → i < length xs → get_or xs i e < length c.args.distances.now)
    (sym c.at.ensures) (c.requires.within q) k d l in
    omega (arith, within, c.loop-q.invariant.size)

pub loop-q-preserved : goal.loop-q-preserved
loop-q-preserved c =
    level_more _ _ _ _ _ _ _ _ _ _ c.loop-q-test.true c.loop-q.invariant
    (subst (λ xs. Numbers
    (Contains xs) c.args.distance c.loop-q.distances c.number_each.new.distances c.loop-q.next.items
    c.number_each.new.next.items) c.at.ensures c.in_ok-number_each.ensures)
