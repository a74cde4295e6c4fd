use Rattle.std.proofs.Common.{◌-◌, ◌∙◌, ap, arith, length, rules}
use Rattle.std.proofs.lemmas.List.{length-replicate}
use Rattle.cmh_graph.specs.Graph.{process_count}
use Rattle.cmh_work.proofs.RecordLemmas.{numbers_all, numbers_more, numbers_start, numbers_within}
use Rattle.cmh_work.proofs.number.row_numbers.Goals as goal

pub loop-n-init : goal.loop-n-init
loop-n-init c =
    let zeros = c.in_ok-numbers.ensures.items_if_clones_equal (λ y h. search rules) in
    numbers_start c.args.history.now (process_count c.args.graph.now) _ _ (omega arith)
    (ap length zeros ∙ length-replicate _ 0 ∙ c.len.ensures.count)

pub loop-n-preserved : goal.loop-n-preserved
loop-n-preserved c =
    numbers_more c.args.history.now (process_count c.args.graph.now) c.loop-n.n (c.loop-n.n - 1) _ _ (omega arith)
    c.requires.within c.loop-n.invariant

pub returns-clause-within : goal.returns-clause-within
returns-clause-within c =
    numbers_within c.args.history.now (process_count c.args.graph.now) c.loop-n.n _ c.requires.within c.loop-n.invariant

pub returns-clause-rows : goal.returns-clause-rows
returns-clause-rows c =
    numbers_all c.args.history.now (process_count c.args.graph.now) c.loop-n.n _ (omega arith) c.loop-n.invariant
