use Rattle.cmh_run.proofs.Common.{◌∙◌, ◌-◌, Some, ap, arith, refl}
use Rattle.cmh_run.proofs.NextProcesses.{next_none, next_some}
use Rattle.cmh_run.proofs.list.next_by.Goals as goal

pub returns-then-distance-eq0 : goal.returns-then-distance-eq0
returns-then-distance-eq0 c = λ path is.
    next_none c.args.graph.now c.args.p c.args.distance path c.requires.distance c.if-distance-eq0.true is

pub next_at-requires-clause-further : goal.next_at-requires-clause-further
next_at-requires-clause-further c = c.requires.distance ∙ ap Some (omega (arith, c.if-distance-eq0.false))

pub returns : goal.returns
returns c = λ path is.
    next_some c.args.graph.now c.args.p (c.args.distance - 1) c.args.distance _ path _ (Some c.next_at.result)
    c.law_built_graph.ensures c.requires.within c.requires.distance (omega (arith, c.if-distance-eq0.false)) refl
    c.requires.known c.next_at.ensures is
