use Rattle.cmh_report.proofs.Traces.{has_lines}
use Rattle.cmh_report.proofs.trace.plain_run.Goals as goal

-- the run that is answered has its lines
pub returns-clause-lines : goal.returns-clause-lines
returns-clause-lines c =
    has_lines c.args.choices.now c.args.graph.now c.args.initiator c.in_ok-run.field-0 c.law_built_graph.ensures.within
    c.in_ok-run.ensures.run (c.in_ok-run.ensures.silent tt)
