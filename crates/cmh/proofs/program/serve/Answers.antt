use Rattle.std.proofs.Common.{rules, map}
use Rattle.cmh_command.specs.CommandLine.{IsRequest}
use Rattle.cmh_command.specs.declared.request.Request.TheVariants.{Trace}
use Rattle.cmh.proofs.Outcomes.{requested}
use Rattle.cmh.proofs.program.serve.Goals as goal

pub returns-in-Ok-Trace-clause-outcome : goal.returns-in-Ok-Trace-clause-outcome
returns-in-Ok-Trace-clause-outcome g c =
    let asked : IsRequest (map g.T.AsStr.text c.args.words.now) (Trace c.in-Ok-Trace.name c.in-Ok-Trace.choices) =
    search rules in
    requested (map g.T.AsStr.text c.args.words.now)
    (Trace c.in-Ok-Trace.name c.in-Ok-Trace.choices) c.trace.result _ asked c.trace.ensures.outcome
