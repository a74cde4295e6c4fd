use Rattle.std.proofs.Common.{rules, codes}
use Rattle.clap.specs.Words.{found_of}
use Rattle.cmh_command.proofs.Requests.{text_is}
use Rattle.cmh_command.proofs.request.trace_in.Goals as goal

pub returns-clause-tracing : goal.returns-clause-tracing
returns-clause-tracing c =
    let found = found_of c.args.options.now in (
      text_is found (codes "NAME") c.get_str.result _ c.unwrap_or.result c.get_str.ensures c.unwrap_or.ensures
          (search rules),
      text_is found (codes "choices") c.get_str-2.result _ c.unwrap_or-2.result c.get_str-2.ensures
          c.unwrap_or-2.ensures (search rules),
    )
