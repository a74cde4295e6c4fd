use Rattle.std.proofs.Common.{rules, codes}
use Rattle.clap.specs.Words.{found_of, rows_of}
use Rattle.cmh_command.proofs.Requests.{some_workers, text_is, value_is}
use Rattle.cmh_command.proofs.request.analysis_in.Goals as goal

pub returns-clause-analysis : goal.returns-clause-analysis
returns-clause-analysis c =
    let found = found_of c.args.options.now in (
      some_workers (rows_of found) c.read_workers.result c.in-Some.workers c.read_workers.ensures (search rules),
      value_is found (codes "cuts") c.get_str.result c.get_str.ensures,
      text_is found (codes "choices") c.get_str-2.result _ c.unwrap_or.result c.get_str-2.ensures
          c.unwrap_or.ensures (search rules),
    )
