use Rattle.std.proofs.Common.{map}
use Rattle.std.proofs.lemmas.Result.{IfOk-weaker}
use Rattle.clap.proofs.CallerLemmas.{subcommand_required}
use Rattle.cmh_command.proofs.Requests.{answer_of_args, commanded, is_known}
use Rattle.cmh_command.proofs.request.read_args.Goals as goal

pub request_in-requires : goal.request_in-requires
request_in-requires g c =
    let app = c.in_ok-command.ensures in
    let m = c.in-Ok.matches in
    record {
      command = is_known c.in_ok-command.field-0 (map g.T.AsStr.text c.args.args.now) m app.app c.in-Ok.ensures.matches
          (subcommand_required c.in_ok-command.field-0 m c.in-Ok.ensures.parsed app.local app.required);
    }

pub returns-in-Ok-clause-request : goal.returns-in-Ok-clause-request
returns-in-Ok-clause-request g c = IfOk-weaker c.request_in.result _ _
    (λ r h. commanded c.in_ok-command.field-0 (map g.T.AsStr.text c.args.args.now) c.in-Ok.matches r
    c.in_ok-command.ensures.app c.in-Ok.ensures.matches c.in-Ok.ensures.kinds h)
    c.request_in.ensures.command

pub returns-in-Err-clause-request : goal.returns-in-Err-clause-request
returns-in-Err-clause-request g c = IfOk-weaker c.request_of.result _ _
    (λ r h. answer_of_args c.in_ok-command.field-0 (map g.T.AsStr.text c.args.args.now) c.in-Err.error r
    c.in_ok-command.ensures.app c.in-Err.ensures.kinds h.0 h.1)
    c.request_of.ensures.kind
