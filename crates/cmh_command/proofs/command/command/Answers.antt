use Rattle.std.proofs.Common.{ap}
use Rattle.std.proofs.lemmas.Result.{IfOk-weaker}
use Rattle.clap.specs.Words.{App}
use Rattle.cmh_command.proofs.Commands.{command_local, with_command}
use Rattle.cmh_command.proofs.command.command.Goals as goal

pub returns : goal.returns
returns c =
    let command = c.in_ok-command.ensures in
    let trace = c.in_ok-trace.ensures in
    record {
      app =
          IfOk-weaker c.subcommand.result _ _ (λ r h. with_command _ _ _ _ _ h command.app trace.app trace.local)
          c.subcommand.ensures;
      required =
          IfOk-weaker c.subcommand.result _ _
          (λ r h. ap (λ (a : App). a.top.subcommand_required)
          (with_command _ _ _ _ _ h command.app trace.app trace.local))
          c.subcommand.ensures;
      local =
          IfOk-weaker c.subcommand.result _ _ (λ r h. command_local _ _ _ h command.local trace.local)
          c.subcommand.ensures;
    }
