use Rattle.std.proofs.Common.{◌∙◌}
use Rattle.std.proofs.lemmas.Result.{IfOk-weaker}
use Rattle.cmh_command.proofs.Commands.{command_local, with_command}
use Rattle.cmh_command.proofs.command.with_analyse.Goals as goal

pub returns : goal.returns
returns c =
    let analyse = c.in_ok-analyse.ensures in
    let shape = c.describe.ensures.app ∙ c.top_command.ensures.app in
    let local = c.describe.ensures.local ∙ c.top_command.ensures.local in
    record {
      app =
          IfOk-weaker c.subcommand.result _ _ (λ r h. with_command _ _ _ _ _ h shape analyse.app analyse.local)
          c.subcommand.ensures;
      local =
          IfOk-weaker c.subcommand.result _ _ (λ r h. command_local _ _ _ h local analyse.local) c.subcommand.ensures;
    }
