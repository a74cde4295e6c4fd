use Rattle.std.proofs.Common.{◌∙◌}
use Rattle.std.proofs.lemmas.Result.{IfOk-weaker}
use Rattle.cmh_command.proofs.Commands.{argument_local, with_argument}
use Rattle.cmh_command.proofs.command.trace_command.Goals as goal

pub returns : goal.returns
returns c =
    let name = c.name_argument.ensures in
    let choices = c.choices_option.ensures in
    let bare = c.describe.ensures.app ∙ c.subcommand-command.ensures.app in
    let first = with_argument _ _ _ _ _ c.in_ok-arg.ensures bare name.rule name.local in
    let none = c.describe.ensures.local ∙ c.subcommand-command.ensures.local in
    let one = argument_local _ _ _ c.in_ok-arg.ensures none name.local in
    record {
      app =
          IfOk-weaker c.arg-2.result _ _ (λ r h. with_argument _ _ _ _ _ h first choices.rule choices.local)
          c.arg-2.ensures;
      local = IfOk-weaker c.arg-2.result _ _ (λ r h. argument_local _ _ _ h one choices.local) c.arg-2.ensures;
    }
