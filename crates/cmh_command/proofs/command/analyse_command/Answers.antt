use Rattle.std.proofs.Common.{◌∙◌}
use Rattle.std.proofs.lemmas.Result.{IfOk-weaker}
use Rattle.cmh_command.proofs.Commands.{argument_local, with_argument}
use Rattle.cmh_command.proofs.command.analyse_command.Goals as goal

pub returns : goal.returns
returns c =
    let workers = c.workers_option.ensures in
    let cuts = c.list_option.ensures in
    let choices = c.choices_option.ensures in
    let bare = c.describe.ensures.app ∙ c.subcommand-command.ensures.app in
    let first = with_argument _ _ _ _ _ c.in_ok-arg.ensures bare workers.rule workers.local in
    let second = with_argument _ _ _ _ _ c.in_ok-arg-2.ensures first cuts.rule cuts.local in
    let none = c.describe.ensures.local ∙ c.subcommand-command.ensures.local in
    let one = argument_local _ _ _ c.in_ok-arg.ensures none workers.local in
    let two = argument_local _ _ _ c.in_ok-arg-2.ensures one cuts.local in
    record {
      app =
          IfOk-weaker c.arg-3.result _ _ (λ r h. with_argument _ _ _ _ _ h second choices.rule choices.local)
          c.arg-3.ensures;
      local = IfOk-weaker c.arg-3.result _ _ (λ r h. argument_local _ _ _ h two choices.local) c.arg-3.ensures;
    }
