use Rattle.cmh_command.proofs.PlainTexts.{plain_then}
use Rattle.cmh_command.proofs.plain.push_digits.Goals as goal

pub returns : goal.returns
returns c =
    plain_then c.args.has_lines _ _ _ c.push_digit-3.result c.in_ok-push_digit.ensures c.push_digit-3.ensures
