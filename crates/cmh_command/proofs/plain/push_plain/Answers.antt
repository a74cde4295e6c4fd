use Rattle.std.specs.Prelude.{string_bytes}
use Rattle.cmh_command.specs.Plain.{IsPlain}
use Rattle.cmh_command.proofs.PlainTexts.{plain_then}
use Rattle.cmh_command.proofs.plain.push_plain.Goals as goal

pub returns : goal.returns
returns c =
    plain_then c.args.has_lines _ _ _ c.push_shown-5.result
    (λ (plain : IsPlain c.args.has_lines (string_bytes c.args.text.now)). c.in_ok-push_digits.ensures
    (c.in_ok-push_shown-3.ensures (c.in_ok-push_shown-2.ensures (c.in_ok-push_shown.ensures plain))))
    c.push_shown-5.ensures
