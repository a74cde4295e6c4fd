use Rattle.std.proofs.Common.{◌∙◌, lit<, sym}
use Rattle.std.proofs.lemmas.Bool.{true≢false}
use Rattle.std.proofs.lemmas.Str.Pattern.{starts_char}
use Rattle.cmh_command.proofs.Lists.{parsed, signed_none}
use Rattle.cmh_command.proofs.list.read_number.Goals as goal

pub returns-then-starts_with : goal.returns-then-starts_with
returns-then-starts_with c =
    let d = starts_char 43 c.args.item.now c.starts_with.result c.starts_with.ensures.cases (lit< tt) (lit< tt) in
    signed_none c.args.item.now (d.0 c.if-starts_with.true)

pub returns : goal.returns
returns c =
    let d = starts_char 43 c.args.item.now c.starts_with.result c.starts_with.ensures.cases (lit< tt) (lit< tt) in
    c.ok.ensures.value
    ∙ parsed c.args.item.now c.parse.result c.parse.ensures.value.0
    (λ e. true≢false (sym (d.1 e) ∙ c.if-starts_with.false))
