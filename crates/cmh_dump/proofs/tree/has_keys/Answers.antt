use Rattle.std.proofs.Common.{◌&&◌, ap, sym, ◌∙◌}
use Rattle.std.specs.Prelude.{is_some}
use Rattle.serde_json.specs.Find.{get}
use Rattle.serde_json.specs.View.{view}
use Rattle.cmh_dump.specs.Texts.{texts}
use Rattle.cmh_dump.proofs.Keys.{all_of_texts, keys_are, keys_missing}
use Rattle.cmh_dump.proofs.tree.has_keys.Goals as goal

pub returns-then-has_each : goal.returns-then-has_each
returns-then-has_each c =
    let d = view c.args.value.now in
    let each = c.has_each.ensures ∙ all_of_texts (λ k. is_some (get k d)) c.args.needed.now in
    ap (λ b. b && c.has_allowed.result) (sym c.if-has_each.true)
    ∙ keys_are (texts c.args.needed.now) (texts c.args.allowed.now) c.in-Some.members.now.entries view d
    c.has_allowed.result c.has_allowed.ensures c.in-Some.ensures c.has_each.result each

pub returns-else-has_each : goal.returns-else-has_each
returns-else-has_each c =
    let d = view c.args.value.now in
    keys_missing (texts c.args.needed.now) (texts c.args.allowed.now) d c.has_each.result
    (c.has_each.ensures ∙ all_of_texts (λ k. is_some (get k d)) c.args.needed.now) c.if-has_each.false
