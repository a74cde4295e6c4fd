use Rattle.std.proofs.Common.{bytes_eq, ◌||◌, ap, sym, ◌∙◌}
use Rattle.cmh_dump.specs.Name.{is_among}
use Rattle.cmh_dump.specs.Texts.{texts}
use Rattle.cmh_dump.proofs.Keys.{any_of_texts}
use Rattle.cmh_dump.proofs.tree.is_allowed.Goals as goal

pub returns-then-is_one_of : goal.returns-then-is_one_of
returns-then-is_one_of c =
    let needed = c.is_one_of.ensures ∙ any_of_texts (bytes_eq c.args.key.now) c.args.needed.now in
    c.if-is_one_of.true
    ∙ ap (λ b. b || is_among (texts c.args.allowed.now) c.args.key.now) (sym c.if-is_one_of.true ∙ needed)

pub returns-else-is_one_of : goal.returns-else-is_one_of
returns-else-is_one_of c =
    let needed = c.is_one_of.ensures ∙ any_of_texts (bytes_eq c.args.key.now) c.args.needed.now in
    c.is_one_of-else-is_one_of.ensures ∙ any_of_texts (bytes_eq c.args.key.now) c.args.allowed.now
    ∙ ap (λ b. b || is_among (texts c.args.allowed.now) c.args.key.now) (sym c.if-is_one_of.false ∙ needed)
