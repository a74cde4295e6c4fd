use Rattle.std.proofs.Common.{arith, sym, ◌∙◌}
use Rattle.cmh_dump.specs.Texts.{texts}
use Rattle.cmh_dump.proofs.IndexLemmas.{length-texts}
use Rattle.cmh_dump.proofs.Places.{place_is_some, place_within, place_is_none}
use Rattle.cmh_dump.proofs.index.place_of.Goals as goal

pub overflow_cast-result : goal.overflow_cast-result
overflow_cast-result c =
    let found = place_is_some (texts c.args.index.now.keys) c.args.name.now c.in-Some.place (c.in-Some.ensures) in
    let within = place_within (texts c.args.index.now.keys) c.args.name.now found.1 in
    omega (arith, found.0, within, c.requires)

pub returns-in-None : goal.returns-in-None
returns-in-None c =
    c.len.ensures.len ∙ sym (length-texts c.args.index.now.keys)
    ∙ sym (place_is_none (texts c.args.index.now.keys) c.args.name.now (c.in-None.ensures))
