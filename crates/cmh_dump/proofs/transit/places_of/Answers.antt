use Rattle.std.proofs.Common.{arith}
use Rattle.cmh_dump.specs.Texts.{texts}
use Rattle.cmh_dump.proofs.Places.{place_is_some, place_within}
use Rattle.cmh_dump.proofs.transit.places_of.Goals as goal

pub overflow_cast-result : goal.overflow_cast-result
overflow_cast-result c =
    let names = texts c.args.names.now.keys in
    let found = place_is_some names c.text_in.result.now c.in_ok-from.from c.in_ok-from.ensures in
    let within = place_within names c.text_in.result.now found.1 in
    omega (arith, found.0, within, c.requires.few)

pub overflow_cast-result-2 : goal.overflow_cast-result-2
overflow_cast-result-2 c =
    let names = texts c.args.names.now.keys in
    let found = place_is_some names c.text_in-2.result.now c.in_ok-to.to c.in_ok-to.ensures in
    let within = place_within names c.text_in-2.result.now found.1 in
    omega (arith, found.0, within, c.requires.few)
