use Rattle.std.proofs.Common.{not, arith}
use Rattle.cmh_dump.specs.Name.{is_among}
use Rattle.cmh_dump.specs.Texts.{texts}
use Rattle.cmh_dump.specs.Tree.{text_of}
use Rattle.serde_json.specs.View.{view}
use Rattle.cmh_dump.proofs.Pairs.{all_left}
use Rattle.cmh_dump.proofs.Places.{place_is_some, place_within}
use Rattle.cmh_dump.proofs.index.places_of.Goals as goal

pub loop-j-init : goal.loop-j-init
loop-j-init c = record {
  known = all_left (λ v. not (is_among (texts c.args.index.now.keys) (text_of (view v)))) c.args.values.now;
  made = c.in_ok-places.ensures.items;
}

pub overflow_cast-place : goal.overflow_cast-place
overflow_cast-place c =
    let names = texts c.args.index.now.keys in
    let found = place_is_some names c.text_in.result.now c.in-Some.place c.in-Some.ensures in
    let within = place_within names c.text_in.result.now found.1 in
    omega (arith, found.0, within, c.requires)
