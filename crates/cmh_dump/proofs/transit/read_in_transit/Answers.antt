use Rattle.std.proofs.Common.{map, not, ap, sym, ◌∙◌, take_all}
use Rattle.std.specs.List.{list_all}
use Rattle.serde_json.specs.View.{view}
use Rattle.cmh_dump.specs.Dump.{places_in_pair}
use Rattle.cmh_dump.specs.Entry.{is_pair}
use Rattle.cmh_dump.specs.Name.{is_among}
use Rattle.cmh_dump.specs.Texts.{texts}
use Rattle.cmh_dump.specs.Tree.{texts_of}
use Rattle.cmh_dump.proofs.FirstFault.Transits.{transit_bad, transit_unknown, transits_judged}
use Rattle.cmh_dump.proofs.Pairs.{all_left, all_pass, first_found, first_passed, none_left, passes_at}
use Rattle.cmh_dump.proofs.Places.{none_lost, some_found}
use Rattle.cmh_dump.proofs.Taken.{made-next}
use Rattle.cmh_dump.proofs.Trees.{map-map}
use Rattle.cmh_dump.proofs.transit.read_in_transit.Goals as goal

pub returns-in-Some-clause-judges : goal.returns-in-Some-clause-judges
returns-in-Some-clause-judges c =
    λ are_names _. transit_bad view (view c.args.tree.now) c.elements_at-messages.result.now
    c.elements_at-messages.ensures (texts c.args.names.now.keys) are_names
    c.in-Some.i c.if-messages-gt-MAX_IN_TRANSIT.false (sym c.first_bad_pair.ensures ∙ c.in-Some.is)

pub loop-i-init : goal.loop-i-init
loop-i-init c = record {
  known =
      all_left (λ m. not (list_all (is_among (texts c.args.names.now.keys)) (texts_of (view m))))
      c.elements_at-messages.result.now;
  made = c.in_ok-places.ensures.items;
}

pub places_of-requires-clause-pair : goal.places_of-requires-clause-pair
places_of-requires-clause-pair c =
    let found = c.elements_at-messages.result.now in
    passes_at (λ m. is_pair (view m)) found c.loop-i.i c.index-messages-i.result
    (all_pass (λ m. is_pair (view m)) found (sym c.first_bad_pair.ensures ∙ c.in_default.is)) c.loop-i-test.true
    c.index-messages-i.is

pub returns-in_default-places_of-clause-judges : goal.returns-in_default-places_of-clause-judges
returns-in_default-places_of-clause-judges c =
    let found = c.elements_at-messages.result.now in
    let names = texts c.args.names.now.keys in
    let lost = ap not (none_lost names (view c.index-messages-i.result) c.in_default-places_of.ensures) in
    let unknown =
    first_found (λ m. not (list_all (is_among names) (texts_of (view m)))) found c.loop-i.i c.index-messages-i.result
    c.loop-i-test.true c.index-messages-i.is lost c.loop-i.invariant.known in
    λ are_names _. transit_unknown view (view c.args.tree.now) found c.elements_at-messages.ensures names are_names
    c.loop-i.i c.if-messages-gt-MAX_IN_TRANSIT.false (sym c.first_bad_pair.ensures ∙ c.in_default.is) unknown

pub loop-i-preserved : goal.loop-i-preserved
loop-i-preserved c =
    let found = c.elements_at-messages.result.now in
    let names = texts c.args.names.now.keys in
    let read = some_found names (view c.index-messages-i.result) c.in-Some-places_of.pair c.in-Some-places_of.ensures in
    record {
      known =
          first_passed (λ m. not (list_all (is_among names) (texts_of (view m)))) found c.loop-i.i
          c.index-messages-i.result c.loop-i-test.true c.index-messages-i.is (ap not read.0) c.loop-i.invariant.known;
      made =
          made-next (λ m. places_in_pair names (view m)) c.loop-i.places.items c.push.new.self.items
          c.in-Some-places_of.pair found c.loop-i.i c.index-messages-i.result c.in_ok-push.ensures.items
          c.loop-i.invariant.made read.1 c.loop-i-test.true c.index-messages-i.is;
    }

pub returns-clause-judges : goal.returns-clause-judges
returns-clause-judges c =
    let found = c.elements_at-messages.result.now in
    let names = texts c.args.names.now.keys in
    λ are_names. transits_judged view (view c.args.tree.now) found c.elements_at-messages.ensures names are_names
    c.if-messages-gt-MAX_IN_TRANSIT.false (sym c.first_bad_pair.ensures ∙ c.in_default.is)
    (none_left (λ m. not (list_all (is_among names) (texts_of (view m)))) found c.loop-i.i c.loop-i-test.false
    c.loop-i.invariant.known)

pub returns-clause-read : goal.returns-clause-read
returns-clause-read c =
    let found = c.elements_at-messages.result.now in
    λ are_names.
    c.loop-i.invariant.made
    ∙ ap (map (λ m. places_in_pair _ (view m))) (take_all c.loop-i.i found c.loop-i-test.false)
    ∙ (λ i. map (λ m. places_in_pair (are_names i) (view m)) found)
    ∙ map-map (places_in_pair _) view found
    ∙ ap (map (places_in_pair _)) c.elements_at-messages.ensures
