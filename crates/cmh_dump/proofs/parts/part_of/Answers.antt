use Rattle.std.proofs.Common.{◌∙◌}
use Rattle.cmh_dump.specs.Name.{place_of}
use Rattle.cmh_dump.specs.Texts.{texts}
use Rattle.cmh_dump.specs.Tree.{text_of}
use Rattle.serde_json.specs.View.{view}
use Rattle.cmh_dump.proofs.Trees.{map-map}
use Rattle.cmh_dump.proofs.parts.part_of.Goals as goal

pub returns : goal.returns
returns c =
    let found = c.in_ok-dependents.ensures in
    let places =
    found.places
    ∙ map-map (place_of (texts c.args.names.now.keys)) (λ v. text_of (view v)) c.args.entry.now.dependents.now in
    record {
      known = found.known;
      made =
          λ i. record {
            name = c.new.ensures.bytes i;
            site = c.place_of.ensures i;
            state = c.args.entry.now.state;
            dependents = places i;
          };
      unknown = tt;
    }
