use Rattle.std.proofs.Common.{◌≡◌, not, map, take}
use Rattle.std.specs.List.{list_all}
use Rattle.serde_json.specs.View.{view}
use Rattle.cmh_dump.specs.Dump.{places_in_pair}
use Rattle.cmh_dump.specs.Name.{is_among}
use Rattle.cmh_dump.specs.Texts.{texts}
use Rattle.cmh_dump.specs.Tree.{texts_of}
use Rattle.cmh_dump.proofs.Pairs.{FirstIsLeft}
use Rattle.cmh_dump.proofs.transit.read_in_transit.Given as goal

abbrev pub invariant-loop-i : goal.invariant-loop-i
invariant-loop-i l = record {
  known : FirstIsLeft (λ m. not (list_all (is_among (texts l.names.keys)) (texts_of (view m)))) l.messages l.i;
  made : l.places.items ≡ map (λ m. places_in_pair (texts l.names.keys) (view m)) (take l.i l.messages);
}
