use Rattle.std.proofs.Common.{◌≡◌, not, map, take}
use Rattle.cmh_dump.specs.Name.{is_among, place_of}
use Rattle.cmh_dump.specs.Texts.{texts}
use Rattle.cmh_dump.specs.Tree.{text_of}
use Rattle.serde_json.specs.View.{view}
use Rattle.cmh_dump.proofs.Pairs.{FirstIsLeft}
use Rattle.cmh_dump.proofs.index.places_of.Given as goal

abbrev pub invariant-loop-j : goal.invariant-loop-j
invariant-loop-j l = record {
  known : FirstIsLeft (λ v. not (is_among (texts l.index.keys) (text_of (view v)))) l.values l.j;
  made : l.places.items ≡ map (λ v. place_of (texts l.index.keys) (text_of (view v))) (take l.j l.values);
}
