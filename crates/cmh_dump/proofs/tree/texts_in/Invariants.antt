use Rattle.std.proofs.Common.{◌≡◌, map, take}
use Rattle.serde_json.specs.View.{view}
use Rattle.cmh_dump.specs.Texts.{texts}
use Rattle.cmh_dump.specs.Tree.{text_of}
use Rattle.cmh_dump.proofs.tree.texts_in.Given as goal

abbrev pub invariant-loop-value : goal.invariant-loop-value
invariant-loop-value l = texts l.texts.items ≡ map (λ value. text_of (view value)) (take l.value-index l.values)
