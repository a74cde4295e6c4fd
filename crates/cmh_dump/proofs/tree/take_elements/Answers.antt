use Rattle.std.proofs.Common.{map, sym}
use Rattle.serde_json.proofs.Views.{view-Array}
use Rattle.serde_json.specs.View.{view}
use Rattle.cmh_dump.proofs.Trees.{list_of-items_of}
use Rattle.cmh_dump.proofs.tree.take_elements.Goals as goal

pub returns-in-Array : goal.returns-in-Array
returns-in-Array c = rw (c.in-Array.is, view-Array) (sym (list_of-items_of (map view c.in-Array.elements.items)))
