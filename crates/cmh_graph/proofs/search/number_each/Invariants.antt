use Rattle.std.proofs.Common.{take}
use Rattle.std.specs.Prelude.{Contains}
use Rattle.cmh_graph.specs.Search.{Numbers}
use Rattle.cmh_graph.proofs.search.number_each.Given as goal

abbrev pub invariant-loop-p : goal.invariant-loop-p
invariant-loop-p l =
    Numbers (Contains (take l.p-index l.list)) l.distance l.initial.distances l.distances l.initial.next.items
    l.next.items
