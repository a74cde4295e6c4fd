use Rattle.std.proofs.Common.{take, []}
use Rattle.cmh_graph.specs.Search.{IsNamedBy, Numbers}
use Rattle.cmh_graph.proofs.search.next_level.Given as goal

abbrev pub invariant-loop-q : goal.invariant-loop-q
invariant-loop-q l =
    Numbers (IsNamedBy l.predecessors (take l.q-index l.level)) l.distance l.initial.distances l.distances
    [] l.next.items
