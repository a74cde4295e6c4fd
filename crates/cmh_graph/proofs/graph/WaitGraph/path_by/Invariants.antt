use Rattle.std.proofs.Common.{◌+◌, ◌≤◌}
use Rattle.std.specs.Vec.{vec_len, vec_capacity}
use Rattle.cmh_graph.proofs.ChosenPathLemmas.{LeadsOn}
use Rattle.cmh_graph.proofs.graph.WaitGraph.path_by.Given as goal

abbrev pub invariant-loop-nearer : goal.invariant-loop-nearer
invariant-loop-nearer l = record {
  leads : LeadsOn l.self l.p l.nearer l.path.items l.last;
  room : vec_len l.path + l.nearer ≤ vec_capacity l.path;
}
