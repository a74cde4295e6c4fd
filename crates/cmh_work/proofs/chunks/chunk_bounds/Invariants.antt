use Rattle.std.proofs.Common.{◌≡◌, ◌+◌, ◌<◌, ◌≤◌, ◌++◌, drop, length}
use Rattle.std.specs.Vec.{vec_len, vec_capacity}
use Rattle.cmh_work.specs.Cutting.{bounds_of, ends_from}
use Rattle.cmh_work.proofs.chunks.chunk_bounds.Given as goal

abbrev pub invariant-loop-cut : goal.invariant-loop-cut
invariant-loop-cut l = record {
  made : l.bounds.items ++ ends_from l.size l.at (drop l.cut-index l.cuts) ≡ bounds_of l.cuts l.size;
  within : l.at ≤ l.size;
  room : vec_len l.bounds + length l.cuts < vec_capacity l.bounds + l.cut-index;
}
