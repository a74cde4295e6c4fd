use Rattle.std.proofs.Common.{◌≡◌, take}
use Rattle.std.specs.Prelude.{sum_by}
use Rattle.cmh_text.specs.Chunks.{counted, path_count}
use Rattle.cmh_text.proofs.chunks.process_chunk.Given as goal

abbrev pub invariant-loop-summary : goal.invariant-loop-summary
invariant-loop-summary l = l.names ≡ counted (sum_by path_count (take l.summary-index l.summaries))
