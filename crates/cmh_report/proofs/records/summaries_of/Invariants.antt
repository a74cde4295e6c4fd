use Rattle.std.proofs.Common.{take}
use Rattle.cmh_graph.specs.Graph.{idle_list}
use Rattle.cmh_report.proofs.RecordsLemmas.{AreSummariesOfThese}
use Rattle.cmh_report.proofs.records.summaries_of.Given as goal

abbrev pub invariant-loop-record : goal.invariant-loop-record
invariant-loop-record _ l = AreSummariesOfThese l.graph (take l.record-index (idle_list l.graph)) l.summaries.items
