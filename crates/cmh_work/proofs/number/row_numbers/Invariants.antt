use Rattle.cmh_graph.specs.Graph.{process_count}
use Rattle.cmh_work.proofs.RecordLemmas.{NumbersFrom}
use Rattle.cmh_work.proofs.number.row_numbers.Given as goal

abbrev pub invariant-loop-n : goal.invariant-loop-n
invariant-loop-n l = NumbersFrom l.history (process_count l.graph) l.n l.numbers.items
