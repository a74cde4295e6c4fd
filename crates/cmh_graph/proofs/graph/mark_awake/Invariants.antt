use Rattle.cmh_graph.specs.Build.{parts_graph}
use Rattle.cmh_graph.proofs.AwakeLemmas.{AwakeUpTo}
use Rattle.cmh_graph.proofs.graph.mark_awake.Given as goal

abbrev pub invariant-loop-sender : goal.invariant-loop-sender
invariant-loop-sender l = AwakeUpTo (parts_graph l.parts l.in_transit) l.sender-index l.marks.items
