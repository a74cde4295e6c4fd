use Rattle.cmh_graph.proofs.AwakeLemmas.{awake_end, awake_start}
use Rattle.cmh_graph.proofs.graph.mark_awake.Goals as goal

pub loop-sender-init : goal.loop-sender-init
loop-sender-init c = awake_start _ _ _ c.in_ok-marks.ensures

pub returns : goal.returns
returns c = awake_end _ _ _ c.loop-sender-test.false c.loop-sender.invariant
