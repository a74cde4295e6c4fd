use Rattle.std.specs.Cmp.{booleans_Decides}
use Rattle.std.proofs.lemmas.Slice.Eq.{slice_eq-Decides}
use Rattle.cmh_text.proofs.leader_reach.are_same.Goals as goal

pub returns : goal.returns
returns c = (slice_eq-Decides booleans_Decides c.args.old.now c.args.new.now c.eq.result c.eq.ensures).0
