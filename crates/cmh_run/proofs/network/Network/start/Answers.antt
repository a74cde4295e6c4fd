use Rattle.cmh_run.proofs.Common.{◌<◌, ◌^◌, length, arith}
use Rattle.cmh_run.proofs.Sizes.{few_dependents}
use Rattle.cmh_run.proofs.network.Network.start.Goals as goal

-- the initiator has fewer than 2 ^ 32 dependents
pub overflow_cast-dependents : goal.overflow_cast-dependents
overflow_cast-dependents c =
    let few : length c.dependents-dependents.result.now < 2 ^ 32 =
    rw c.dependents-dependents.ensures
    (few_dependents c.args.graph.now c.args.initiator c.law_built_graph.ensures c.requires.process.within) in
    omega arith
