use Rattle.std.proofs.Common.{arith}
use Rattle.serde_json.specs.View.{view}
use Rattle.cmh_dump.proofs.FirstFault.Bytes.{err_of_the_tree}
use Rattle.cmh_dump.proofs.dump.read_dump.Goals as goal

pub returns-clause-err : goal.returns-clause-err
returns-clause-err c =
    err_of_the_tree c.args.bytes.now (view c.in_ok-tree.tree) c.read_tree.result (omega arith) c.in_ok-tree.ensures.ok
    c.read_tree.ensures.err
