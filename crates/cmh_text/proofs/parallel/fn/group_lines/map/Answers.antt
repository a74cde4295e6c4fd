use Rattle.std.proofs.Common.{subst, sym}
use Rattle.std.specs.Prelude.{All, Contains}
use Rattle.cmh_graph.specs.Core.{leaders}
use Rattle.cmh_text.proofs.parallel.fn.group_lines.map.Goals as goal

-- the lines are made of the graph whose leaders these are
pub text_of-requires : goal.text_of-requires
text_of-requires c =
    subst (λ g. All (Contains (leaders g)) c.args.chunk.now) (sym c.new.ensures) c.requires.2
