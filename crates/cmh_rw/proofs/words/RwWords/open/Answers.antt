use Rattle.cmh_rw.proofs.SeatSteps.{opens}
use Rattle.cmh_rw.proofs.words.RwWords.open.Goals as goal

pub of_words-requires : goal.of_words-requires
of_words-requires c = opens c.args.graph.now c.law_built_graph.ensures.processes
