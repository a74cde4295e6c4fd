use Rattle.cmh_rw.proofs.ClosedWords.{closed_shows}
use Rattle.cmh_rw.proofs.words.RwWords.close_with.Goals as goal

pub returns-clause-history : goal.returns-clause-history
returns-clause-history c =
    let last = c.close_with.ensures.values.2 in closed_shows _ last.0 _ last.1.0 _ _ last.1.1 c.requires.away last.2
