use Rattle.cmh_text.proofs.LineLemmas.{alone_pieces}
use Rattle.cmh_text.proofs.lines.push_alone.Goals as goal

pub returns : goal.returns
returns c = alone_pieces _ _ _ _ _ c.prepare_text.ensures c.in_ok-write.ensures.bytes
