use Rattle.std.proofs.Common.{rules, append_assoc}
use Rattle.cmh_text.proofs.outline.counts.Goals as goal

-- the pieces of a format stand in brackets that differ from the line's
pub returns : goal.returns
returns c = search (rules, append_assoc)
