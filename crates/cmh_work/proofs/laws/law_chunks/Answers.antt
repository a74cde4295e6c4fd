use Rattle.cmh_work.proofs.CuttingLemmas.{joined_chunks, length_chunks}
use Rattle.cmh_work.proofs.laws.law_chunks.Goals as goal

pub returns-clause-whole : goal.returns-clause-whole
returns-clause-whole c = joined_chunks

pub returns-clause-count : goal.returns-clause-count
returns-clause-count c = length_chunks
