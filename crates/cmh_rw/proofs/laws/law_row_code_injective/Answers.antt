use Rattle.cmh_rw.proofs.Codes.{row_code_law}
use Rattle.cmh_rw.proofs.laws.law_row_code_injective.Goals as goal

pub returns : goal.returns
returns c = row_code_law
