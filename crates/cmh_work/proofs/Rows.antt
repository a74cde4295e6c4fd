-- Rows that begin with others, and what they say of a process.
use Rattle.std.proofs.Common.{◌≡◌, ℕ, List, ◌++◌, append_assoc, Some, ap, ◌∙◌}
use Rattle.cmh_graph.specs.declared.verdict.Verdict.{Verdict}
use Rattle.cmh_rw.specs.declared.row.Row.{Row}
use Rattle.cmh_rw.specs.History.{StartsWith, fold_at}
use Rattle.cmh_board.proofs.Histories.{present-append}

-- what begins with b begins with what b begins with
pub starts_trans : (a b c : List Row) → StartsWith a b → StartsWith b c → StartsWith a c
starts_trans a b c h k = (k.0 ++ h.0, h.1 ∙ ap (λ l. l ++ h.0) k.1 ∙ append_assoc c k.0 h.0)

-- what a prefix of the rows says of a process, the rows say
pub fold_more : (a b : List Row) (p : ℕ) (v : Verdict) → StartsWith a b → fold_at b p ≡ Some v → fold_at a p ≡ Some v
fold_more a b p v h e = ap (λ l. fold_at l p) h.1 ∙ present-append b h.0 p v e
