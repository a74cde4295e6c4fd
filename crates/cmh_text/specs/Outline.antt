-- What the text of a report takes from an analysis.
use Rattle.std.specs.Prelude.{◌≡◌, string_bytes}
use Rattle.cmh_graph.specs.Graph.{Graph}
use Rattle.cmh_text.specs.Group.{AreGroupsOf}
use Rattle.cmh_text.specs.Report.{line, totals_line, deadlocked_count}
use Rattle.cmh_text.specs.declared.outline.Outline.{Outline}

-- the first line, the count and the groups of this graph
pub record IsOutlineOf (g : Graph) (o : Outline) : Type 0 where
  pub totals : string_bytes o.totals ≡ line (totals_line g)
  pub deadlocked : o.deadlocked ≡ deadlocked_count g
  pub groups : AreGroupsOf g o.groups
