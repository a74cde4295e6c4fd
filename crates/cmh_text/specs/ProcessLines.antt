-- What the lines of idle processes are made of.
use Rattle.std.specs.Prelude.{◌≡◌}
use Rattle.cmh_text.specs.Group.{AreGroupsOf}
use Rattle.cmh_text.specs.declared.process_lines.ProcessLines.TheInside.{Inside}

-- groups and path are of the same graph
pub record AreMadeForProcesses (lines : Inside) : Type 0 where
  pub groups : AreGroupsOf lines.graph.now lines.groups.now
  pub last_path : lines.last_path.graph ≡ lines.graph.now
