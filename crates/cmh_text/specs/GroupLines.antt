-- What the lines of groups are made of.
use Rattle.std.specs.Prelude.{◌≡◌, IfSome}
use Rattle.cmh_text.specs.Group.{AreGroupsOf}
use Rattle.cmh_text.specs.LeaderReach.{IsLeaderReachOf}
use Rattle.cmh_text.specs.declared.group_lines.GroupLines.TheInside.{Inside}

-- groups, reaches, names and sites are of the same graph
pub record AreMadeForGroups (lines : Inside) : Type 0 where
  pub groups : AreGroupsOf lines.graph.now lines.groups.now
  pub shared : IfSome lines.shared.now (IsLeaderReachOf lines.graph.now)
  pub last_reach : IfSome lines.last_reach (IsLeaderReachOf lines.graph.now)
  pub last_names : lines.last_names.graph ≡ lines.graph.now
  pub sites : lines.sites ≡ lines.graph.now
