-- What a leader reaches, kept for the lines of other groups.
use Rattle.std.specs.Prelude.{◌≡◌, ℕ, ◌+◌, ◌<◌, Bool, false, List, drop, map, take}
use Rattle.cmh_graph.specs.Core.{core_of, rest_of}
use Rattle.cmh_graph.specs.Graph.{Graph, indices, process_count}
use Rattle.cmh_graph.specs.Path.{reach_of, reaches, Reaches}
use Rattle.cmh_graph.specs.Search.{is_marked}
use Rattle.cmh_text.specs.declared.leader_reach.LeaderReach.{LeaderReach}
use Rattle.cmh_text.specs.declared.leader_reach.GroupParts.{GroupParts}

-- the marks and the list are of those that the leader reaches
pub record IsLeaderReachOf (g : Graph) (known : LeaderReach) : Type 0 where
  pub within : known.leader < process_count g
  pub marks : known.marks.items ≡ map (reaches g known.leader) (indices g)
  pub reach : known.reach.items ≡ reach_of g known.leader

-- this leader reaches the one whose reach is known
pub record IsBaseFor (g : Graph) (leader : ℕ) (base : LeaderReach) : Type 0 where
  pub within : leader < process_count g
  pub known : IsLeaderReachOf g base
  pub beyond : Reaches g leader base.leader

-- the parts are what this leader reaches, its core and its rest
pub record AreGroupPartsOf (g : Graph) (leader : ℕ) (parts : GroupParts) : Type 0 where
  pub named : parts.leader_reach.leader ≡ leader
  pub leader_reach : IsLeaderReachOf g parts.leader_reach
  pub core : parts.core.items ≡ core_of g leader
  pub rest : parts.rest.items ≡ rest_of g leader

-- p isn't among the old marks, and the new ones are the same at all other places
pub record HasOneMore (p : ℕ) (old new : List Bool) : Type 0 where
  pub apart : is_marked old p ≡ false
  pub before : take p old ≡ take p new
  pub after : drop (p + 1) old ≡ drop (p + 1) new

-- the list is the marks of a leader that reaches itself and what the base does
pub record IsOneBeyond (g : Graph) (leader : ℕ) (known : LeaderReach) (list : List Bool) : Type 0 where
  pub base : IsBaseFor g leader known
  pub marks : list ≡ map (reaches g leader) (indices g)
  pub more : HasOneMore leader known.marks.items list
