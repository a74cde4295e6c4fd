-- The groups of deadlocked processes, as the report finds them: the leader of each process, and the numbers.
use Rattle.std.specs.Prelude.{◌≡◌, ℕ, Bool, nat_eq, nat_le, List, map, count_by, slice_index_or, Option, Some, None}
use Rattle.std.specs.Option.{option_eq}
use Rattle.cmh_graph.specs.Graph.{Graph, indices}
use Rattle.cmh_graph.specs.Build.{IsWellFormed}
use Rattle.cmh_graph.specs.Core.{leaders as all_leaders, group_leader}
use Rattle.cmh_text.specs.Summary.{AreSummariesOf, leaders_in}
use Rattle.cmh_text.specs.declared.groups.Groups.{Groups}

-- how many leaders there are up to this place
unfoldable pub leaders_up_to : Graph → ℕ → ℕ
leaders_up_to g p = count_by (λ q. nat_le q p) (all_leaders g)

-- whether that leader stands at the place
abbrev pub is_led_by : List (Option ℕ) → ℕ → ℕ → Bool
is_led_by list leader p = option_eq nat_eq (slice_index_or list p None) (Some leader)

-- the groups of this graph
pub record AreGroupsOf (g : Graph) (groups : Groups) : Type 0 where
  pub well_formed : IsWellFormed g
  pub summaries : AreSummariesOf g groups.summaries.items
  pub leaders : leaders_in groups.summaries.items ≡ map (group_leader g) (indices g)
  pub numbers : groups.numbers.items ≡ map (leaders_up_to g) (indices g)
  pub list : groups.list.items ≡ all_leaders g
