-- How sites are counted.
use Rattle.std.specs.Prelude.{ℕ, ◌<◌}
use Rattle.cmh_graph.specs.Graph.{Graph, process_count, site_of}

-- the sites of all processes are below the bound
abbrev pub AreSitesBelow : Graph → ℕ → Type 0
AreSitesBelow g bound = (p : ℕ) → p < process_count g → site_of g p < bound
