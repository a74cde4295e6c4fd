use Rattle.std.proofs.Common.{◌<◌, ℕ}
use Rattle.cmh_graph.specs.Graph.{site_of}
use Rattle.cmh_text.proofs.sites.site_bound.Given as goal

abbrev pub invariant-loop-p : goal.invariant-loop-p
invariant-loop-p l = (q : ℕ) → q < l.p → site_of l.graph q < l.bound
