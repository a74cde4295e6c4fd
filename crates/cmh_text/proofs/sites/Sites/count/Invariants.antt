use Rattle.std.proofs.Common.{map, take}
use Rattle.cmh_graph.specs.Graph.{site_of}
use Rattle.cmh_text.proofs.SiteCounts.{AreSeen}
use Rattle.cmh_text.proofs.sites.Sites.count.Given as goal

abbrev pub invariant-loop-p : goal.invariant-loop-p
invariant-loop-p l =
    AreSeen l.self-inside.bound l.seen.items l.sites.items
    (map (site_of l.self-inside.graph.now) (take l.p-index l.list))
