use Rattle.std.proofs.Common.{◌∙◌, ap}
use Rattle.cmh_graph.specs.Graph.{process_count}
use Rattle.cmh_graph.specs.Path.{reach_of}
use Rattle.cmh_text.specs.Report.{site_count}
use Rattle.cmh_text.proofs.Members.{reach_within}
use Rattle.cmh_text.proofs.group_lines.GroupLines.group_of.Goals as goal

pub count-requires : goal.count-requires
count-requires c =
    let parts = c.in_ok-leader_reach.ensures in
    let all = c.deref.ensures.value ∙ parts.leader_reach.reach ∙ ap (reach_of c.args.self.now) parts.named in
    reach_within c.args.self.now c.args.leader _ _ all (ap process_count (c.self.invariant.sites ∙ c.self.view_is))

pub returns-clause-sites : goal.returns-clause-sites
returns-clause-sites c =
    let parts = c.in_ok-leader_reach.ensures in
    let all = c.deref.ensures.value ∙ parts.leader_reach.reach ∙ ap (reach_of c.args.self.now) parts.named in
    c.in_ok-site_count.ensures
    ∙ (λ i. site_count ((c.self.invariant.sites ∙ c.self.view_is) i) (all i))
