use Rattle.std.proofs.Common.{◌∙◌, ap, map, rules}
use Rattle.std.specs.Cmp.{nat_eq_equiv}
use Rattle.std.specs.HashSet.{IsFromIterResult}
use Rattle.std.specs.Prelude.{nat_eq}
use Rattle.std.proofs.lemmas.Map.Made.{hash_set_len-from_list}
use Rattle.cmh_graph.specs.Graph.{site_of}
use Rattle.cmh_text.specs.Report.{site_count}
use Rattle.cmh_text.proofs.sites.Sites.count_hashed.Goals as goal

pub returns : goal.returns
returns c =
    let sites = map (site_of c.self.inside.graph.now) c.args.list.now in
    let made : IsFromIterResult nat_eq sites c.in_ok-sites.sites = search rules in
    c.len.ensures.len
    ∙ hash_set_len-from_list nat_eq_equiv sites c.in_ok-sites.sites made
    ∙ ap (λ g. site_count g c.args.list.now) c.self.view_is
