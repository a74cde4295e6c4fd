use Rattle.std.proofs.Common.{◌≡◌, ◌<◌, ◌∙◌, ◌+◌, ◌++◌, ◌∷◌, [], ap, arith, false, get_or, length, map, rules, set, subst, sym, take, take_all, true}
use Rattle.std.specs.Prelude.{All, nat_eq}
use Rattle.std.specs.Set.{is_member}
use Rattle.std.specs.Cmp.{nat_eq_equiv}
use Rattle.std.proofs.lemmas.List.{get_or_default}
use Rattle.std.proofs.lemmas.Map.Made.{length-from_keys}
use Rattle.cmh_graph.specs.Graph.{process_count, site_of}
use Rattle.cmh_graph.specs.Search.{is_marked}
use Rattle.cmh_text.specs.Report.{site_count}
use Rattle.cmh_text.proofs.SiteCounts.{AreSeen, seen_again, seen_all, seen_more, seen_none, sites_more}
use Rattle.cmh_text.proofs.sites.Sites.count.Goals as goal
use Rattle.cmh_text.proofs.sites.Sites.count.Goals.{then-not-index+in_ok-push, else-not-index}

pub loop-p-init : goal.loop-p-init
loop-p-init c =
    subst (λ xs. AreSeen c.self.inside.bound c.in_ok-seen.seen.items xs []) (sym c.new-sites.ensures.items)
    (seen_none c.self.inside.bound _ (c.in_ok-seen.ensures.items_if_clones_equal (λ y h. search rules)))

pub loop-p-preserved : goal.loop-p-preserved
loop-p-preserved c =
    let g = c.self.inside.graph.now in
    let list = c.args.list.now in
    let listed = subst (λ g. All (λ p. p < process_count g) list) (sym c.self.view_is) c.requires in
    let p = get_or list c.loop-p.p-index 0 in
    let site = c.site-site.result in
    let is : site ≡ site_of g p = c.site-site.ensures in
    let below : site < c.self.inside.bound =
    omega (arith, is, c.self.invariant p (listed c.loop-p.p-index 0 c.loop-p-test.true)) in
    let within : site < length c.loop-p.seen.items = omega (arith, below, c.loop-p.invariant.size) in
    let all = map (site_of g) (take c.loop-p.p-index list) in
    let more : map (site_of g) (take (c.loop-p.p-index + 1) list) ≡ all ++ site ∷ [] =
    sites_more (site_of g) list c.loop-p.p-index c.loop-p-test.true ∙ ap (λ s. all ++ s ∷ []) (sym is) in
    subst (AreSeen c.self.inside.bound c.if-not-index.seen.items c.if-not-index.sites.items) (sym more)
    (elim c.if-not-index.branch [
      | then-not-index+in_ok-push w ↦
          let unmarked : is_marked c.loop-p.seen.items site ≡ false =
          get_or_default c.loop-p.seen.items site false c.index.result.now within ∙ sym c.index.ensures
          ∙ w.if-not-index.true in
          subst (λ ms. AreSeen c.self.inside.bound ms c.if-not-index.sites.items (all ++ site ∷ []))
          (sym (ap (λ v. v.items) w.seen-is))
          (subst (λ xs. AreSeen c.self.inside.bound (set c.loop-p.seen.items site true) xs (all ++ site ∷ []))
          (sym (ap (λ v. v.items) w.sites-is ∙ w.in_ok-push.ensures.items))
          (seen_more c.self.inside.bound c.loop-p.seen.items c.loop-p.sites.items all site c.loop-p.invariant
          below unmarked))
      | else-not-index w ↦
          let marked : is_marked c.loop-p.seen.items site ≡ true =
          get_or_default c.loop-p.seen.items site false c.index.result.now within ∙ sym c.index.ensures
          ∙ w.if-not-index.false in
          subst (λ ms. AreSeen c.self.inside.bound ms c.if-not-index.sites.items (all ++ site ∷ []))
          (sym (ap (λ v. v.items) w.seen-is))
          (subst (λ xs. AreSeen c.self.inside.bound c.loop-p.seen.items xs (all ++ site ∷ []))
          (sym (ap (λ v. v.items) w.sites-is))
          (seen_again c.self.inside.bound c.loop-p.seen.items c.loop-p.sites.items all site c.loop-p.invariant marked))
    ])

-- where all sites below the bound are seen they are those of the list
pub returns-then-len-self : goal.returns-then-len-self
returns-then-len-self c =
    let g = c.self.inside.graph.now in
    let list = c.args.list.now in
    let listed = subst (λ g. All (λ p. p < process_count g) list) (sym c.self.view_is) c.requires in
    let sites = c.loop-p.sites in
    let full : length sites.items ≡ c.self.inside.bound =
    omega (arith, c.len.ensures, sites.ok.0, c.if-len-self.true) in
    sym full
    ∙ seen_all (site_of g) c.self.inside.bound c.loop-p.seen.items sites.items list c.loop-p.p-index
    c.loop-p.invariant full (λ k d l. c.self.invariant (get_or list k d) (listed k d l))
    ∙ ap (λ g. site_count g list) c.self.view_is

pub returns : goal.returns
returns c =
    let g = c.self.inside.graph.now in
    let list = c.args.list.now in
    let all = take_all c.loop-p.p-index list c.loop-p-test.false in
    c.len-2.ensures ∙ c.loop-p.sites.ok.0
    ∙ length-from_keys nat_eq_equiv c.loop-p.sites.items
    (map (site_of g) list) c.loop-p.invariant.distinct
    (λ s. c.loop-p.invariant.same s ∙ ap (λ xs. is_member nat_eq (map (site_of g) xs) s) all)
    ∙ ap (λ g. site_count g list) c.self.view_is
