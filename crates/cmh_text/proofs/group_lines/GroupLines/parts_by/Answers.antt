use Rattle.std.proofs.Common.{◌∙◌, ap, length, not, refl, subst, sym}
use Rattle.std.specs.Prelude.{Contains, filter}
use Rattle.cmh_graph.specs.Core.{leaders}
use Rattle.cmh_graph.specs.Path.{reach_of}
use Rattle.cmh_text.specs.Group.{is_led_by, AreGroupsOf}
use Rattle.cmh_text.specs.Summary.{leaders_in}
use Rattle.cmh_text.proofs.Members.{reach_within}
use Rattle.cmh_text.proofs.Numbers.{leader_leads, leader_within, led_core, led_rest}
use Rattle.cmh_text.proofs.Summaries.{summaries_size}
use Rattle.cmh_text.proofs.group_lines.GroupLines.parts_by.Goals as goal

pub reach_of-requires-clause-within : goal.reach_of-requires-clause-within
reach_of-requires-clause-within c =
    leader_within c.self.inside.graph.now c.args.leader
    (subst (λ g. Contains (leaders g) c.args.leader) (sym c.self.view_is) c.requires.leads)

pub core_and_rest-requires : goal.core_and_rest-requires
core_and_rest-requires c =
    reach_within c.self.inside.graph.now c.args.leader _ _ (c.deref-3.ensures.value ∙ c.in_ok-reach.ensures)
    (ap length c.deref-2.ensures.value ∙ summaries_size c.self.inside.graph.now _ c.self.invariant.groups.summaries)

pub returns : goal.returns
returns c =
    let g = c.args.self.now in
    let leader = c.args.leader in
    let groups = subst (λ g. AreGroupsOf g c.self.inside.groups.now) c.self.view_is c.self.invariant.groups in
    let table = leaders_in c.self.inside.groups.now.summaries.items in
    let within = leader_within g leader c.requires.leads in
    let leads = leader_leads g table leader groups.leaders c.requires.leads in
    let reach = c.in_ok-reach.ensures ∙ ap (λ g. reach_of g leader) c.self.view_is in
    let all = c.deref-3.ensures.value ∙ reach in
    record {
      named = refl;
      leader_reach = record {
        within = within;
        marks = c.requires.marks;
        reach = reach;
      };
      core =
          c.in_ok-core.ensures.core
          ∙ ap (λ xs. filter (is_led_by (leaders_in xs) leader) c.deref-3.result.now) c.deref-2.ensures.value
          ∙ led_core g table leader _ groups.well_formed.within within groups.leaders leads all;
      rest =
          c.in_ok-core.ensures.rest
          ∙ ap (λ xs. filter (λ q. not (is_led_by (leaders_in xs) leader q)) c.deref-3.result.now)
          c.deref-2.ensures.value
          ∙ led_rest g table leader _ groups.well_formed.within within groups.leaders leads all;
    }
