use Rattle.std.proofs.Common.{◌∙◌, ap, get_or, length, subst, sym}
use Rattle.std.specs.Prelude.{Contains, IsTrue}
use Rattle.std.proofs.lemmas.List.Elements.{Contains-get_or}
use Rattle.cmh_graph.proofs.ForwardSearch.{dependents_within}
use Rattle.cmh_graph.specs.Graph.{dependents_of}
use Rattle.cmh_text.specs.Group.{is_led_by, AreGroupsOf}
use Rattle.cmh_text.specs.Summary.{leaders_in}
use Rattle.cmh_text.proofs.SharedReachLemmas.{leads_to}
use Rattle.cmh_text.proofs.Summaries.{summaries_size}
use Rattle.cmh_text.proofs.group_lines.GroupLines.waits_for.Goals as goal

pub is_led_by-requires : goal.is_led_by-requires
is_led_by-requires c =
    let g = c.self.inside.graph.now in
    dependents_within g c.args.p _ _ c.self.invariant.groups.well_formed c.dependents-q-items.ensures
    (ap length c.deref.ensures.value ∙ summaries_size g _ c.self.invariant.groups.summaries)
    c.loop-q.q-index 0 c.loop-q-test.true

pub returns-then-is_led_by : goal.returns-then-is_led_by
returns-then-is_led_by c = λ e.
    let groups = subst (λ g. AreGroupsOf g c.self.inside.groups.now) c.self.view_is c.self.invariant.groups in
    let leader = c.args.leader in
    let q = get_or c.dependents-q-items.result.now c.loop-q.q-index 0 in
    leads_to c.args.self.now (leaders_in c.self.inside.groups.now.summaries.items) c.args.p q leader
    groups.well_formed groups.leaders c.requires
    (subst (λ xs. Contains xs q)
    (c.dependents-q-items.ensures ∙ ap (λ g. dependents_of g c.args.p) c.self.view_is)
    (Contains-get_or _ c.loop-q.q-index 0 c.loop-q-test.true))
    (subst (λ xs. IsTrue (is_led_by (leaders_in xs) leader q)) c.deref.ensures.value
    (sym c.is_led_by.ensures ∙ c.if-is_led_by.true))
