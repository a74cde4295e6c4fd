use Rattle.std.proofs.Common.{◌≡◌, ◌∙◌, None, Some, ap, arith, length, subst, sym}
use Rattle.std.proofs.lemmas.List.{get_or_default, with_items_is}
use Rattle.cmh_graph.proofs.Groups.{members_within}
use Rattle.cmh_work.specs.Leaders.{KnowsLeaders, leader_at}
use Rattle.cmh_graph.specs.Core.{leader_of}
use Rattle.std.specs.Prelude.{Contains}
use Rattle.std.proofs.lemmas.Option.{none-some}
use Rattle.cmh_work.proofs.LeadersLemmas.{core_some, knows_more, leader_first}
use Rattle.cmh_work.proofs.leaders.find_leader.Goals as goal

-- what stands at the place of the process is its leader
pub returns-in-Some-clause-leader : goal.returns-in-Some-clause-leader
returns-in-Some-clause-leader c =
    c.requires.leaders.leads c.args.p c.in-Some.leader
    (get_or_default c.args.leaders.now.items c.args.p None _
    (omega (arith, c.requires.leaders.size, c.requires.within))
    ∙ sym c.index.ensures ∙ c.in-Some.is)

-- where the leader stood in the table, nothing has to be kept
pub returns-in-Some-clause-kept : goal.returns-in-Some-clause-kept
returns-in-Some-clause-kept c none alone q m =
    absurd (none-some c.in-Some.leader (sym none
    ∙ get_or_default c.args.leaders.now.items c.args.p None _
    (omega (arith, c.requires.leaders.size, c.requires.within))
    ∙ sym c.index.ensures ∙ c.in-Some.is))

-- each of the core has the leader
pub returns-clause-kept : goal.returns-clause-kept
returns-clause-kept c none alone q m =
    let g = c.args.graph.now in
    let core = c.deref.ensures.value ∙ c.in_ok-core.ensures in
    let some = core_some g c.args.p c.in_ok-core.core.items c.law_built_graph.ensures.within c.requires.within
    c.in_ok-core.ensures in
    let least = c.index-leader.ensures ∙ leader_first g c.args.p _ c.in_ok-core.core.items c.in_ok-core.ensures some in
    subst (λ xs. leader_at xs q ≡ Some (leader_of g c.args.p))
    (sym (with_items_is c.args.leaders.now c.assign_leader.new.leaders
    (c.assign_leader.ensures.size ∙ c.deref_mut.ensures.len)))
    (c.assign_leader.ensures.led q (subst (λ xs. Contains xs q) (sym core) m) ∙ ap (λ l. Some l) least)

pub index-leader-requires : goal.index-leader-requires
index-leader-requires c =
    omega (
      arith,
      core_some c.args.graph.now c.args.p c.in_ok-core.core.items c.law_built_graph.ensures.within c.requires.within
          c.in_ok-core.ensures,
      c.in_ok-core.core.ok.0,
    )

pub assign_leader-requires : goal.assign_leader-requires
assign_leader-requires c =
    members_within c.args.graph.now c.args.p _ _ (c.deref.ensures.value ∙ c.in_ok-core.ensures)
    (ap length c.deref_mut.ensures.value ∙ c.requires.leaders.size)

pub returns-clause-leaders : goal.returns-clause-leaders
returns-clause-leaders c =
    let g = c.args.graph.now in
    let w = c.law_built_graph.ensures.within in
    let some = core_some g c.args.p c.in_ok-core.core.items w c.requires.within c.in_ok-core.ensures in
    let least = c.index-leader.ensures ∙ leader_first g c.args.p _ c.in_ok-core.core.items c.in_ok-core.ensures some in
    let old = subst (KnowsLeaders g) (sym c.deref_mut.ensures.value) c.requires.leaders in
    subst (KnowsLeaders g)
    (sym (with_items_is c.args.leaders.now c.assign_leader.new.leaders
    (c.assign_leader.ensures.size ∙ c.deref_mut.ensures.len)))
    (knows_more g c.args.p c.index-leader.result.now c.deref.result.now c.deref_mut.result.now
    c.assign_leader.new.leaders w c.requires.within (c.deref.ensures.value ∙ c.in_ok-core.ensures) least
    c.assign_leader.ensures old)

pub returns-clause-leader : goal.returns-clause-leader
returns-clause-leader c =
    let g = c.args.graph.now in
    let some = core_some g c.args.p c.in_ok-core.core.items c.law_built_graph.ensures.within c.requires.within
    c.in_ok-core.ensures in
    c.index-leader.ensures ∙ leader_first g c.args.p _ c.in_ok-core.core.items c.in_ok-core.ensures some
