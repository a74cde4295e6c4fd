use Rattle.std.proofs.Common.{arith, subst, take_all}
use Rattle.cmh_work.specs.Leaders.{LeadsEach}
use Rattle.cmh_work.proofs.LeadersLemmas.{leads_more, leads_none}
use Rattle.cmh_work.proofs.leaders.assign_leader.Goals as goal

pub loop-p-init : goal.loop-p-init
loop-p-init c = leads_none c.args.leader c.args.leaders.now

pub loop-p-preserved : goal.loop-p-preserved
loop-p-preserved c =
    let within = c.requires c.loop-p.p-index 0 c.loop-p-test.true in
    leads_more _ _ _ _ _ c.loop-p-test.true (omega (arith, within, c.loop-p.auto.leaders)) c.loop-p.invariant

pub returns : goal.returns
returns c =
    subst (λ xs. LeadsEach c.args.leader xs c.args.leaders.now c.loop-p.leaders)
    (take_all c.loop-p.p-index c.args.members.now (omega arith))
    c.loop-p.invariant
