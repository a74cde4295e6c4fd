use Rattle.cmh_run.proofs.Common.{◌≡◌, ◌∙◌, [], ap, length, refl, new_proc, replicate}
use Rattle.cmh_run.proofs.TouchedProcesses.{all_fresh, none_touched}
use Rattle.cmh_run.specs.Procs.{AreFresh, ProcsView}
use Rattle.cmh_run.proofs.procs.Procs.clear.Goals as goal

-- all that took part have become fresh, so no process has heard of anything
none_left : (c : goal.After-clear) → c.refresh-2.new.all.items ≡ replicate (length c.self.inside.all.items) new_proc
none_left c =
    let first : AreFresh c.self.inside.engaged.items c.self.inside.all.items c.refresh.new.all.items =
    rw (c.deref.ensures.value, c.replace-engaged.ensures.value) at c.refresh.ensures.fresh in
    let second : AreFresh c.self.inside.others.items c.refresh.new.all.items c.refresh-2.new.all.items =
    rw c.deref-2.ensures.value at c.refresh-2.ensures.fresh in
    all_fresh _ _ _ _ _ c.self.invariant first second (c.refresh-2.ensures.size ∙ c.refresh.ensures.size)

none_engaged : (c : goal.After-clear) → c.replace-engaged.new.dest.items ≡ []
none_engaged c = rw c.replace-engaged.ensures.after c.new.ensures.items

pub invariant_of-self : goal.invariant_of-self
invariant_of-self c = rw (none_left c, none_engaged c, c.clear.ensures.items) (none_touched _)

pub returns-clause-cleared : goal.returns-clause-cleared
returns-clause-cleared c =
    let size = ap (λ (v : ProcsView). length v.procs) c.self.view_is in
    rw (none_left c, none_engaged c, size) refl
