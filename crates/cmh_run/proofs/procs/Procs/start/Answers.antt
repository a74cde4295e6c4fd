use Rattle.cmh_run.proofs.Common.{◌∙◌, [], ◌∷◌, ◌++◌, ap}
use Rattle.cmh_run.proofs.TouchedProcesses.{none_engaged, one_engaged}
use Rattle.cmh_run.specs.Procs.{ProcsView}
use Rattle.cmh_run.proofs.procs.Procs.start.Goals as goal

-- a process that starts is the only one that is engaged, and those that were are counted among the others
pub invariant_of-self-2 : goal.invariant_of-self-2
invariant_of-self-2 c =
    let i = c.args.initiator in
    one_engaged _ [] _ _ _ i _ (none_engaged _ _ _ _ c.self.invariant c.in_ok-append.ensures.items)
    (ap (λ (v : ProcsView). v.procs) c.self.view_is)
    (c.in_ok-push.ensures.items ∙ ap (λ l. l ++ i ∷ []) c.in_ok-append.ensures.other_items) c.requires.within
