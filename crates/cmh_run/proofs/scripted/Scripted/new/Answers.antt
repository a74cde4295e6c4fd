use Rattle.cmh_run.proofs.Common.{◌∙◌, inr, sym}
use Rattle.cmh_run.proofs.Scripts.{none_found, first_found, beyond_means, unlisted_means, true_of}
use Rattle.cmh_run.proofs.scripted.Scripted.new.Goals as goal

-- the first line out of range is the first fault
pub returns-in-Some-clause-fault : goal.returns-in-Some-clause-fault
returns-in-Some-clause-fault c =
    inr (first_found _ _ c.args.lines.now (beyond_means c.args.lines.now c.len.ensures.count) _
    (sym c.first_out_of_range.ensures ∙ c.in-Some.is))

-- no line of the script is out of range
pub returns-clause-within : goal.returns-clause-within
returns-clause-within c =
    none_found _ _ c.args.lines.now (beyond_means c.args.lines.now c.len.ensures.count)
    (sym c.first_out_of_range.ensures ∙ c.in_default.is)

-- the first line that differs from the verdicts is the first fault
pub returns-in-Some-first_difference-clause-fault : goal.returns-in-Some-first_difference-clause-fault
returns-in-Some-first_difference-clause-fault c =
    let never = none_found _ _ c.args.lines.now (beyond_means c.args.lines.now c.len.ensures.count)
    (sym c.first_out_of_range.ensures ∙ c.in_default.is) in inr (
      never,
      first_found _ _ c.args.lines.now
          (unlisted_means c.args.graph.now _ c.args.lines.now c.len.ensures.well_formed.within
          (c.deref.ensures.value ∙ c.in_ok-truth.ensures) never) _
          (sym c.first_difference.ensures ∙ c.in-Some-first_difference.is),
    )

-- each line of the script is true
pub returns-clause-speaks : goal.returns-clause-speaks
returns-clause-speaks c =
    let never = none_found _ _ c.args.lines.now (beyond_means c.args.lines.now c.len.ensures.count)
    (sym c.first_out_of_range.ensures ∙ c.in_default.is) in
    rw c.in_ok-lines.ensures.items
    (true_of c.args.graph.now _ c.args.lines.now c.len.ensures.well_formed.within
    (c.deref.ensures.value ∙ c.in_ok-truth.ensures) never
    (sym c.first_difference.ensures ∙ c.in_default-first_difference.is))
