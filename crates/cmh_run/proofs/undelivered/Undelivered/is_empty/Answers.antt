use Rattle.cmh_run.proofs.UndeliveredLemmas.{empty_means}
use Rattle.cmh_run.proofs.undelivered.Undelivered.is_empty.Goals as goal

-- where there are no queries, nothing is undelivered just if there are no replies
pub returns-then-is_empty : goal.returns-then-is_empty
returns-then-is_empty c =
    let means = empty_means _ _ c.self.view_is in (
      λ h. means.0 (c.is_empty.ensures.0 c.if-is_empty.true, c.is_empty-then-is_empty.ensures.0 h),
      λ none. c.is_empty-then-is_empty.ensures.1 (means.1 none).1,
    )

-- where there are queries, something is undelivered
pub returns-else-is_empty : goal.returns-else-is_empty
returns-else-is_empty c =
    (λ h. absurd (cc), λ none. c.is_empty.ensures.1 ((empty_means _ _ c.self.view_is).1 none).0)
