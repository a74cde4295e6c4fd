use Rattle.std.proofs.Common.{◌∙◌, [], ap, get_or, length, sym}
use Rattle.cmh_work.specs.Cutting.{bounds_of, chunks_of}
use Rattle.cmh_work.proofs.CuttingLemmas.{bounds_lie, chunk_is}
use Rattle.cmh_work.proofs.chunks.chunk_at.Goals as goal

pub slice_between-requires-clause-within : goal.slice_between-requires-clause-within
slice_between-requires-clause-within c =
    let j = c.args.job.now in
    (bounds_lie j.plan.now.cuts _ _ c.args.number
    (c.deref.ensures.value ∙ j.bounds) c.requires).0

pub slice_between-requires-clause-rising : goal.slice_between-requires-clause-rising
slice_between-requires-clause-rising c =
    let j = c.args.job.now in
    (bounds_lie j.plan.now.cuts _ _ c.args.number
    (c.deref.ensures.value ∙ j.bounds) c.requires).1

pub slice_between-requires-clause-ends : goal.slice_between-requires-clause-ends
slice_between-requires-clause-ends c =
    let j = c.args.job.now in
    (bounds_lie j.plan.now.cuts _ _ c.args.number
    (c.deref.ensures.value ∙ j.bounds ∙ ap (λ xs. bounds_of j.plan.now.cuts (length xs)) (sym c.deref-2.ensures.value))
    c.requires).2

pub returns : goal.returns
returns c =
    let j = c.args.job.now in
    c.slice_between.ensures
    ∙ chunk_is j.plan.now.cuts _ _ c.args.number
    (c.deref.ensures.value ∙ j.bounds ∙ ap (λ xs. bounds_of j.plan.now.cuts (length xs)) (sym c.deref-2.ensures.value))
    c.requires
    ∙ ap (λ xs. get_or (chunks_of j.plan.now.cuts xs) c.args.number []) c.deref-2.ensures.value
