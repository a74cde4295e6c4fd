use Rattle.std.proofs.Common.{ℕ, ◌∙◌, ap, arith, max, subst, sym}
use Rattle.std.specs.Prelude.{All, Contains, flat_map}
use Rattle.std.specs.declared.alloc.AllocError.{AllocError}
use Rattle.std.proofs.lemmas.List.Elements.{All-contains_itself}
use Rattle.std.proofs.lemmas.List.Folds.{flat_map-map}
use Rattle.rayon.specs.Lists.{chunks_of}
use Rattle.rayon.proofs.ListFacts.{IfOk-then}
use Rattle.cmh_graph.specs.Core.{leaders}
use Rattle.cmh_text.specs.Report.{line, group_line}
use Rattle.cmh_text.proofs.JoinedTexts.{all_pieces, collected, pieces_joined}
use Rattle.cmh_text.proofs.parallel.group_lines.Goals as goal

-- each piece has leaders alone
pub collect-requires-clause-ready : goal.collect-requires-clause-ready
collect-requires-clause-ready g c κs within =
    let graph = c.args.graph.now in
    let list = c.as_slice.result.now in
    let at : ℕ → Type 0 = Contains (leaders graph) in
    let same = c.as_slice.ensures.value ∙ c.requires.list in
    let pieces = all_pieces at (max c.group_chunk.result 1) list
    (subst (λ xs. All (Contains xs) list) same (All-contains_itself list)) in
    rw (
      c.map.ensures.base,
      c.map.ensures.f,
      c.with_min_len.ensures.base,
      c.par_chunks.ensures.slice,
      c.par_chunks.ensures.size,
    ) (λ k d lt x same.
    ((c.requires, c.in_ok-greatest.ensures, subst (All at) (sym same) (pieces k d lt)), λ y p. tt))

pub returns : goal.returns
returns g c =
    let graph = c.args.graph.now in
    let text = λ (p : ℕ). line (group_line graph p) in
    let size = max c.group_chunk.result 1 in
    let list = c.as_slice.result.now in
    let h = c.in_ok-collect.ensures in
    let chain =
    rw (
      c.map.ensures.base,
      c.map.ensures.f,
      c.with_min_len.ensures.base,
      c.par_chunks.ensures.slice,
      c.par_chunks.ensures.size,
    ) at h.1 in
    IfOk-then c.in_ok-collect.field-0 _ _
    (collected AllocError (flat_map text) (chunks_of size list)
    chain.0 h.0 c.in_ok-collect.field-0 chain.1 chain.2 h.2)
    (λ texts same.
    pieces_joined text list size texts.items (omega arith) same
    ∙ ap (flat_map text) (c.as_slice.ensures.value ∙ c.requires.list)
    ∙ sym (flat_map-map line (group_line graph) (leaders graph)))
