use Rattle.std.proofs.Common.{◌≡◌, ℕ, ◌∙◌, ap, arith, max, rules, subst, sym}
use Rattle.std.specs.Prelude.{All, IsTrue, flat_map}
use Rattle.std.specs.declared.alloc.AllocError.{AllocError}
use Rattle.std.proofs.lemmas.List.Folds.{flat_map-map}
use Rattle.rayon.specs.Lists.{chunks_of}
use Rattle.rayon.proofs.ListFacts.{IfOk-then}
use Rattle.cmh_graph.specs.Graph.{idle_list, is_idle}
use Rattle.cmh_text.specs.Report.{line, process_line}
use Rattle.cmh_text.proofs.JoinedTexts.{all_pieces, collected, idle_each, pieces_joined}
use Rattle.cmh_text.proofs.parallel.process_lines.Goals as goal

-- each piece has idle processes alone
pub collect-requires-clause-ready : goal.collect-requires-clause-ready
collect-requires-clause-ready g c κs within =
    let graph = c.args.graph.now in
    let at : ℕ → Type 0 = λ p. IsTrue (is_idle graph p) in
    let list = c.as_slice.result.now in
    let idle : c.in_ok-idle.idle.items ≡ idle_list graph = search rules in
    let pieces = all_pieces at (max c.process_chunk.result 1) list
    (idle_each graph list (c.as_slice.ensures.value ∙ idle)) in
    rw (
      c.map.ensures.base,
      c.map.ensures.f,
      c.with_min_len.ensures.base,
      c.par_chunks.ensures.slice,
      c.par_chunks.ensures.size,
    ) (λ k d lt x same.
    ((c.requires, subst (All at) (sym same) (pieces k d lt)), λ y p. tt))

pub returns : goal.returns
returns g c =
    let graph = c.args.graph.now in
    let text = λ (p : ℕ). line (process_line graph p) in
    let size = max c.process_chunk.result 1 in
    let list = c.as_slice.result.now in
    let idle : c.in_ok-idle.idle.items ≡ idle_list graph = search rules in
    let h = c.in_ok-collect.ensures in
    let chain =
    rw (
      c.map.ensures.base,
      c.map.ensures.f,
      c.with_min_len.ensures.base,
      c.par_chunks.ensures.slice,
      c.par_chunks.ensures.size,
    ) at h.1 in
    IfOk-then c.in_ok-collect.field-0 _ _
    (collected AllocError (flat_map text) (chunks_of size list)
    chain.0 h.0 c.in_ok-collect.field-0 chain.1 chain.2 h.2)
    (λ texts same.
    pieces_joined text list size texts.items (omega arith) same
    ∙ ap (flat_map text) (c.as_slice.ensures.value ∙ idle)
    ∙ sym (flat_map-map line (process_line graph) (idle_list graph)))
