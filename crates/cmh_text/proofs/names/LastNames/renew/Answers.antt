use Rattle.std.proofs.Common.{◌≡◌, ◌<◌, ◌∙◌, ◌++◌, ◌-◌, List, ℕ, ap, arith, drop, length, rules, subst, sym}
use Rattle.std.specs.Prelude.{All}
use Rattle.cmh_graph.specs.Graph.{process_count}
use Rattle.cmh_text.specs.Report.{names_of, spaced_words}
use Rattle.cmh_text.specs.Processes.{Processes}
use Rattle.cmh_text.proofs.SpacedNames.{names_but, names_renewed}
use Rattle.cmh_text.proofs.names.LastNames.renew.Goals as goal

pub replace_range-requires-clause-in_bounds : goal.replace_range-requires-clause-in_bounds
replace_range-requires-clause-in_bounds c =
    let g = c.old.inside.graph.now in
    let old = c.old.inside.list in
    let text = c.old.inside.text.bytes in
    let size : c.len.result ≡ length old.items = omega (arith, c.len.ensures, old.ok.0) in
    let before = names_but g old.items c.deref-2.result.now c.len.result c.kept_count-kept.result
    c.names_room-cut.result text.items c.deref-2.ensures.value size c.old.invariant.text
    (omega (arith, text.ok.0, text.ok.1, text.small)) c.names_room-cut.ensures in
    omega (arith, before.1, text.ok.0)

pub replace_range-requires-clause-end_boundary : goal.replace_range-requires-clause-end_boundary
replace_range-requires-clause-end_boundary c =
    let g = c.old.inside.graph.now in
    let old = c.old.inside.list in
    let text = c.old.inside.text.bytes in
    let size : c.len.result ≡ length old.items = omega (arith, c.len.ensures, old.ok.0) in
    let before = names_but g old.items c.deref-2.result.now c.len.result c.kept_count-kept.result
    c.names_room-cut.result text.items c.deref-2.ensures.value size c.old.invariant.text
    (omega (arith, text.ok.0, text.ok.1, text.small)) c.names_room-cut.ensures in
    (before.1, λ some short high. absurd (omega (arith, before.2 short, high)))

-- the text with new names in front is that of the new list
pub invariant_of-self : goal.invariant_of-self
invariant_of-self c =
    let g = c.old.inside.graph.now in
    let old = c.old.inside.list in
    let text = c.old.inside.text.bytes in
    let size : c.len.result ≡ length old.items = omega (arith, c.len.ensures, old.ok.0) in
    let before = names_but g old.items c.deref-2.result.now c.len.result c.kept_count-kept.result
    c.names_room-cut.result text.items c.deref-2.ensures.value size c.old.invariant.text
    (omega (arith, text.ok.0, text.ok.1, text.small)) c.names_room-cut.ensures in
    let kept = c.kept_count-kept in
    let list = c.args.list.now in
    let same = c.in_ok-extend_from_slice.ensures.items ∙ ap (λ xs. xs ++ list) c.clear.ensures.items in
    let whole : c.replace.result ≡ c.args.self.now = search rules in
    let shown = ap (λ (w : Processes). w.graph) (c.old.view_is ∙ whole) in
    record {
      within =
          subst (All (λ p. p < process_count g)) (sym same)
          (subst (λ h. All (λ p. p < process_count h) list) (sym shown) c.requires);
      text =
          names_renewed g old.items list kept.result c.names_room-cut.result text.items c.deref-3.result.now _
          (subst (λ (xs : List ℕ). drop (length xs - kept.result) xs ≡ drop (length list - kept.result) list)
          c.deref.ensures.value kept.ensures.same)
          c.old.invariant.text
          (c.deref-3.ensures ∙ rw (c.prepare_text.ensures ∙ c.new-front.ensures.bytes) at c.in_ok-push_names.ensures)
          before.0 c.in_ok-replace_range.ensures.bytes
          ∙ ap (λ ps. spaced_words (names_of g ps)) (sym same);
    }
