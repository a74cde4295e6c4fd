use Rattle.std.proofs.Common.{◌&&◌, map, Some, ap, sym, ◌∙◌}
use Rattle.std.specs.Prelude.{is_some, option_map}
use Rattle.serde_json.specs.View.{view}
use Rattle.cmh_dump.specs.Name.{is_name}
use Rattle.cmh_dump.specs.Read.{entry_view}
use Rattle.cmh_dump.specs.Tree.{text_of}
use Rattle.cmh_dump.proofs.Trees.{map-map}
use Rattle.cmh_dump.proofs.EntryLemmas.{no_dependents, no_name, other_found, none_found, another_key, accepted}
use Rattle.cmh_dump.proofs.entry.entry_of.Goals.{else-has_names-via-then-has_names+else-has_no_other, else-has_names-via-else-has_names}
use Rattle.cmh_dump.proofs.entry.entry_of.Goals as goal

pub returns-in_err-dependents : goal.returns-in_err-dependents
returns-in_err-dependents c =
    ap (option_map entry_view) c.from_residual-in_err-dependents.ensures
    ∙ no_dependents (view c.args.process.now) c.in_err-dependents.ensures

pub returns-then-has_no_other : goal.returns-then-has_no_other
returns-then-has_no_other c =
    let d = view c.args.process.now in
    (λ i. Some (record {
      name = c.text_at.result.now;
      site = c.text_at-2.result.now;
      state = c.in_ok-state.state;
      dependents = map-map text_of view c.in_ok-dependents.dependents.now i;
    }))
    ∙ accepted d c.text_at.result.now c.text_at-2.result.now c.in_ok-state.state
    (map view c.in_ok-dependents.dependents.now) c.has_names.result (sym (ap is_some c.in_ok-members.ensures))
    c.text_at.ensures c.text_at-2.ensures c.in_ok-state.ensures c.in_ok-dependents.ensures
    (c.has_names.ensures ∙ (λ i. is_name (c.text_at.ensures i) && is_name (c.text_at-2.ensures i)))
    c.if-has_names.true
    (λ own. none_found d c.in_ok-members.members.now.entries view c.in_ok-members.ensures c.in_ok-state.state
    c.has_no_other.result c.has_no_other.ensures own c.if-has_no_other.true)

pub returns-else-has_names : goal.returns-else-has_names
returns-else-has_names c =
    let d = view c.args.process.now in
    elim c.else-has_names.branch [
      | else-has_names-via-then-has_names+else-has_no_other w ↦
          another_key d
          (other_found d c.in_ok-members.members.now.entries view c.in_ok-members.ensures c.in_ok-state.state
          w.has_no_other.result w.has_no_other.ensures w.if-has_no_other.false)
      | else-has_names-via-else-has_names w ↦
          no_name d c.has_names.result
          (c.has_names.ensures ∙ (λ i. is_name (c.text_at.ensures i) && is_name (c.text_at-2.ensures i)))
          w.if-has_names.false
    ]
