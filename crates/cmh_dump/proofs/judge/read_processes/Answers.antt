use Rattle.std.proofs.Common.{◌≤◌, [], ◌∷◌, ◌&&◌, true, Some, length, map, not, sym, ap, ◌∙◌, arith, take_all}
use Rattle.std.specs.Prelude.{unwrap_or}
use Rattle.std.specs.List.{list_all}
use Rattle.std.proofs.lemmas.List.Folds.{list_all-append}
use Rattle.std.proofs.lemmas.List.{length-map}
use Rattle.serde_json.specs.View.{view}
use Rattle.cmh_graph.specs.declared.TheConstants.{MAX_PROCESSES}
use Rattle.cmh_dump.specs.declared.fault.DumpFault.TheVariants.{BadProcess}
use Rattle.cmh_dump.specs.Entry.{entry_of, is_process}
use Rattle.cmh_dump.specs.Name.{is_name}
use Rattle.cmh_dump.specs.Read.{entry_view, waits_for_names, first_ill_named}
use Rattle.cmh_dump.specs.Tree.{text_of}
use Rattle.cmh_dump.proofs.EntryLemmas.{none_read, some_read}
use Rattle.cmh_dump.proofs.FirstFault.Processes.{processes_judged}
use Rattle.cmh_dump.proofs.Pairs.{none_made, made_found, made_passed, all_made}
use Rattle.cmh_dump.proofs.Taken.{seen-next}
use Rattle.cmh_dump.proofs.Trees.{all-map, map-map}
use Rattle.cmh_dump.proofs.judge.read_processes.Goals as goal

pub loop-i-init : goal.loop-i-init
loop-i-init c =
    let none = c.in_ok-entries.ensures.items in
    record {
      left =
          rw none
          (none_made (λ p. not (is_process (view p))) (λ e. not (waits_for_names e))
          c.elements_at-processes.result.now);
      named = ap (list_all (λ e. is_name (entry_view e).name)) none;
      made = ap (map entry_view) none;
    }

pub returns-in_default-clause-refused : goal.returns-in_default-clause-refused
returns-in_default-clause-refused c =
    let found = c.elements_at-processes.result.now in
    let few : length found ≤ MAX_PROCESSES = omega arith in
    let bad = ap not (none_read (view c.index-processes-i.result) c.in_default.ensures) in
    let first = made_found (λ p. not (is_process (view p))) (λ e. not (waits_for_names e)) found c.loop-i.entries.items
    c.loop-i.i c.index-processes-i.result c.loop-i-test.true c.index-processes-i.is bad c.loop-i.invariant.left in
    let answered = c.unwrap_or.ensures
    ∙ ap (λ o. unwrap_or o c.loop-i.i) (c.first_ill_named.ensures ∙ ap first_ill_named c.deref.ensures.value) in
    λ _. processes_judged view (view c.args.tree.now) found c.elements_at-processes.ensures _ few first
    ∙ ap (λ i. Some (BadProcess i)) (sym answered)

pub loop-i-preserved : goal.loop-i-preserved
loop-i-preserved c =
    let found = c.elements_at-processes.result.now in
    let read = some_read (view c.index-processes-i.result) (entry_view c.in-Some.entry) c.in-Some.ensures in
    let pushed = c.in_ok-push.ensures.items in
    record {
      left =
          made_passed (λ p. not (is_process (view p))) (λ e. not (waits_for_names e)) found c.loop-i.entries.items
          c.push.new.self.items c.in-Some.entry c.loop-i.i c.index-processes-i.result pushed c.loop-i-test.true
          c.index-processes-i.is
          (ap not (read.0
          ∙ sym (all-map is_name (λ v. text_of (view v)) c.in-Some.entry.dependents.now))) c.loop-i.invariant.left;
      named =
          ap (list_all (λ e. is_name (entry_view e).name)) pushed
          ∙ list_all-append (λ e. is_name (entry_view e).name) c.loop-i.entries.items (c.in-Some.entry ∷ [])
          ∙ (λ i. c.loop-i.invariant.named i && (read.2 i && true));
      made =
          seen-next entry_view (λ p. entry_of (view p)) c.loop-i.entries.items c.push.new.self.items c.in-Some.entry
          found c.loop-i.i c.index-processes-i.result pushed c.loop-i.invariant.made read.1 c.loop-i-test.true
          c.index-processes-i.is;
    }

pub returns-clause-left : goal.returns-clause-left
returns-clause-left c =
    let found = c.elements_at-processes.result.now in
    let few : length found ≤ MAX_PROCESSES = omega arith in
    processes_judged view (view c.args.tree.now) found c.elements_at-processes.ensures
    (first_ill_named c.loop-i.entries.items) few
    (all_made (λ p. not (is_process (view p))) (λ e. not (waits_for_names e)) found c.loop-i.entries.items c.loop-i.i
    c.loop-i-test.false c.loop-i.invariant.left)

pub returns-clause-read : goal.returns-clause-read
returns-clause-read c =
    let found = c.elements_at-processes.result.now in
    c.loop-i.invariant.made ∙ ap (map (λ p. entry_of (view p))) (take_all c.loop-i.i found c.loop-i-test.false)
    ∙ map-map entry_of view found ∙ ap (map entry_of) c.elements_at-processes.ensures

pub returns-clause-few : goal.returns-clause-few
returns-clause-few c =
    let found = c.elements_at-processes.result.now in
    let made = ap length (c.loop-i.invariant.made
    ∙ ap (map (λ p. entry_of (view p))) (take_all c.loop-i.i found c.loop-i-test.false)) in
    let size = length-map c.loop-i.entries.items entry_view in
    let all = length-map found (λ p. entry_of (view p)) in
    omega (arith, made, size, all, c.loop-i.entries.ok.0)
