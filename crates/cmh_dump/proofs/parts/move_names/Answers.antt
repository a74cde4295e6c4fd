use Rattle.std.proofs.Common.{ℕ, ◌<◌, ap, arith, length, map, sym, ◌∙◌}
use Rattle.std.proofs.lemmas.Iterator.Adapters.{YieldsList-from_vec}
use Rattle.std.proofs.lemmas.Iterator.Consumers.{YieldsList-from_enumerate, YieldsList-end}
use Rattle.std.proofs.lemmas.List.{length-map}
use Rattle.serde_json.specs.View.{view}
use Rattle.serde_json.specs.declared.value.Value.{Value}
use Rattle.cmh_graph.specs.Build.{process_of}
use Rattle.cmh_dump.specs.Entry.{entry_of}
use Rattle.cmh_dump.specs.Read.{with_name, with_names}
use Rattle.cmh_dump.specs.Tree.{text_of}
use Rattle.cmh_dump.proofs.MovedNames.{all_yielded, named_at, place_yielded}
use Rattle.cmh_dump.proofs.Taken.{map-last}
use Rattle.cmh_dump.proofs.parts.move_names.Goals as goal

pub index_mut-requires : goal.index_mut-requires
index_mut-requires c =
    let trees = c.args.processes.items in
    let at =
    place_yielded trees (YieldsList-from_enumerate (YieldsList-from_vec trees (cc) (cc)) (cc)) c.loop-i.yielded
    _ c.next.new.self (c.in-Some.i, c.in-Some.process) c.loop-i.yielded_by c.in-Some.ensures.steps in
    omega (arith, at.0, c.args.processes.ok.0, c.requires, c.loop-i.invariant.as_many)

pub loop-i-preserved : goal.loop-i-preserved
loop-i-preserved c =
    let trees = c.args.processes.items in
    let at =
    place_yielded trees (YieldsList-from_enumerate (YieldsList-from_vec trees (cc) (cc)) (cc)) c.loop-i.yielded
    _ c.next.new.self (c.in-Some.i, c.in-Some.process) c.loop-i.yielded_by c.in-Some.ensures.steps in
    let within : c.in-Some.i < length c.loop-i.parts.items =
    omega (arith, at.0, c.args.processes.ok.0, c.requires, c.loop-i.invariant.as_many, c.loop-i.parts.ok.0) in
    let name_of = λ (x : ℕ × Value). (entry_of (view x.1)).name in
    let part = c.index_mut.result.now in
    let same = c.take_text.ensures ∙ ap text_of c.take_member.ensures in
    record {
      as_many = c.loop-i.invariant.as_many;
      moved =
          named_at (map name_of c.loop-i.yielded) (entry_of (view c.in-Some.process)).name
          (map process_of c.args.parts.items) c.loop-i.parts.items part _ c.in-Some.i c.loop-i.invariant.moved within
          (at.1 ∙ sym (length-map c.loop-i.yielded name_of))
          (ap (λ text. with_name text (process_of part)) same
          ∙ ap (λ p. with_name (entry_of (view c.in-Some.process)).name (process_of p)) c.index_mut.ensures.value)
          ∙ ap (λ given. with_names given (map process_of c.args.parts.items))
          (sym (map-last name_of c.loop-i.yielded (c.in-Some.i, c.in-Some.process)));
    }

pub returns : goal.returns
returns c =
    let trees = c.args.processes.items in
    let end =
    YieldsList-end (YieldsList-from_enumerate (YieldsList-from_vec trees (cc) (cc)) (cc)) c.loop-i.yielded _
    c.loop-i.yielded_by _ c.next.new.self c.in-None.is c.next.ensures.steps in
    c.loop-i.invariant.moved
    ∙ ap (λ given. with_names given (map process_of c.args.parts.items))
    (all_yielded (λ v. (entry_of (view v)).name) c.loop-i.yielded trees end.0)
