use Rattle.std.proofs.Common.{◌≡◌, map}
use Rattle.std.specs.Prelude.{vec_len}
use Rattle.serde_json.specs.View.{view}
use Rattle.cmh_graph.specs.Build.{process_of}
use Rattle.cmh_dump.specs.Entry.{entry_of}
use Rattle.cmh_dump.specs.Read.{with_names}
use Rattle.cmh_dump.proofs.parts.move_names.Given as goal

abbrev pub invariant-loop-i : goal.invariant-loop-i
invariant-loop-i l = record {
  as_many : vec_len l.parts ≡ vec_len l.fn.parts;
  moved : map process_of l.parts.items
      ≡ with_names (map (λ x. (entry_of (view x.1)).name) l.yielded) (map process_of l.fn.parts.items);
}
