use Rattle.std.proofs.Common.{◌≡◌, map, take}
use Rattle.cmh_graph.specs.Build.{process_of}
use Rattle.cmh_dump.specs.Places.{first_unknown}
use Rattle.cmh_dump.specs.Dump.{process_by}
use Rattle.cmh_dump.specs.Read.{entry_view, without_name}
use Rattle.cmh_dump.specs.Texts.{texts}
use Rattle.cmh_dump.proofs.Pairs.{LeftDecides}
use Rattle.cmh_dump.proofs.parts.parts_of.Given as goal

abbrev pub invariant-loop-i : goal.invariant-loop-i
invariant-loop-i l = record {
  known : LeftDecides (λ e. first_unknown (texts l.names.keys) e.dependents.now) l.entries l.i;
  made : map process_of l.parts.items
      ≡ map (λ e. without_name (process_by (texts l.sites.keys) (texts l.names.keys) (entry_view e)))
      (take l.i l.entries);
}
