use Rattle.std.proofs.Common.{◌≡◌, not, true, map, take}
use Rattle.std.specs.List.{list_all}
use Rattle.serde_json.specs.View.{view}
use Rattle.cmh_dump.specs.Entry.{entry_of, is_process}
use Rattle.cmh_dump.specs.Name.{is_name}
use Rattle.cmh_dump.specs.Read.{entry_view, waits_for_names}
use Rattle.cmh_dump.proofs.Pairs.{MadeDecides}
use Rattle.cmh_dump.proofs.judge.read_processes.Given as goal

abbrev pub invariant-loop-i : goal.invariant-loop-i
invariant-loop-i l = record {
  left : MadeDecides (λ p. not (is_process (view p))) (λ e. not (waits_for_names e)) l.processes l.entries.items l.i;
  named : list_all (λ e. is_name (entry_view e).name) l.entries.items ≡ true;
  made : map entry_view l.entries.items ≡ map (λ p. entry_of (view p)) (take l.i l.processes);
}
