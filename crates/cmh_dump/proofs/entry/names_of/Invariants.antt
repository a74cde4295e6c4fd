use Rattle.std.proofs.Common.{◌≡◌, map, take}
use Rattle.cmh_dump.specs.Read.{entry_view}
use Rattle.cmh_dump.specs.Texts.{texts}
use Rattle.cmh_dump.proofs.entry.names_of.Given as goal

abbrev pub invariant-loop-entry : goal.invariant-loop-entry
invariant-loop-entry l = texts l.names.items ≡ map (λ e. (entry_view e).name) (take l.entry-index l.entries)
