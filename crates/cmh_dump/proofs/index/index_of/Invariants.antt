use Rattle.std.proofs.Common.{◌≡◌, ℕ, ◌<◌, false, take}
use Rattle.cmh_dump.specs.Name.{repeats}
use Rattle.cmh_dump.specs.Texts.{texts}
use Rattle.cmh_dump.proofs.index.index_of.Given as goal

abbrev pub invariant-loop-i : goal.invariant-loop-i
invariant-loop-i l =
    (texts l.index.keys ≡ take l.i (texts l.names)) × ((k : ℕ) → k < l.i → repeats (texts l.names) k ≡ false)
