use Rattle.std.proofs.Common.{◌≡◌, ◌-◌, ◌^◌, length, min, take}
use Rattle.cmh_text.specs.Report.{names_of, spaced_words}
use Rattle.cmh_text.proofs.names.names_room.Given as goal

abbrev pub invariant-loop-p : goal.invariant-loop-p
invariant-loop-p l = l.room ≡ min (length (spaced_words (names_of l.graph (take l.p-index l.list)))) (2 ^ 64 - 1)
