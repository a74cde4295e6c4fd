use Rattle.std.proofs.Common.{◌≡◌, ◌++◌, take}
use Rattle.std.specs.Prelude.{string_bytes}
use Rattle.cmh_text.specs.Report.{names_of, spaced_words}
use Rattle.cmh_text.proofs.names.push_names.Given as goal

abbrev pub invariant-loop-p : goal.invariant-loop-p
invariant-loop-p l =
    string_bytes l.text ≡ string_bytes l.fn.text ++ spaced_words (names_of l.graph (take l.p-index l.list))
