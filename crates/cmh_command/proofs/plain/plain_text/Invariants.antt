use Rattle.std.specs.Prelude.{string_bytes}
use Rattle.cmh_command.specs.Plain.{IsPlain}
use Rattle.cmh_command.proofs.plain.plain_text.Given as goal

abbrev pub invariant-loop-c : goal.invariant-loop-c
invariant-loop-c l = IsPlain l.has_lines (string_bytes l.plain)
