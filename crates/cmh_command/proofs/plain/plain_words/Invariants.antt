use Rattle.std.specs.Prelude.{◌≡◌, All, false, length, string_bytes}
use Rattle.cmh_command.specs.Plain.{IsPlain}
use Rattle.cmh_command.proofs.plain.plain_words.Given as goal

abbrev pub invariant-loop-word : goal.invariant-loop-word
invariant-loop-word g l = record {
  plain : All (λ word. IsPlain false (string_bytes word)) l.list.items;
  each : length l.list.items ≡ l.word-index;
}
