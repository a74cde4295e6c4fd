-- Texts without characters that a terminal obeys.
use Rattle.std.proofs.Common.{◌≡◌, ℕ, Bool, false, List, [], ◌∷◌, ◌++◌, Result, Ok, Err, if◌then◌else◌, sym, subst, append-nil}
use Rattle.std.proofs.lemmas.List.Elements.{All-push}
use Rattle.std.proofs.lemmas.Str.{NoCharPasses-append, NoCharPasses-nil}
use Rattle.std.specs.Char.{encode_utf8}
use Rattle.std.specs.Global.{Global}
use Rattle.std.specs.Prelude.{All, OnOk, String, is_ok, string_bytes}
use Rattle.cmh_command.specs.Plain.{IsPlain, is_obeyed}

-- the empty text is plain
pub plain_none : (has_lines : Bool) → IsPlain has_lines []
plain_none has_lines = record { chars = NoCharPasses-nil (is_obeyed has_lines) }

-- a character that isn't obeyed may stand behind a plain text
plain_more : (has_lines : Bool) (text : List ℕ) (c : ℕ) → is_obeyed has_lines c ≡ false → IsPlain has_lines text
    → IsPlain has_lines (text ++ encode_utf8 c)
plain_more has_lines text c shown plain = record {
  chars = NoCharPasses-append (is_obeyed has_lines) text (encode_utf8 c) plain.chars
      (c ∷ [], append-nil (encode_utf8 c), (shown, tt));
}

-- a text stays plain where a character that isn't obeyed is pushed
pub plain_push : {E : Type 0} (has_lines : Bool) (old new : List ℕ) (c : ℕ) (r : Result (Unit {0}) E)
    → is_obeyed has_lines c ≡ false → new ≡ (if is_ok r then old ++ encode_utf8 c else old)
    → OnOk r (IsPlain has_lines old → IsPlain has_lines new)
plain_push has_lines old new c (Ok done) shown is =
    λ plain. subst (IsPlain has_lines) (sym is) (plain_more has_lines old c shown plain)
plain_push has_lines old new c (Err e) shown is = tt

-- what stays plain up to a text stays so up to the next
pub plain_then : {E : Type 0} (has_lines : Bool) (old between new : List ℕ) (r : Result (Unit {0}) E)
    → (IsPlain has_lines old → IsPlain has_lines between)
    → OnOk r (IsPlain has_lines between → IsPlain has_lines new)
    → OnOk r (IsPlain has_lines old → IsPlain has_lines new)
plain_then has_lines old between new (Ok done) first next = λ plain. next (first plain)
plain_then has_lines old between new (Err e) first next = tt

-- a plain word may stand behind plain words
pub words_more : (words : List (String Global)) (word : String Global)
    → All (λ w. IsPlain false (string_bytes w)) words → IsPlain false (string_bytes word)
    → All (λ w. IsPlain false (string_bytes w)) (words ++ word ∷ [])
words_more words word plain more =
    All-push (λ (w : String Global). IsPlain false (string_bytes w)) words word plain more
