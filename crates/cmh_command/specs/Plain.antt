-- Texts that a terminal prints as they are.
use Rattle.std.specs.Prelude.{ℕ, Bool, true, List, not, ◌&&◌, ◌==◌, ⊤, string_bytes}
use Rattle.std.specs.Char.{is_control}
use Rattle.std.specs.Str.{NoCharPasses}
use Rattle.cmh_command.specs.declared.request.Request.{Request}
use Rattle.cmh_command.specs.declared.request.Request.TheVariants.{Refused}

-- whether a terminal obeys the character in place of printing it, where the line feed may be asked for
abbrev pub is_obeyed : Bool → ℕ → Bool
is_obeyed has_lines c = is_control c && not (has_lines && (c == 10))

-- no character of the text is a control character, but for line feeds where it has lines
pub record IsPlain (has_lines : Bool) (text : List ℕ) : Type 0 where
  pub chars : NoCharPasses (is_obeyed has_lines) text

-- the text with which a command line is refused has no control character but line feeds
abbrev pub IsRefusedPlainly : Request → Type 0
IsRefusedPlainly (Refused text) = IsPlain true (string_bytes text)
IsRefusedPlainly request = ⊤

-- nothing is asked for
abbrev pub IsRefusal : Request → Type 0
IsRefusal (Refused text) = ⊤
IsRefusal request = ⊥
