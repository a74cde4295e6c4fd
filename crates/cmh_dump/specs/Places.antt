-- The first value that is none of the names.
use Rattle.std.specs.Prelude.{ℕ, List, not, position, Option}
use Rattle.serde_json.specs.declared.value.Value.{Value}
use Rattle.cmh_dump.specs.declared.entry.Entry as declared
use Rattle.cmh_dump.specs.Name.{is_among}
use Rattle.cmh_dump.specs.Read.{first_pair}
use Rattle.cmh_dump.specs.Tree.{text_of}
use Rattle.serde_json.specs.View.{view}

-- the place of the first value that is none of the names
abbrev pub first_unknown : List (List ℕ) → List Value → Option ℕ
first_unknown names values = position (λ v. not (is_among names (text_of (view v)))) values

-- the first process with a dependent that is none of the names, and the place of that dependent
abbrev pub unknown_dependent : List (List ℕ) → List declared.Entry → Option (ℕ × ℕ)
unknown_dependent names es = first_pair (λ e. first_unknown names e.dependents.now) 0 es
