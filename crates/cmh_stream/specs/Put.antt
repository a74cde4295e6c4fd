-- What is said of a text that is put into a sink.
use Rattle.std.specs.Prelude.{◌≡◌, ℕ, ◌≤◌, List, ◌++◌, length, take, true, false, Option, Result, IfErr, IsErrAnd, MatchResult, OnOk, OnErr}
use Rattle.std.specs.Io.KnownBytes.{Appends}
use Rattle.cmh_stream.specs.Device.{SinkState}
use Rattle.cmh_stream.specs.declared.put.WriteFault.{WriteFault}

-- The sink took the whole text; or it failed, and took a prefix of the text, so many bytes of it.
pub record Puts (text : List ℕ) (result : Result (Unit {0}) WriteFault) (old new : SinkState)
    (contents_old contents_new : Option (List ℕ)) : Type 0 where
  pub written : OnOk result (new.taken ≡ old.taken ++ text)
  pub within : IfErr result (λ e. e.written ≤ length text)
  pub prefix : IfErr result (λ e. new.taken ≡ old.taken ++ take e.written text)
  pub stops : OnErr result (new.has_failed ≡ true)
  pub unfinished : IfErr result (λ e. new.is_finished ≡ true → (old.is_finished ≡ true) × (e.written ≡ 0))
  -- What the device holds grew by the same bytes, where it is known.
  pub known : MatchResult result (λ _. Appends contents_old contents_new text)
      (λ e. Appends contents_old contents_new (take e.written text))

-- The sink took the whole text and finished; or it failed, as above, and took nothing if it had failed before.
pub record PutsAndFinishes (text : List ℕ) (result : Result (Unit {0}) WriteFault) (old new : SinkState)
    (contents_old contents_new : Option (List ℕ)) : Type 0 where
  pub puts : Puts text result old new contents_old contents_new
  pub finished : OnOk result (new.is_finished ≡ true)
  pub works : OnOk result (new.has_failed ≡ false)
  pub stays : old.has_failed ≡ true → IsErrAnd result (λ e. e.written ≡ 0)
