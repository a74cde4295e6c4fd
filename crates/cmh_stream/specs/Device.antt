-- What is known of a device from its answers.
use Rattle.std.specs.Prelude.{ℕ, List, Bool}

-- The state of a source: the bytes that it gave so far, whether it has ended, and whether its device had an error. It
-- has ended once it gave nothing where there was room, and then it gives nothing more.
pub record SourceState : Type 0 where
  pub given : List ℕ
  pub has_ended : Bool
  pub has_failed : Bool

-- The state of a sink: the bytes that it took so far, whether it has handed on all of them, and whether its device had
-- an error.
pub record SinkState : Type 0 where
  pub taken : List ℕ
  pub is_finished : Bool
  pub has_failed : Bool
