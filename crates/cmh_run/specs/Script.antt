-- Scripted hints: what they answer at which ask, and which lines are refused.
use Rattle.std.specs.Prelude.{◌≡◌, ℕ, ◌+◌, ◌-◌, ◌^◌, ◌≤◌, nat_lt, Bool, false, ◌&&◌, ◌==◌, if◌then◌else◌, List, [], ◌∷◌, find, slice_get, Option, Some, None, option_map, unwrap_or}
use denote.Enum.Bare.{sameb}
use Rattle.cmh_graph.specs.declared.verdict.Verdict.{Verdict}
use Rattle.cmh_graph.specs.contracts.verdict.Verdict.{the_type}
use Rattle.cmh_graph.specs.Graph.{Graph, process_count}
use Rattle.cmh_run.specs.declared.fault.ScriptFault.{ScriptFault}
use Rattle.cmh_run.specs.declared.fault.ScriptFault.TheVariants.{ProcessOutOfRange, FalseVerdict, Memory}
use Rattle.cmh_run.specs.Asks.{Ask}
use Rattle.cmh_graph.specs.Judge.{IsFirst}
use Rattle.cmh_graph.specs.Verdict.{IsVerdict}

-- the number of an ask, a process, and the answer about it at that ask
abbrev pub ScriptLine : Type 0
ScriptLine = ℕ × ℕ × Verdict

-- the lines, and the number of asks so far
pub record Script : Type 0 where
  pub lines : List ScriptLine
  pub asked : ℕ

-- what the lines answer at this ask about p
abbrev pub answer_at : List ScriptLine → ℕ → ℕ → Option Verdict
answer_at lines ask p = option_map (λ line. line.2) (find (λ line. line.0 == ask && line.1 == p) lines)

-- what a script answers at its next ask, if that is about p
abbrev pub next_answer : Script → ℕ → Option Verdict
next_answer s p = if nat_lt s.asked (2 ^ 32 - 1) then answer_at s.lines s.asked p else None

-- the script once it was asked
abbrev pub once_asked : Script → Script
once_asked s = record s { asked = if nat_lt s.asked (2 ^ 32 - 1) then s.asked + 1 else s.asked }

-- these asks, one after another, lead from one script to another, and each was answered by its line
abbrev pub Answers : Script → Script → List Ask → Type 0
Answers a b [] = a ≡ b
Answers a b (ask ∷ asks) = (ask.1 ≡ next_answer a ask.0) × Answers (once_asked a) b asks

-- each line has the true verdict of its process
abbrev pub AreTrueOf : Graph → List ScriptLine → Type 0
AreTrueOf g lines = (k : ℕ) (line : ScriptLine) → slice_get lines k ≡ Some line → IsVerdict g line.1 line.2

-- line k is about none of this number of processes
abbrev pub IsLineOutOfRange : ℕ → List ScriptLine → ℕ → Type 0
IsLineOutOfRange count lines k = (line : ScriptLine) × (slice_get lines k ≡ Some line) × (count ≤ line.1)

-- the list has the line's verdict at the line's process
abbrev pub is_listed : List Verdict → ScriptLine → Bool
is_listed truth line = unwrap_or (option_map (λ v. sameb the_type v line.2) (slice_get truth line.1)) false

-- this is the first fault of the lines: all processes are judged before any verdict
abbrev pub IsFirstScriptFault : Graph → List ScriptLine → ScriptFault → Type 0
IsFirstScriptFault g lines (ProcessOutOfRange i) =
    IsFirst (IsLineOutOfRange (process_count g) lines) i
IsFirstScriptFault g lines (FalseVerdict i) =
    ((k : ℕ) → IsLineOutOfRange (process_count g) lines k → ⊥)
    × IsFirst (λ k. (line : ScriptLine) × (slice_get lines k ≡ Some line) × ¬ (IsVerdict g line.1 line.2)) i
IsFirstScriptFault g lines Memory = ⊥
