-- The text of a trace: each delivery of a run, and how the run ended.
use Rattle.std.specs.Prelude.{◌≡◌, ◌≢◌, ◌⊎◌, ℕ, ◌<◌, List, [], ◌∷◌, ◌++◌, map, flat_map, codes, All, IsTrue, ⊤}
use Rattle.cmh_graph.specs.Graph.{Graph, process_count, name_of, is_idle}
use Rattle.cmh_process.specs.declared.message.Kind.{Kind}
use Rattle.cmh_process.specs.declared.message.Kind.TheVariants.{Query, Reply}
use Rattle.cmh_process.specs.declared.message.Message.{Message}
use Rattle.cmh_run.specs.declared.delivery.Ending.{Ending}
use Rattle.cmh_run.specs.declared.delivery.Ending.TheVariants.{Declared, AtRest, CutFree}
use Rattle.cmh_run.specs.Choices.{HasNoHints, chosen_place}
use Rattle.cmh_run.specs.Legal.{Going, IsBetween}
use Rattle.cmh_run.specs.declared.fault.RunFault.{RunFault}
use Rattle.cmh_run.specs.declared.fault.RunFault.TheVariants.{Memory}
use Rattle.cmh_run.specs.Run.{Run, IsRunOf, IsFirstRunFault}
use Rattle.cmh_run.specs.Step.{IsRunOfSteps}
use Rattle.cmh_text.specs.Report.{line}

-- the word for the kind of a message
abbrev pub kind_word : Kind → List ℕ
kind_word Query = codes "query"
kind_word Reply = codes "reply"

-- the words of the line of a message that is delivered
unfoldable pub message_line : Graph → Message → List (List ℕ)
message_line g m = kind_word m.kind ∷ name_of g m.from ∷ name_of g m.to ∷ []

-- The words of the last line, if there is one, by the initiator's name. A run without hints is never cut free.
abbrev pub ending_lines : List ℕ → Ending → List (List (List ℕ))
ending_lines name Declared = (codes "declared" ∷ name ∷ []) ∷ []
ending_lines name AtRest = (codes "at" ∷ codes "rest" ∷ name ∷ []) ∷ []
ending_lines name (CutFree k) = []

-- the lines of the trace, one after the other: one for each delivery, and the last line
unfoldable pub trace_text : Graph → Run → List ℕ
trace_text g r = flat_map line
    (map (λ d. message_line g d.message) r.log ++ ending_lines (name_of g r.initiator) r.ending)

-- p is the first process of that name
pub record IsFirstNamed (g : Graph) (name : List ℕ) (p : ℕ) : Type 0 where
  pub within : p < process_count g
  pub named : name_of g p ≡ name
  pub first : (q : ℕ) → q < p → name_of g q ≢ name

-- no process has that name
abbrev pub NobodyIsNamed : Graph → List ℕ → Type 0
NobodyIsNamed g name = (p : ℕ) → p < process_count g → name_of g p ≢ name

-- The text is the trace of the idle process of that name: of its run that follows these choices without hints, and has
-- ended so.
pub record IsTrace (name choices : List ℕ) (EndsSo : Ending → Type 0) (g : Graph)
    (text : List ℕ) : Type 0 where
  pub run : Run
  pub named : IsFirstNamed g name run.initiator
  pub idle : IsTrue (is_idle g run.initiator)
  pub legal : IsRunOf g choices [] run
  pub unhinted : HasNoHints run.log
  pub ends : EndsSo run.ending
  pub lines : text ≡ trace_text g run

-- The same by the rules of the computation. The text is the trace of a run by these rules, in which each delivery is
-- the one that the choices name. The ending and the engaged processes that are kept are those of this run.
pub record IsTraceOfSteps (name choices : List ℕ) (ending : Ending) (g : Graph) (text : List ℕ) : Type 0 where
  pub run : Run
  pub end : Going
  pub named : IsFirstNamed g name run.initiator
  pub idle : IsTrue (is_idle g run.initiator)
  pub steps : IsRunOfSteps (chosen_place choices) g run.initiator [] run.log run.ending end
  pub engaged : run.engaged ≡ end.config.engaged
  pub restarted : run.restarted ≡ end.restarted
  pub unhinted : HasNoHints run.log
  pub ends : ending ≡ run.ending
  pub lines : text ≡ trace_text g run

-- the text is the trace, and its run has ended so
abbrev pub IsEndedTrace : List ℕ → List ℕ → Ending → Graph → List ℕ → Type 0
IsEndedTrace name choices ending = IsTrace name choices (λ last. ending ≡ last)

-- the text is the trace, however its run has ended
abbrev pub IsSomeTrace : List ℕ → List ℕ → Graph → List ℕ → Type 0
IsSomeTrace name choices = IsTrace name choices (λ last. ⊤)

-- The process of that name has no run by these choices: memory was refused, or this is the first fault of what was
-- asked.
pub record HasNoRun (name choices : List ℕ) (fault : RunFault) (g : Graph) : Type 0 where
  pub initiator : ℕ
  pub named : IsFirstNamed g name initiator
  pub cause : (fault ≡ Memory) ⊎ IsFirstRunFault g initiator choices [] fault

-- the run can be written: its messages go between processes of the graph, and its ending has a line
pub record HasLines (g : Graph) (r : Run) : Type 0 where
  pub initiator : r.initiator < process_count g
  pub messages : All (λ d. IsBetween g d.message) r.log
  pub ended : (k : ℕ) → r.ending ≢ CutFree k
