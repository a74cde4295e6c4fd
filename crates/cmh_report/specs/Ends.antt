-- What is said of the devices at the two ends: a dump comes in, and a text goes out.
use Rattle.std.specs.Prelude.{◌≡◌, ◌⊎◌, ℕ, ◌+◌, ◌≤◌, List, ◌++◌, length, take, true, Result, Ok, Err, IfErr}
use Rattle.cmh_graph.specs.Graph.{Graph}
use Rattle.cmh_stream.specs.Device.{SinkState, SourceState}
use Rattle.cmh_dump.specs.Dump.{dump}
use Rattle.cmh_dump.specs.Source.{GaveAtMost}
use Rattle.cmh_dump.specs.declared.TheConstants.{MAX_BYTES}
use Rattle.cmh_dump.specs.declared.fault.DumpFault.{DumpFault}
use Rattle.cmh_dump.specs.declared.fault.DumpFault.TheVariants.{Memory, ReadFault, TooLong}
use Rattle.cmh_report.specs.declared.fault.AppFault.{AppFault}
use Rattle.cmh_report.specs.Fault.{IfDump, IfUnwritten, IfWriteFault}

-- The source gave just some more bytes and then ended. They mean this graph, or have this fault.
pub record GaveDump (old new : SourceState) (meaning : Result Graph DumpFault) : Type 0 where
  pub bytes : List ℕ
  pub given : new.given ≡ old.given ++ bytes
  pub whole : new.has_ended ≡ true
  pub means : dump bytes ≡ meaning

-- the source gave just the dump of a graph for which the fact holds
pub record GaveGraph (old new : SourceState) (Holds : Graph → Type 0) : Type 0 where
  pub graph : Graph
  pub dump : GaveDump old new (Ok graph)
  pub holds : Holds graph

-- The answer to a dump. The source gave just the dump of a graph, the sink took just a text that fits this graph, and
-- finished.
pub record IsAnswer (Fits : Graph → List ℕ → Type 0) (source_old source_new : SourceState)
    (sink_old sink_new : SinkState) : Type 0 where
  pub graph : Graph
  pub dump : GaveDump source_old source_new (Ok graph)
  pub text : List ℕ
  pub fits : Fits graph text
  pub taken : sink_new.taken ≡ sink_old.taken ++ text
  pub finished : sink_new.is_finished ≡ true

-- The source gave just the dump of a graph, and the sink took the first bytes of a text that fits this graph, as many
-- as were written.
pub record IsCutShort (Fits : Graph → List ℕ → Type 0) (source_old source_new : SourceState)
    (sink_old sink_new : SinkState) (written : ℕ) : Type 0 where
  pub graph : Graph
  pub dump : GaveDump source_old source_new (Ok graph)
  pub text : List ℕ
  pub fits : Fits graph text
  pub within : written ≤ length text
  pub taken : sink_new.taken ≡ sink_old.taken ++ take written text

-- why a dump is refused: memory was refused, the source failed, it gave too many bytes, or its bytes have the fault
abbrev pub IsRefused : SourceState → SourceState → DumpFault → Type 0
IsRefused old new fault =
    (fault ≡ Memory)
    ⊎ ((fault ≡ ReadFault) × (new.has_failed ≡ true))
    ⊎ ((fault ≡ TooLong) × (length new.given ≡ length old.given + (MAX_BYTES + 1)))
    ⊎ GaveDump old new (Err fault)

-- How a call leaves the two ends. A dump is refused for a reason. Any fault but a write fault leaves the sink as it
-- was. A write fault comes only where the sink has failed, and leaves a sink that took a byte unfinished. The source
-- gave at most one byte more than a dump may have.
pub record LeavesEnds {A K : Type 0} (result : Result A AppFault) (source_old source_new : SourceState)
    (state : K → SinkState) (sink_old sink_new : K) : Type 0 where
  pub refused : IfErr result (λ e. IfDump e (IsRefused source_old source_new))
  pub unwritten : IfErr result (λ e. IfUnwritten e ((state sink_new).taken ≡ (state sink_old).taken))
  pub untouched : IfErr result (λ e. IfUnwritten e (sink_new ≡ sink_old))
  pub stopped : IfErr result (λ e. IfWriteFault e (λ written. (state sink_new).has_failed ≡ true))
  pub unfinished : IfErr result (λ e. IfWriteFault e (λ written. (state sink_new).is_finished ≡ true
      → ((state sink_old).is_finished ≡ true) × (written ≡ 0)))
  pub at_most : GaveAtMost (MAX_BYTES + 1) source_old source_new
