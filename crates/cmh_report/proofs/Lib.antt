pub mod RecordsLemmas
pub mod TraceExamples
pub mod Traces
