use Rattle.cmh_report.proofs.Traces.{one_trace}
use Rattle.cmh_report.proofs.laws.law_one_trace.Goals as goal

pub returns : goal.returns
returns c = one_trace
