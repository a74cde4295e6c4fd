use Rattle.std.proofs.Common.{subst, sym}
use Rattle.cmh_report.specs.Records.{AreRecordsOf}
use Rattle.cmh_report.proofs.RecordsLemmas.{analysed}
use Rattle.cmh_report.proofs.text.report.Goals as goal

-- the records of an analysis are those of the graph
pub text_of_records-requires-after_bounds : goal.text_of_records-requires-after_bounds
text_of_records-requires-after_bounds g c κs within =
    subst (AreRecordsOf g.P.ProcessList.processes c.args.graph.now) (sym c.records.ensures)
    (analysed g.P.ProcessList.processes c.args.graph.now c.args.analysis.now c.requires)
