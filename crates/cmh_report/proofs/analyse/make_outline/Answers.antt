use Rattle.std.proofs.Common.{subst, sym}
use Rattle.cmh_report.specs.Records.{AreRecordsOf}
use Rattle.cmh_report.proofs.RecordsLemmas.{analysed}
use Rattle.cmh_report.proofs.analyse.make_outline.Goals as goal

-- the records of an analysis are those of the graph
pub outline_of-requires : goal.outline_of-requires
outline_of-requires c =
    subst (AreRecordsOf _ c.args.graph.now) (sym c.records.ensures) (analysed _ c.args.graph.now _ c.requires)
