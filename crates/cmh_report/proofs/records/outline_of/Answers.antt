use Rattle.std.proofs.Common.{◌∙◌, arith}
use Rattle.cmh_report.proofs.RecordsLemmas.{deadlocked_told, records_few}
use Rattle.cmh_report.proofs.records.outline_of.Goals as goal

pub count_deadlocked-deadlocked-requires : goal.count_deadlocked-deadlocked-requires
count_deadlocked-deadlocked-requires g c =
    let few = records_few g.P.ProcessList.processes c.args.graph.now c.args.records.now c.requires in
    omega (arith, few, c.law_built_graph.ensures.processes)

pub overflow_cast-records : goal.overflow_cast-records
overflow_cast-records g c =
    let few = records_few g.P.ProcessList.processes c.args.graph.now c.args.records.now c.requires in
    omega (arith, few, c.law_built_graph.ensures.processes)

pub new-requires-clause-deadlocked : goal.new-requires-clause-deadlocked
new-requires-clause-deadlocked g c =
    c.count_deadlocked-deadlocked.ensures
    ∙ deadlocked_told g.P.ProcessList.processes c.args.graph.now c.args.records.now c.law_built_graph.ensures.within
    c.requires
