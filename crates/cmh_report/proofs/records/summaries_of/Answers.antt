use Rattle.std.proofs.Common.{◌∙◌, arith, refl, sym}
use Rattle.cmh_graph.specs.Graph.{idle_list}
use Rattle.cmh_graph.proofs.Verdicts.{idle_within}
use Rattle.cmh_report.proofs.RecordsLemmas.{initiator_at, records_count, summaries_all, summaries_more, summaries_none, tells_at}
use Rattle.cmh_report.proofs.records.summaries_of.Goals as goal

pub loop-record-init : goal.loop-record-init
loop-record-init _ c =
    summaries_none c.args.graph.now _ c.in_ok-summaries.summaries.items refl c.in_ok-summaries.ensures

pub index_mut-requires : goal.index_mut-requires
index_mut-requires g c =
    let tells =
    tells_at g.P.ProcessList.processes c.args.graph.now c.args.records.now c.loop-record.record-index
    c.record-item.result c.requires c.loop-record-test.true (sym c.record-item.is) in
    omega (arith, c.loop-record.invariant.size, idle_within c.args.graph.now c.record-item.result.initiator tells.idle)

pub loop-record-preserved : goal.loop-record-preserved
loop-record-preserved g c =
    let graph = c.args.graph.now in
    let listed = g.P.ProcessList.processes in
    let i = c.loop-record.record-index in
    let r = c.record-item.result in
    let rs = c.args.records.now in
    let tells = tells_at listed graph rs i r c.requires c.loop-record-test.true (sym c.record-item.is) in
    summaries_more graph (idle_list graph) i r.initiator c.loop-record.summaries.items c.summary_in.result
    (omega (arith, c.loop-record-test.true, records_count listed graph rs c.requires))
    (initiator_at listed graph rs i r c.requires c.loop-record-test.true (sym c.record-item.is))
    (omega (arith, c.loop-record.invariant.size, idle_within graph r.initiator tells.idle))
    (c.summary_in.ensures ∙ tells.summary c.law_built_graph.ensures.within)
    c.loop-record.invariant

pub returns : goal.returns
returns g c =
    let count = records_count g.P.ProcessList.processes c.args.graph.now c.args.records.now c.requires in
    summaries_all c.args.graph.now c.loop-record.record-index _
    (omega (arith, c.loop-record-test.false, count))
    c.loop-record.invariant
