use Rattle.cmh_run.proofs.Common.{[], going_at_start}
use Rattle.cmh_run.proofs.CheckStateLemmas.{agrees_first}
use Rattle.cmh_run.proofs.checker.Checker.begin.Goals as goal

-- at first what is kept agrees with a run of which nothing was delivered
pub returns : goal.returns
returns c = record {
  ok = (
    going_at_start c.args.graph.now c.args.initiator [],
    c.in_ok-settle.ensures.ok c.args.graph.now c.args.initiator [] (going_at_start c.args.graph.now c.args.initiator [])
        (agrees_first c.args.graph.now c.args.initiator
        (record { network = c.begin.new.self; undelivered = c.new.result })
        c.law_built_graph.ensures c.requires.idle (c.in_ok-begin.ensures.ok []) c.new.ensures),
    c.in_ok-settle.ensures.settled,
  );
}
