use Rattle.cmh_run.proofs.Common.{◌∙◌, ap, nothing_yet}
use Rattle.cmh_run.proofs.AskLemmas.{asked_until, at_refusal}
use Rattle.cmh_run.proofs.ProgressLemmas.{answer_of, cleared}
use Rattle.cmh_run.proofs.runner.follow.Goals as goal

-- what is kept at the end is the run that was asked for
pub returns-clause-run : goal.returns-clause-run
returns-clause-run g c =
    answer_of c.args.restarts.now c.deliver_all.new.progress
    (c.in_ok-deliver_all.ensures.at_end c.args.restarts.now c.in_ok-progress.ensures.under_way) c.args.graph.now
    c.args.initiator c.args.choices.now
    (record {
      graph = c.in_ok-deliver_all.ensures.same.graph ∙ c.in_ok-progress.ensures.same.graph;
      initiator = c.in_ok-deliver_all.ensures.same.initiator ∙ c.in_ok-progress.ensures.same.initiator;
      choices = c.in_ok-deliver_all.ensures.same.choices ∙ c.in_ok-progress.ensures.same.choices;
    }) c.finish.result.0 c.finish.ensures.log

-- at the end the network is as at first
pub returns-clause-blank : goal.returns-clause-blank
returns-clause-blank g c =
    cleared c.args.restarts.now c.deliver_all.new.progress c.finish.result.1
    (c.in_ok-deliver_all.ensures.at_end c.args.restarts.now c.in_ok-progress.ensures.under_way)
    c.finish.ensures.network
    ∙ ap nothing_yet (c.in_ok-deliver_all.ensures.same.graph ∙ c.in_ok-progress.ensures.same.graph)

-- what was asked before a refusal is what deliveries ask that begin the run
pub returns-in_err-deliver_all-clause-asked_in_part : goal.returns-in_err-deliver_all-clause-asked_in_part
returns-in_err-deliver_all-clause-asked_in_part g c =
    at_refusal c.from_residual-in_err-deliver_all.result
    (asked_until _ c.args.graph.now c.args.initiator c.args.choices.now c.args.restarts.now c.in_ok-progress.progress
    c.in_ok-progress.ensures.same c.in_ok-progress.ensures.log
    (c.in_err-deliver_all.ensures.asked_in_part c.args.restarts.now c.in_ok-progress.ensures.under_way))
