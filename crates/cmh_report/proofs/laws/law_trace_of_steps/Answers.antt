use Rattle.std.proofs.Common.{[]}
use Rattle.cmh_run.specs.Choices.{chosen_place}
use Rattle.cmh_report.proofs.laws.law_trace_of_steps.Goals as goal

-- the legal runs are those by the rules, and all else of a trace is the same
pub returns : goal.returns
returns c = λ name choices ending g text. (
  (λ t. record {
    run = t.run;
    end = t.legal.end;
    named = t.named;
    idle = t.idle;
    steps = (c.law_runs_are_steps.ensures (chosen_place choices) g t.run.initiator [] t.run.log t.run.ending
        t.legal.end).0 t.legal.legal;
    engaged = t.legal.engaged;
    restarted = t.legal.restarted;
    unhinted = t.unhinted;
    ends = t.ends;
    lines = t.lines;
  }),
  (λ t. record {
    run = t.run;
    named = t.named;
    idle = t.idle;
    legal = record {
      end = t.end;
      legal = (c.law_runs_are_steps.ensures (chosen_place choices) g t.run.initiator [] t.run.log t.run.ending
          t.end).1 t.steps;
      engaged = t.engaged;
      restarted = t.restarted;
    };
    unhinted = t.unhinted;
    ends = t.ends;
    lines = t.lines;
  }),
)
