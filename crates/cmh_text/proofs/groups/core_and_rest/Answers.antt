use Rattle.std.proofs.Common.{◌∙◌, ap, not, take_all}
use Rattle.std.specs.Prelude.{filter}
use Rattle.cmh_text.specs.Group.{is_led_by}
use Rattle.cmh_text.specs.Summary.{leaders_in}
use Rattle.cmh_text.proofs.groups.core_and_rest.Goals as goal

pub returns : goal.returns
returns c =
    let led = is_led_by (leaders_in c.args.summaries.now) c.args.leader in
    let all = take_all c.loop-p.p-index c.args.reach.now c.loop-p-test.false in
    record {
      core = c.loop-p.invariant.core ∙ ap (filter led) all;
      rest = c.loop-p.invariant.rest ∙ ap (filter (λ p. not (led p))) all;
    }

pub is_led_by-requires : goal.is_led_by-requires
is_led_by-requires c = c.requires c.loop-p.p-index 0 c.loop-p-test.true
