use Rattle.std.proofs.Common.{◌≡◌, ◌≤◌, ◌∙◌, length, map, take}
use Rattle.std.specs.Prelude.{flat_map, string_bytes}
use Rattle.cmh_text.specs.Report.{line}
use Rattle.cmh_report.specs.Trace.{message_line}
use Rattle.cmh_report.proofs.Traces.{whole_trace}
use Rattle.cmh_report.proofs.trace.trace.Goals as goal

pub returns : goal.returns
returns c =
    let g = c.args.graph.now in
    let r = c.args.run.now in
    let n = c.loop-delivery.delivery-index in
    let lines : string_bytes c.loop-delivery.text ≡ flat_map line (map (λ d. message_line g d.message) (take n r.log)) =
    c.loop-delivery.invariant in
    let all : length r.log ≤ n = rw (← c.log-delivery-items.ensures) c.loop-delivery-test.false in
    c.in_ok-push_ending.ensures
    ∙ rw (lines, c.name.ensures, c.initiator.ensures, c.ending.ensures) (whole_trace g r n all)
