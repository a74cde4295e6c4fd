use Rattle.std.proofs.Common.{◌≡◌, map, take}
use Rattle.std.specs.Prelude.{flat_map, string_bytes}
use Rattle.cmh_text.specs.Report.{line}
use Rattle.cmh_report.specs.Trace.{message_line}
use Rattle.cmh_report.proofs.trace.trace.Given as goal

abbrev pub invariant-loop-delivery : goal.invariant-loop-delivery
invariant-loop-delivery l =
    string_bytes l.text
    ≡ flat_map line (map (λ d. message_line l.graph d.message) (take l.delivery-index l.run.log))
