use Rattle.std.proofs.Common.{◌≡◌, drop}
use Rattle.std.specs.Prelude.{flat_map}
use Rattle.cmh_text.specs.Report.{group_line, line}
use Rattle.cmh_text.proofs.group_lines.GroupLines.text_of.Given as goal

abbrev pub invariant-loop-n : goal.invariant-loop-n
invariant-loop-n l = record {
  same : l.self ≡ l.fn.self;
  text : l.text ≡ flat_map (λ p. line (group_line l.fn.self p)) (drop l.n l.chunk);
}
