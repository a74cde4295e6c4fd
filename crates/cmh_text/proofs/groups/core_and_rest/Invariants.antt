use Rattle.std.proofs.Common.{◌≡◌, not, take}
use Rattle.std.specs.Prelude.{filter}
use Rattle.cmh_text.specs.Group.{is_led_by}
use Rattle.cmh_text.specs.Summary.{leaders_in}
use Rattle.cmh_text.proofs.groups.core_and_rest.Given as goal

abbrev pub invariant-loop-p : goal.invariant-loop-p
invariant-loop-p l = record {
  core : l.core.items ≡ filter (is_led_by (leaders_in l.summaries) l.leader) (take l.p-index l.reach);
  rest : l.rest.items ≡ filter (λ p. not (is_led_by (leaders_in l.summaries) l.leader p)) (take l.p-index l.reach);
}
