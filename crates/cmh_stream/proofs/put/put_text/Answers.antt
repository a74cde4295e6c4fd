-- One put more takes the next bytes of the text.
use Rattle.std.proofs.Common.{rules, sym, ◌∙◌}
use Rattle.std.proofs.KnownBytes.{Appends-trans}
use Rattle.std.proofs.lemmas.Bool.{false≢true}
use Rattle.cmh_stream.proofs.Prefixes.{take-others, grown-by_others}
use Rattle.cmh_stream.proofs.put.put_text.Goals as goal

pub loop-written-preserved : goal.loop-written-preserved
loop-written-preserved g c =
    let kept = c.loop-written.invariant in
    let put = c.in-Ok.ensures in
    record {
      within = search rules;
      taken = grown-by_others _ _ _ _ _ _ kept.taken put.takes;
      known = rw take-others (Appends-trans _ _ _ _ _ kept.known put.known);
      failed = λ was. absurd (false≢true (put.stays (kept.failed was).1));
      finished = λ is. absurd (false≢true (sym (put.opens (put.moves (search rules))) ∙ is));
    }
