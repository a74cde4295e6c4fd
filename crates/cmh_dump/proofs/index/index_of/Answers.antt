use Rattle.std.proofs.Common.{◌≡◌, ◌∙◌, [], length, ap, Some}
use Rattle.cmh_dump.specs.Name.{repeats}
use Rattle.cmh_dump.specs.Texts.{texts}
use Rattle.cmh_dump.proofs.FirstFault.Searches.{least_found}
use Rattle.cmh_dump.proofs.IndexLemmas.{repeated, not_repeated, all_apart}
use Rattle.cmh_dump.proofs.index.index_of.Goals as goal

pub returns-then-not-is_new : goal.returns-then-not-is_new
returns-then-not-is_new c =
    let p =
    repeated c.args.names.now c.loop-i.index.keys c.loop-i.i (record { ref_ptr = (0, 0); now = [] })
    c.in_ok-is_new.is_new c.loop-i-test.true c.loop-i.invariant.0 c.in_ok-is_new.ensures.added
    c.if-not-is_new.true in
    let found =
    least_found (repeats (texts c.args.names.now)) (length (texts c.args.names.now)) c.loop-i.i p.0
    c.loop-i.invariant.1 p.1 in
    record {
      names = tt;
      distinct = tt;
      repeated = λ i is. let same : c.loop-i.i ≡ i = cc in found ∙ ap Some same;
    }

pub loop-i-preserved : goal.loop-i-preserved
loop-i-preserved c =
    rw c.in_ok-is_new.ensures.keys
    (not_repeated c.args.names.now c.loop-i.index.keys c.loop-i.i (record { ref_ptr = (0, 0); now = [] })
    c.in_ok-is_new.is_new c.loop-i-test.true c.loop-i.invariant.0 c.in_ok-is_new.ensures.added c.if-not-is_new.false
    c.loop-i.invariant.1)

pub returns : goal.returns
returns c =
    let apart =
    all_apart c.args.names.now c.loop-i.index.keys c.loop-i.i c.loop-i-test.false c.loop-i.invariant.0
    c.loop-i.invariant.1 in
    record { names = apart.0; distinct = apart.1; repeated = tt }
