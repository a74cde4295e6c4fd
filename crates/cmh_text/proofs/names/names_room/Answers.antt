use Rattle.std.proofs.Common.{◌-◌, ◌^◌, ◌∙◌, ap, arith, length, min, take_all}
use Rattle.cmh_text.specs.Report.{names_of, spaced_words}
use Rattle.cmh_text.proofs.SpacedNames.{names_more}
use Rattle.cmh_text.proofs.names.names_room.Goals as goal

pub loop-p-preserved : goal.loop-p-preserved
loop-p-preserved c =
    omega (
      arith,
      c.loop-p.invariant,
      names_more c.args.graph.now c.args.list.now c.loop-p.p-index c.loop-p-test.true,
      ap length c.name.ensures,
      c.saturating_add.ensures,
      c.saturating_add-room.ensures,
    )

pub returns : goal.returns
returns c =
    c.loop-p.invariant
    ∙ ap (λ ps. min (length (spaced_words (names_of c.args.graph.now ps))) (2 ^ 64 - 1))
    (take_all c.loop-p.p-index c.args.list.now c.loop-p-test.false)
