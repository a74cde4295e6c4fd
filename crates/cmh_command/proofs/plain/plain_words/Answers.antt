use Rattle.std.proofs.Common.{arith}
use Rattle.std.proofs.lemmas.Grind.{common_steps}
use Rattle.cmh_command.proofs.PlainTexts.{words_more}
use Rattle.cmh_command.proofs.plain.plain_words.Goals as goal

pub loop-word-preserved : goal.loop-word-preserved
loop-word-preserved g c = record {
  plain = rw (c.in_ok-push.ensures.items)
      (words_more c.loop-word.list.items c.in_ok-plain.plain c.loop-word.invariant.plain c.in_ok-plain.ensures);
  each = grind (arith, common_steps, c.in_ok-push.ensures.items, c.loop-word.invariant.each);
}
