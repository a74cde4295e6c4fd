use Rattle.serde_json.specs.View.{view}
use Rattle.cmh_dump.specs.Tree.{text_of}
use Rattle.cmh_dump.proofs.Taken.{seen-next}
use Rattle.cmh_dump.proofs.tree.texts_in.Goals as goal

pub loop-value-preserved : goal.loop-value-preserved
loop-value-preserved c =
    seen-next (λ text. text.now) (λ value. text_of (view value)) c.loop-value.texts.items c.push.new.self.items
    c.text_in.result c.args.values.now c.loop-value.value-index c.value-item.result
    c.in_ok-push.ensures.items c.loop-value.invariant c.text_in.ensures c.loop-value-test.true c.value-item.is
