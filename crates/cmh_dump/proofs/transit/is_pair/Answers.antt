use Rattle.std.proofs.Common.{◌∙◌}
use Rattle.serde_json.specs.View.{view}
use Rattle.cmh_dump.proofs.Trees.{is_pair_of}
use Rattle.cmh_dump.proofs.transit.is_pair.Goals as goal

pub returns-then-elements-eq2 : goal.returns-then-elements-eq2
returns-then-elements-eq2 c =
    c.are_texts.ensures
    ∙ is_pair_of view c.elements_in-elements.result.now (view c.args.message.now) c.elements_in-elements.ensures
    c.if-elements-eq2.true
