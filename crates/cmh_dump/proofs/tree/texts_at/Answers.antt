use Rattle.std.proofs.Common.{◌≡◌, ℕ, List, subst}
use Rattle.std.specs.Prelude.{IfOk}
use Rattle.serde_json.specs.View.{view}
use Rattle.cmh_dump.specs.Texts.{texts}
use Rattle.cmh_dump.specs.Tree.{at_key}
use Rattle.cmh_dump.proofs.Trees.{texts_of_views}
use Rattle.cmh_dump.proofs.tree.texts_at.Goals as goal

pub returns : goal.returns
returns c =
    let same =
    texts_of_views view c.elements_at.result.now (at_key c.args.key.now (view c.args.value.now))
    c.elements_at.ensures in
    subst (λ (ts : List (List ℕ)). IfOk c.texts_in.result (λ v. texts v.items ≡ ts)) same c.texts_in.ensures
