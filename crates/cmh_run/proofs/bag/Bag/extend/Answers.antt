use Rattle.cmh_run.proofs.Common.{ℕ, rules, query}
use Rattle.std.proofs.lemmas.Iterator.{YieldsList-from_slice, YieldsList-from_map}
use Rattle.std.proofs.lemmas.Iterator.Adapters.{items_from_extend}
use Rattle.cmh_run.proofs.bag.Bag.extend.Goals as goal

pub returns : goal.returns
returns c =
    let h = items_from_extend c.extend.result c.extend.ensures.ran (
    YieldsList-from_map _ (λ (r : ℕ). query c.args.initiator c.args.number c.args.process r)
    (YieldsList-from_slice c.args.receivers.now cc)
    c.map-queries.ensures.closure (λ x r q k. search rules)
    ) in
    search rules
