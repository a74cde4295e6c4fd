use Rattle.std.proofs.Common.{◌≢◌, lit<, length, sym}
use Rattle.std.proofs.lemmas.Bool.{eqb-false}
use Rattle.std.proofs.lemmas.Iterator.Consumers.{map_from_collect}
use Rattle.std.proofs.lemmas.Iterator.Splits.{YieldsList-from_str_split}
use Rattle.cmh_command.proofs.Lists.{cut_items}
use Rattle.cmh_command.proofs.list.items_of.Goals as goal

pub returns : goal.returns
returns c =
    let text = c.args.text.now in
    let some : length text ≢ 0 = eqb-false (length text) 0 (sym (c.if-is_empty.ensures)) in
    let cut =
    map_from_collect _ c.collect.ensures.ran
    (YieldsList-from_str_split 44 text (lit< tt) c.split.ensures.text c.split.ensures.has_more
    c.split.ensures.pattern) in
    rw (cut_items text some) cut
