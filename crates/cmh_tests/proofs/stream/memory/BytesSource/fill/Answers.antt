-- The buffer begins with the next of the bytes.
use Rattle.std.proofs.Common.{◌≡◌, length, take, drop, ◌++◌, arith, sym, ap, ◌∙◌}
use Rattle.std.proofs.lemmas.List.{take_at, length-take-le}
use Rattle.cmh_stream.proofs.Prefixes.{take-others}
use Rattle.cmh_tests.proofs.stream.memory.BytesSource.fill.Goals as goal

pub returns-clause-gives : goal.returns-clause-gives
returns-clause-gives c =
    let bytes = c.args.self.now.bytes.now in
    let at = c.args.self.now.at in
    let count = c.min-count.result in
    let front = c.copy_from_slice.new.self in
    let behind = drop count c.args.buf.now in
    let whole : length front ≡ count =
    c.copy_from_slice.ensures.len ∙ length-take-le count c.args.buf.now (omega arith) in
    take-others bytes at count
    ∙ ap (λ next. take at bytes ++ next) (sym (take_at front behind count whole ∙ c.copy_from_slice.ensures.after))
