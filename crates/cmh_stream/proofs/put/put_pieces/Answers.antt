-- Of a piece that isn't taken whole, no more bytes were taken than it has.
use Rattle.std.proofs.Common.{rules, sym}
use Rattle.std.specs.Prelude.{string_bytes}
use Rattle.std.proofs.KnownBytes.{Appends-trans}
use Rattle.std.proofs.lemmas.List.Folds.{length-flat_map-take}
use Rattle.cmh_stream.proofs.Prefixes.{grown-by_next, take_next}
use Rattle.cmh_stream.proofs.put.put_pieces.Goals as goal

pub overflow_add-result : goal.overflow_add-result
overflow_add-result g c =
    let all = length-flat_map-take (λ s. string_bytes s) c.list-pieces.result.now c.loop-piece.piece-index
    c.piece-item.result c.loop-piece-test.true in
    search (rules, all)

pub returns-in-Err : goal.returns-in-Err
returns-in-Err g c =
    let kept = c.loop-piece.invariant in
    let all = length-flat_map-take (λ s. string_bytes s) c.list-pieces.result.now c.loop-piece.piece-index
    c.piece-item.result c.loop-piece-test.true in
    let parts = take_next (λ s. string_bytes s) c.list-pieces.result.now c.loop-piece.piece-index c.piece-item.result
    c.loop-piece.written c.in-Err.fault.written c.loop-piece-test.true c.piece-item.is kept.written
    (search rules) in
    record {
      puts = record {
        written = search rules;
        within = search (rules, all);
        prefix = rw (sym c.list-pieces.ensures.text)
            (grown-by_next (λ s. string_bytes s) _ _ _ _ _ _ _ _ c.loop-piece-test.true c.piece-item.is kept.written
            (search rules) kept.taken (search rules));
        stops = search rules;
        unfinished = search rules;
        known = rw (sym c.list-pieces.ensures.text, parts)
            (rw (sym c.as_bytes.ensures.value) (Appends-trans _ _ _ _ _ kept.known c.in-Err.ensures.puts.known));
      };
      finished = search rules;
      works = search rules;
      stays = search rules;
    }

pub overflow_add-written : goal.overflow_add-written
overflow_add-written g c =
    let all = length-flat_map-take (λ s. string_bytes s) c.list-pieces.result.now c.loop-piece.piece-index
    c.piece-item.result c.loop-piece-test.true in
    search (rules, all)
