use Rattle.std.proofs.Common.{◌≡◌, ℕ, zero, suc, List, [], ◌∷◌, ap, sym, slice_get, Some, arith}
use Rattle.std.proofs.lemmas.Option.{slice_get_past}
use mathlib.Core.Option.{some, some-injective, some-ne-none}
use lib.ListN.{get_elem?}
use Rattle.std.specs.Slots.{slots_items, slots_counts}
use Rattle.cmh_rw.proofs.words.Closed.word.Goals as goal

got : (l : List ℕ) (i a : ℕ) → get_elem? l i ≡ some a → Some a ≡ slice_get l i
got [] i a e = absurd (some-ne-none a (sym e))
got (x ∷ xs) zero a e = ap Some (sym (some-injective x a e))
got (x ∷ xs) (suc i) a e = got xs i a e

pub returns-then-n-lt-BOARD_WORDS : goal.returns-then-n-lt-BOARD_WORDS
returns-then-n-lt-BOARD_WORDS c = got (slots_items c.args.self.now.inner.words) c.args.n c.word.result c.word.ensures

pub returns-else-n-lt-BOARD_WORDS : goal.returns-else-n-lt-BOARD_WORDS
returns-else-n-lt-BOARD_WORDS c =
    let counts = slots_counts c.args.self.now.inner.words in
    let wide = c.args.self.now.wide in
    sym (slice_get_past (slots_items c.args.self.now.inner.words) c.args.n (omega arith))
