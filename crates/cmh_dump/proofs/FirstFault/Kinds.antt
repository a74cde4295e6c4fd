-- Kinds of faults one after the other, and what is the same of all of them.
use Rattle.std.proofs.Common.{◌≡◌, ℕ, ◌<◌, ◌≤◌, List, [], ◌∷◌, ◌++◌, Bool, true, false, cond, Option, Some, None, map, length, get_or, nat_lt, refl, sym, ap, ◌∙◌}
use Rattle.std.specs.Prelude.{find, slice_get, unwrap_or}
use Rattle.std.specs.Option.{option_or}
use Rattle.std.proofs.lemmas.Bool.{lt-ltb, le-ltb}
use Rattle.std.proofs.lemmas.List.{length-map}
use Rattle.std.proofs.lemmas.Option.{unwrap_or-slice_get}
use Rattle.cmh_dump.specs.declared.fault.DumpFault.{DumpFault}
use Rattle.cmh_dump.specs.Dump.{first_of}

-- ---- kinds one after the other

module _ (test : DumpFault → Bool) where
  -- a fault of the first kind comes first
  pub first_here : (fs : List DumpFault) (rest : List (List DumpFault)) (o : Option DumpFault) (e : DumpFault)
      → find test fs ≡ o → o ≡ Some e → first_of test (fs ∷ rest) ≡ Some e
  first_here fs rest o e h s = ap (λ r. option_or r (first_of test rest)) (h ∙ s)

  -- where no fault of the first kind holds, the others decide
  pub first_later : (fs : List DumpFault) (rest : List (List DumpFault)) (o r : Option DumpFault) → find test fs ≡ o
      → o ≡ None → first_of test rest ≡ r → first_of test (fs ∷ rest) ≡ r
  first_later fs rest o r h n later = ap (λ q. option_or q (first_of test rest)) (h ∙ n) ∙ later

  -- in a kind of one fault that fault is found just where it holds
  pub alone : (f : DumpFault) (b : Bool) → test f ≡ b → find test (f ∷ []) ≡ cond b (Some f) None
  alone f b h = ap (λ c. cond c (Some f) None) h

  -- where none of the first kinds holds, the others decide
  pub first_after : (xs ys : List (List DumpFault)) → first_of test xs ≡ None
      → first_of test (xs ++ ys) ≡ first_of test ys
  first_after [] ys h = refl
  first_after (fs ∷ xs) ys h = by (find test fs) h (λ e. first_after xs ys e)
    where
      by : (o : Option DumpFault) → option_or o (first_of test xs) ≡ None
          → (first_of test xs ≡ None → first_of test (xs ++ ys) ≡ first_of test ys)
          → option_or o (first_of test (xs ++ ys)) ≡ first_of test ys
      by None e later = later e
      by (Some f) e later = absurd cc

  -- a fault of the first kinds comes first
  pub first_among : (xs ys : List (List DumpFault)) (f : DumpFault) → first_of test xs ≡ Some f
      → first_of test (xs ++ ys) ≡ Some f
  first_among [] ys f h = absurd cc
  first_among (fs ∷ xs) ys f h = by (find test fs) h (λ e. first_among xs ys f e)
    where
      by : (o : Option DumpFault) → option_or o (first_of test xs) ≡ Some f
          → (first_of test xs ≡ Some f → first_of test (xs ++ ys) ≡ Some f)
          → option_or o (first_of test (xs ++ ys)) ≡ Some f
      by None e later = later e
      by (Some g) e later = e

  -- where no kind of two lists joined holds, none of the first list does
  pub none_among : (xs ys : List (List DumpFault)) → first_of test (xs ++ ys) ≡ None → first_of test xs ≡ None
  none_among [] ys h = refl
  none_among (fs ∷ xs) ys h = by (find test fs) h (none_among xs ys)
    where
      by : (o : Option DumpFault) → option_or o (first_of test (xs ++ ys)) ≡ None
          → (first_of test (xs ++ ys) ≡ None → first_of test xs ≡ None) → option_or o (first_of test xs) ≡ None
      by None e later = later e
      by (Some f) e later = absurd cc

  -- where no kind of two lists joined holds, none of the second list does
  pub none_after : (xs ys : List (List DumpFault)) → first_of test (xs ++ ys) ≡ None → first_of test ys ≡ None
  none_after xs ys h = sym (first_after xs ys (none_among xs ys h)) ∙ h

-- ---- a list, and what it is seen as

-- a list and what it is seen as have one length
pub size_of : {Y Z : Type 0} (f : Y → Z) (ys : List Y) (all : List Z) → map f ys ≡ all → length all ≡ length ys
size_of f ys all e = ap length (sym e) ∙ length-map ys f

-- where a list is seen as another one, what is seen at a place is read at that place of the other
pub at_seen : {Y Z : Type 0} (f : Y → Z) (ys : List Y) (all : List Z) (k : ℕ) (z : Z) → map f ys ≡ all
    → slice_get (map f ys) k ≡ Some z → slice_get all k ≡ Some z
at_seen f ys all k z e h = ap (λ zs. slice_get zs k) (sym e) ∙ h

-- where a list is seen as another one, what is seen at a place is what the other has there, whatever would be read past
-- its end
pub or_seen : {Y Z : Type 0} (f : Y → Z) (ys : List Y) (all : List Z) (k : ℕ) (z x : Z) → map f ys ≡ all
    → slice_get (map f ys) k ≡ Some z → get_or all k x ≡ z
or_seen f ys all k z x e h = sym (unwrap_or-slice_get all k x) ∙ ap (λ o. unwrap_or o x) (at_seen f ys all k z e h)

-- where a list is longer than a limit, so is the one that it is seen as
pub is_over_most : {Y Z : Type 0} (f : Y → Z) (ys : List Y) (all : List Z) (most : ℕ) → map f ys ≡ all
    → most < length ys
    → nat_lt most (length all) ≡ true
is_over_most f ys all most e h =
    ap (λ zs. nat_lt most (length zs)) (sym e) ∙ ap (nat_lt most) (length-map ys f) ∙ lt-ltb most (length ys) h

-- where a list is within a limit, so is the one that it is seen as
pub within : {Y Z : Type 0} (f : Y → Z) (ys : List Y) (all : List Z) (most : ℕ) → map f ys ≡ all → length ys ≤ most
    → nat_lt most (length all) ≡ false
within f ys all most e h =
    ap (λ zs. nat_lt most (length zs)) (sym e) ∙ ap (nat_lt most) (length-map ys f) ∙ le-ltb most (length ys) h
