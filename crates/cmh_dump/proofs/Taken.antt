-- Reading the names of an array one after the other.
use Rattle.std.proofs.Common.{◌≡◌, ℕ, zero, suc, ◌+◌, ◌<◌, List, [], ◌∷◌, ◌++◌, Some, map, take, refl, sym, ap, ◌∙◌, arith, Bor, length, get_or}
use Rattle.std.specs.Prelude.{slice_get, unwrap_or}
use Rattle.cmh_dump.specs.Texts.{texts}

-- the first i + 1 elements of a list are the first i and the one at i
pub take-next : {X : Type 0} (xs : List X) (i : ℕ) (x : X) → slice_get xs i ≡ Some x
    → take (suc i) xs ≡ take i xs ++ x ∷ []
take-next [] i x e = absurd cc
take-next (y ∷ ys) zero x e = ap (λ o. unwrap_or o y ∷ []) e
take-next (y ∷ ys) (suc i) x e = ap (λ zs. y ∷ zs) (take-next ys i x e)

-- the texts of two lists joined are those of the first, and then those of the second
pub texts-append : (xs ys : List (Bor (List ℕ))) → texts (xs ++ ys) ≡ texts xs ++ texts ys
texts-append [] ys = refl
texts-append (x ∷ xs) ys = ap (λ zs. x.now ∷ zs) (texts-append xs ys)

-- a list with one element more at its end is mapped to one with what the function makes of it at the end
pub map-last : {X Y : Type 0} (f : X → Y) (xs : List X) (x : X) → map f (xs ++ x ∷ []) ≡ map f xs ++ f x ∷ []
map-last f [] x = refl
map-last f (y ∷ ys) x = ap (λ zs. f y ∷ zs) (map-last f ys x)

-- at a place within a list the element that stands there is read
get-at : {X : Type 0} (xs : List X) (i : ℕ) (x : X) → i < length xs → x ≡ get_or xs i x → slice_get xs i ≡ Some x
get-at [] i x lt e = absurd (omega arith)
get-at (y ∷ ys) zero x lt e = ap Some (sym e)
get-at (y ∷ ys) (suc i) x lt e = get-at ys i x (omega arith) e

-- what a function makes of the first i + 1 elements is what it makes of the first i, and of the one at i
map-next : {X Y : Type 0} (f : X → Y) (xs : List X) (i : ℕ) (x : X) → i < length xs → x ≡ get_or xs i x
    → map f (take (i + 1) xs) ≡ map f (take i xs) ++ f x ∷ []
map-next f xs i x lt e =
    let next : i + 1 ≡ suc i = omega arith in
    ap (λ n. map f (take n xs)) next ∙ ap (map f) (take-next xs i x (get-at xs i x lt e)) ∙ map-last f (take i xs) x

-- a list seen as what a function makes of the first i elements of another is seen as that of the first i + 1, once what
-- is seen as that of the next one is pushed on it
pub seen-next : {X Y Z : Type 0} (g : Z → Y) (f : X → Y) (zs more : List Z) (z : Z) (xs : List X) (i : ℕ) (x : X)
    → more ≡ zs ++ z ∷ [] → map g zs ≡ map f (take i xs) → g z ≡ f x → i < length xs → x ≡ get_or xs i x
    → map g more ≡ map f (take (i + 1) xs)
seen-next g f zs more z xs i x pushed seen same lt e =
    ap (map g) pushed ∙ map-last g zs z ∙ (λ t. seen t ++ same t ∷ []) ∙ sym (map-next f xs i x lt e)

-- a list that is what a function makes of the first i elements of another is that of the first i + 1, once what the
-- function makes of the next one is pushed on it
pub made-next : {X Y : Type 0} (f : X → Y) (ys more : List Y) (y : Y) (xs : List X) (i : ℕ) (x : X)
    → more ≡ ys ++ y ∷ [] → ys ≡ map f (take i xs) → y ≡ f x → i < length xs → x ≡ get_or xs i x
    → more ≡ map f (take (i + 1) xs)
made-next f ys more y xs i x pushed made same lt e =
    pushed ∙ (λ t. made t ++ same t ∷ []) ∙ sym (map-next f xs i x lt e)
