-- A prefix of a list, which grows by a prefix of the others; and one of a list that is made of pieces.
use Rattle.std.proofs.Common.{◌≡◌, ℕ, suc, ◌+◌, ◌-◌, ◌<◌, ◌≤◌, List, ◌++◌, ◌∷◌, length, take, drop, flat_map, get_or, arith, length-drop, append_assoc, ap, sym, ◌∙◌}
use Rattle.std.proofs.Math.Seq.{drop-cons, take-add, take-append-add}
use Rattle.std.proofs.lemmas.Grind.{flat_map-append}
use Rattle.std.proofs.lemmas.List.{take_all, take-append-drop, take-append-le}

-- what is left of a list after its first w elements
abbrev pub others : List ℕ → ℕ → List ℕ
others xs w = take (length xs - w) (drop w xs)

-- the first w + n elements are the first w, and then the first n of the others
pub take-others : (xs : List ℕ) (w n : ℕ) → take (w + n) xs ≡ take w xs ++ take n (others xs w)
take-others xs w n =
    let all : others xs w ≡ drop w xs = take_all _ _ (omega (arith, length-drop w xs)) in
    take-add w n xs ∙ ap (λ ys. take w xs ++ take n ys) (sym all)

-- what grew by the first w elements, and then by the first n of the others, grew by w + n
pub grown-by_others : (xs start old new : List ℕ) (w n : ℕ) → old ≡ start ++ take w xs
    → new ≡ old ++ take n (others xs w) → new ≡ start ++ take (w + n) xs
grown-by_others xs start old new w n first next =
    next ∙ ap (λ ys. ys ++ take n (others xs w)) first ∙ append_assoc start (take w xs) _
    ∙ ap (λ ys. start ++ ys) (sym (take-others xs w n))

-- the first w + n elements of all pieces are the w of the pieces so far, and the first n of the next piece
pub take_next : {X : Type 0} {A : Type 0} (f : X → List A) (xs : List X) (i : ℕ) (x : X) (w n : ℕ)
    → i < length xs → x ≡ get_or xs i x → w ≡ length (flat_map f (take i xs)) → n ≤ length (f x)
    → take (w + n) (flat_map f xs) ≡ flat_map f (take i xs) ++ take n (f x)
take_next f xs i x w n in_xs is so_far few =
    let next : drop i xs ≡ x ∷ drop (suc i) xs =
    drop-cons xs i x in_xs ∙ ap (λ y. y ∷ drop (suc i) xs) (sym is) in
    let parted : flat_map f xs ≡ flat_map f (take i xs) ++ (f x ++ flat_map f (drop (suc i) xs)) =
    ap (flat_map f) (sym (take-append-drop i xs)) ∙ flat_map-append f (take i xs) (drop i xs)
    ∙ ap (λ ys. flat_map f (take i xs) ++ flat_map f ys) next in
    ap (λ m. take (m + n) (flat_map f xs)) so_far
    ∙ ap (take (length (flat_map f (take i xs)) + n)) parted
    ∙ take-append-add (flat_map f (take i xs)) _ n
    ∙ ap (λ ys. flat_map f (take i xs) ++ ys) (take-append-le n (f x) _ few)

-- what grew by the pieces so far, and then by a prefix of the next one, grew by a prefix of all
pub grown-by_next : {X : Type 0} (f : X → List ℕ) (xs : List X) (i : ℕ) (x : X) (w n : ℕ)
    (start old new : List ℕ)
    → i < length xs → x ≡ get_or xs i x → w ≡ length (flat_map f (take i xs)) → n ≤ length (f x)
    → old ≡ start ++ flat_map f (take i xs) → new ≡ old ++ take n (f x)
    → new ≡ start ++ take (w + n) (flat_map f xs)
grown-by_next f xs i x w n start old new in_xs is so_far few first then =
    then ∙ ap (λ ys. ys ++ take n (f x)) first ∙ append_assoc start _ _
    ∙ ap (λ ys. start ++ ys) (sym (take_next f xs i x w n in_xs is so_far few))
