-- The names of lists of processes, each after a space.
use Rattle.std.proofs.Common.{◌≡◌, ℕ, ◌+◌, ◌-◌, ◌^◌, ◌<◌, ◌≤◌, List, [], ◌∷◌, ◌++◌, get_or, length, min, take, drop, drop_at, append-nil, sym, ◌∙◌, ap, arith, length-append}
use Rattle.std.proofs.lemmas.List.{get_or-append-add, map-append, take-append-drop, take_more}
use Rattle.std.proofs.lemmas.List.Concat.{flat_map-append}
use Rattle.cmh_graph.specs.Graph.{Graph, name_of}
use Rattle.cmh_text.specs.Report.{names_of, spaced_words}

-- the names of two lists together are those of the one and then of the other
names_parts : (g : Graph) (xs ys : List ℕ)
    → spaced_words (names_of g (xs ++ ys)) ≡ spaced_words (names_of g xs) ++ spaced_words (names_of g ys)
names_parts g xs ys =
    ap spaced_words (map-append (name_of g) xs ys) ∙ flat_map-append (λ word. 32 ∷ word) (names_of g xs) (names_of g ys)

-- the names of a list that is cut are those of both parts
names_cut : (g : Graph) (xs : List ℕ) (n : ℕ)
    → spaced_words (names_of g xs) ≡ spaced_words (names_of g (take n xs)) ++ spaced_words (names_of g (drop n xs))
names_cut g xs n = ap (λ ys. spaced_words (names_of g ys)) (sym (take-append-drop n xs))
    ∙ names_parts g (take n xs) (drop n xs)

-- the names of one process more are longer by a space and its name
pub names_more : (g : Graph) (xs : List ℕ) (i : ℕ) → i < length xs
    → length (spaced_words (names_of g (take (i + 1) xs)))
    ≡ length (spaced_words (names_of g (take i xs))) + 1 + length (name_of g (get_or xs i 0))
names_more g xs i l =
    let name = name_of g (get_or xs i 0) in
    let same : length (name ++ []) ≡ length name = ap length (append-nil name) in
    let one : length (spaced_words (name ∷ [])) ≡ 1 + length name = omega (arith, same) in
    ap (λ ys. length (spaced_words (names_of g ys))) (take_more xs i 0 l)
    ∙ ap length (names_parts g (take i xs) (get_or xs i 0 ∷ []))
    ∙ length-append (spaced_words (names_of g (take i xs))) (spaced_words (name ∷ []))
    ∙ omega (arith, one)

-- a text may be cut between two words that follow spaces
cut_between : (front back : List (List ℕ)) → (length (spaced_words front) ≤ length
    (spaced_words front ++ spaced_words back))
    × (length (spaced_words front) < length (spaced_words front ++ spaced_words back)
    → get_or (spaced_words front ++ spaced_words back) (length (spaced_words front)) 0 < 128)
cut_between front [] =
    let long = length-append (spaced_words front) [] in
    (omega (arith, long), λ short. absurd (omega (arith, long, short)))
cut_between front (word ∷ words) =
    let long = length-append (spaced_words front) (spaced_words (word ∷ words)) in
    let space = get_or-append-add (spaced_words front) (spaced_words (word ∷ words)) 0 0 in
    let here : length (spaced_words front) + 0 ≡ length (spaced_words front) = omega arith in
    let byte : get_or (spaced_words front ++ spaced_words (word ∷ words)) (length (spaced_words front)) 0 ≡ 32 =
    ap (λ n. get_or (spaced_words front ++ spaced_words (word ∷ words)) n 0) (sym here) ∙ space in
    (omega (arith, long), λ short. omega (arith, byte))

-- the names before a place of a list are as long as counted, and the text may be cut behind them
names_before : (g : Graph) (list : List ℕ) (n count : ℕ) (text : List ℕ) → text ≡ spaced_words (names_of g list)
    → length text < 2 ^ 64 → count ≡ min (length (spaced_words (names_of g (take n list)))) (2 ^ 64 - 1)
    → (length (spaced_words (names_of g (take n list))) ≡ count) × (count ≤ length text)
    × (count < length text → get_or text count 0 < 128)
names_before g list n count text of_list few is =
    let parts = of_list ∙ names_cut g list n in
    let cut = cut_between (names_of g (take n list)) (names_of g (drop n list)) in
    let within : length (spaced_words (names_of g (take n list))) ≤ length text =
    omega (arith, cut.0, ap length parts) in
    let same : length (spaced_words (names_of g (take n list))) ≡ count = omega (arith, within, few, is) in (
      same,
      omega (arith, within, same),
      λ short.
          let byte = ap (λ ys. get_or ys (length (spaced_words (names_of g (take n list)))) 0) parts in
          let here = ap (λ k. get_or text k 0) same in
          omega (arith, cut.1 (omega (arith, short, same, ap length parts)), byte, here),
    )

-- all names of a list but the last k are as long as counted, and the text may be cut behind them
pub names_but : (g : Graph) (list shown : List ℕ) (size k count : ℕ) (text : List ℕ) → shown ≡ list
    → size ≡ length list → text ≡ spaced_words (names_of g list) → length text < 2 ^ 64
    → count ≡ min (length (spaced_words (names_of g (take (size - k) shown)))) (2 ^ 64 - 1)
    → (length (spaced_words (names_of g (take (length list - k) list))) ≡ count) × (count ≤ length text)
    × (count < length text → get_or text count 0 < 128)
names_but g list shown size k count text same long of_list few is =
    names_before g list (length list - k) count text of_list few
    (is ∙ (λ i. min (length (spaced_words (names_of g (take (long i - k) (same i))))) (2 ^ 64 - 1)))

-- new names, put before those that both lists end with, make the names of the new list
pub names_renewed : (g : Graph) (old new : List ℕ) (k cut : ℕ) (before front after : List ℕ)
    → drop (length old - k) old ≡ drop (length new - k) new
    → before ≡ spaced_words (names_of g old) → front ≡ spaced_words (names_of g (take (length new - k) new))
    → length (spaced_words (names_of g (take (length old - k) old))) ≡ cut → after ≡ front ++ drop cut before
    → after ≡ spaced_words (names_of g new)
names_renewed g old new k cut before front after same of_old of_front is_cut is =
    let first = spaced_words (names_of g (take (length old - k) old)) in
    let last = spaced_words (names_of g (drop (length old - k) old)) in
    let kept : drop cut before ≡ last =
    ap (drop cut) (of_old ∙ names_cut g old (length old - k)) ∙ drop_at first last cut is_cut in
    is
    ∙ (λ i. of_front i ++ kept i)
    ∙ ap (λ ys. spaced_words (names_of g (take (length new - k) new)) ++ spaced_words (names_of g ys)) same
    ∙ sym (names_cut g new (length new - k))
