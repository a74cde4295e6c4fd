-- Lists of indices that grow by one.
use Rattle.std.proofs.Common.{◌≡◌, ℕ, zero, ◌+◌, ◌<◌, Bool, true, false, cond, List, [], ◌∷◌, ◌++◌, map, length, get_or, refl, sym, ◌∙◌, ap, append-nil, arith}
use Rattle.std.specs.Prelude.{Contains, filter}
use Rattle.std.specs.List.{range_with_len}
use Rattle.std.proofs.lemmas.List.Elements.{filter-append}
use Rattle.std.proofs.lemmas.List.{length-map}
use Rattle.std.proofs.lemmas.List.FromFn.{map-range_with_len_more, length-range_with_len, get_or-map-range_with_len, fill_by_all}
use mathlib.Core.List.{map-id}
use Rattle.cmh_graph.specs.Graph.{Graph, process_count, indices}
use Rattle.cmh_graph.proofs.PathLemmas.{contains_cons}

-- the first n + 1 indices are the first n, and then n
indices_more : (n : ℕ) → range_with_len 0 (n + 1) ≡ range_with_len 0 n ++ n ∷ []
indices_more n =
    sym (map-id (range_with_len 0 (n + 1)))
    ∙ map-range_with_len_more (λ x. x) 0 n n (omega arith)
    ∙ ap (λ xs. xs ++ n ∷ []) (map-id (range_with_len 0 n))

-- a filter of one index more has the index at its end where it passes, and else nothing more
filter_indices_more : (p : ℕ → Bool) (n : ℕ)
    → filter p (range_with_len 0 (n + 1)) ≡ filter p (range_with_len 0 n) ++ cond (p n) (n ∷ []) []
filter_indices_more p n = rw (indices_more n) (filter-append p (range_with_len 0 n) (n ∷ []))

-- a filter of one index more keeps it where it passes
pub filter_indices_kept : (p : ℕ → Bool) (n : ℕ) → p n ≡ true
    → filter p (range_with_len 0 (n + 1)) ≡ filter p (range_with_len 0 n) ++ n ∷ []
filter_indices_kept p n e = rw (filter_indices_more p n, e) refl

-- a filter of one index more leaves it out where it doesn't pass
pub filter_indices_passed : (p : ℕ → Bool) (n : ℕ) → p n ≡ false
    → filter p (range_with_len 0 (n + 1)) ≡ filter p (range_with_len 0 n)
filter_indices_passed p n e = rw (filter_indices_more p n, e) (append-nil (filter p (range_with_len 0 n)))

-- ---- a list made by index

-- a list made by index is as long as the graph
pub length-by_index : {X : Type 0} (g : Graph) (f : ℕ → X) → length (map f (indices g)) ≡ process_count g
length-by_index g f = length-map (indices g) f ∙ length-range_with_len 0 (process_count g)

-- a list made by index has at a place what the function makes of the place
pub by_index : {X : Type 0} (g : Graph) (f : ℕ → X) (xs : List X) (p : ℕ) (d : X) → xs ≡ map f (indices g)
    → p < process_count g → get_or xs p d ≡ f p
by_index g f xs p d e l =
    ap (λ ys. get_or ys p d) e ∙ get_or-map-range_with_len f 0 (process_count g) p p d l (omega arith)

-- two lists made by index are one where the functions agree within the graph
pub by_index_agree : {X : Type 0} (g : Graph) (f h : ℕ → X) (d : X) → ((p : ℕ) → p < process_count g → f p ≡ h p)
    → map f (indices g) ≡ map h (indices g)
by_index_agree g f h d e =
    fill_by_all h (map f (indices g)) (process_count g) d (length-by_index g f)
    (λ k l. by_index g f (map f (indices g)) k d refl l ∙ e k l)

-- ---- filters

-- tests that agree on a list keep the same of it
pub filter_agree_on : (f h : ℕ → Bool) (xs : List ℕ) → ((x : ℕ) → Contains xs x → f x ≡ h x) → filter f xs ≡ filter h xs
filter_agree_on f h [] e = refl
filter_agree_on f h (x ∷ xs) e =
    let rest = filter_agree_on f h xs (λ y c. e y (contains_cons x xs y c)) in
    λ i. cond (e x (zero, omega arith, refl) i) (x ∷ rest i) (rest i)
