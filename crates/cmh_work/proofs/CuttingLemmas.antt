-- What is gathered from each chunk once is the list.
use Rattle.std.proofs.Common.{◌≡◌, ℕ, zero, suc, ◌+◌, ◌-◌, ◌<◌, ◌≤◌, min, List, [], ◌∷◌, ◌++◌, length, take, drop, flat_map, get_or, append_assoc, append-nil, sym, refl, ap, subst, ◌∙◌, arith}
use Rattle.std.specs.Prelude.{All, IsTrue, slice_index, slice_range}
use Rattle.std.proofs.lemmas.List.{take-append-drop, get_or_default, take_rest, take_min, drop_min, drop-drop, length-drop}
use Rattle.std.proofs.lemmas.List.Elements.{All-nil, All-take, All-drop}
use Rattle.cmh_graph.specs.Graph.{Graph, is_idle, indices, idle_list}
use Rattle.cmh_graph.proofs.Verdicts.{filter_contains}
use Rattle.cmh_rw.specs.Machine.{total}
use Rattle.cmh_plan.specs.Tickets.{sum_below}
use Rattle.cmh_work.specs.Cutting.{bounds_of, chunks_of, ends_from, concat_chunks}
use Rattle.cmh_rw.proofs.Lawful.{total-append}

-- what two lists of numbers gather together is what the one gathers, and then the other
pub concat_chunks-append : (cs : List (List ℕ)) (a b : List ℕ) → concat_chunks cs (a ++ b)
    ≡ concat_chunks cs a ++ concat_chunks cs b
concat_chunks-append cs [] b = refl
concat_chunks-append cs (x ∷ xs) b = ap (λ l. get_or cs x [] ++ l) (concat_chunks-append cs xs b)
    ∙ sym (append_assoc (get_or cs x []) (concat_chunks cs xs) (concat_chunks cs b))

-- one number more gathers its chunk behind what was gathered
pub gathered_snoc : (cs : List (List ℕ)) (a : List ℕ) (n : ℕ)
    → concat_chunks cs (a ++ n ∷ []) ≡ concat_chunks cs a ++ get_or cs n []
gathered_snoc cs a n = concat_chunks-append cs a (n ∷ [])
    ∙ ap (λ l. concat_chunks cs a ++ l) (append-nil (get_or cs n []))

-- the weight of what is gathered is that of its chunks
total-concat_chunks : (h : ℕ → ℕ) (cs : List (List ℕ)) (ds : List ℕ)
    → total h (concat_chunks cs ds) ≡ total (λ c. total h (get_or cs c [])) ds
total-concat_chunks h cs [] = refl
total-concat_chunks h cs (d ∷ ds) = omega (
  arith,
  total-concat_chunks h cs ds,
  total-append h (get_or cs d []) (concat_chunks cs ds),
)

-- a sum below n + 1 is its first number and the sum of the rest
sum-shift : (f : ℕ → ℕ) (n : ℕ) → sum_below f (suc n) ≡ f 0 + sum_below (λ k. f (suc k)) n
sum-shift f zero = omega arith
sum-shift f (suc n) = let a = sum-shift f n in omega arith

-- the weights of all chunks, added up by their numbers, are the total of the chunks
sum-each : (h : ℕ → ℕ) (cs : List (List ℕ)) → sum_below (λ c. total h (get_or cs c [])) (length cs) ≡ total (total h) cs
sum-each h [] = refl
sum-each h (x ∷ xs) = let a = sum-shift (λ c. total h (get_or (x ∷ xs) c [])) (length xs) in let b =
    sum-each h xs in omega arith

-- a prefix and the rest weigh what the list does
total-parts : (h : ℕ → ℕ) (c : ℕ) (xs : List ℕ) → total h (take c xs) + total h (drop c xs) ≡ total h xs
total-parts h zero xs = omega arith
total-parts h (suc c) [] = refl
total-parts h (suc c) (x ∷ xs) = omega (arith, total-parts h c xs)

-- all chunks weigh what the list does
total-chunks : (h : ℕ → ℕ) (cuts xs : List ℕ) → total (total h) (chunks_of cuts xs) ≡ total h xs
total-chunks h [] xs = omega arith
total-chunks h (c ∷ cs) xs = omega (arith, total-chunks h cs (drop c xs), total-parts h c xs)

-- there is one chunk more than cuts
pub length_chunks : (cuts xs : List ℕ) → length (chunks_of cuts xs) ≡ length cuts + 1
length_chunks [] xs = refl
length_chunks (c ∷ cs) xs = omega (arith, length_chunks cs (drop c xs))

-- what is gathered from each chunk once weighs what the list does
pub gathered_once : (h : ℕ → ℕ) (cuts xs ds : List ℕ) → ((f : ℕ → ℕ) → total f ds ≡ sum_below f (length cuts + 1))
    → total h (concat_chunks (chunks_of cuts xs) ds) ≡ total h xs
gathered_once h cuts xs ds all = let cs = chunks_of cuts xs in
    total-concat_chunks h cs ds ∙ all (λ c. total h (get_or cs c []))
    ∙ ap (sum_below (λ c. total h (get_or cs c []))) (sym (length_chunks cuts xs)) ∙ sum-each h cs
    ∙ total-chunks h cuts xs

-- end to end, the chunks are the list
pub joined_chunks : (cuts xs : List ℕ) → flat_map (λ chunk. chunk) (chunks_of cuts xs) ≡ xs
joined_chunks [] xs = append-nil xs
joined_chunks (c ∷ cs) xs = ap (λ l. take c xs ++ l) (joined_chunks cs (drop c xs)) ∙ take-append-drop c xs

-- a chunk is what lies between its bounds
chunk_between : (cuts xs : List ℕ) (begin n : ℕ) → n ≤ length cuts
    → slice_range xs (get_or (begin ∷ ends_from (length xs) begin cuts) n 0)
    (get_or (ends_from (length xs) begin cuts) n 0)
    ≡ get_or (chunks_of cuts (drop begin xs)) n []
chunk_between [] xs begin zero low = take_rest xs begin
chunk_between [] xs begin (suc n) low = absurd (omega (arith, low))
chunk_between (c ∷ cs) xs begin zero low =
    let size : min (begin + c) (length xs) - begin ≡ min c (length (drop begin xs)) =
    omega (arith, length-drop begin xs) in
    ap (λ k. take k (drop begin xs)) size ∙ take_min c (drop begin xs)
chunk_between (c ∷ cs) xs begin (suc n) low =
    chunk_between cs xs (min (begin + c) (length xs)) n (omega (arith, low))
    ∙ ap (λ ys. get_or (chunks_of cs ys) n []) (drop_min (begin + c) xs ∙ sym (drop-drop c begin xs))

-- there is one end of a chunk more than cuts
length_ends : (size begin : ℕ) (cuts : List ℕ) → length (ends_from size begin cuts) ≡ length cuts + 1
length_ends size begin [] = refl
length_ends size begin (c ∷ cs) = omega (arith, length_ends size (min (begin + c) size) cs)

-- no chunk ends before it begins, nor past the end of the list
bounds_rise : (size begin : ℕ) (cuts : List ℕ) (n : ℕ) → begin ≤ size → n ≤ length cuts
    → (get_or (begin ∷ ends_from size begin cuts) n 0 ≤ get_or (ends_from size begin cuts) n 0)
    × (get_or (ends_from size begin cuts) n 0 ≤ size)
bounds_rise size begin [] zero b low = (b, omega arith)
bounds_rise size begin [] (suc n) b low = absurd (omega (arith, low))
bounds_rise size begin (c ∷ cs) zero b low = (omega (arith, b), omega arith)
bounds_rise size begin (c ∷ cs) (suc n) b low =
    bounds_rise size (min (begin + c) size) cs n (omega arith) (omega (arith, low))

-- a chunk is what lies between its bound and the next
pub chunk_is : (cuts xs bounds : List ℕ) (n : ℕ) → bounds ≡ bounds_of cuts (length xs) → n ≤ length cuts
    → slice_range xs (slice_index bounds n) (slice_index bounds (n + 1)) ≡ get_or (chunks_of cuts xs) n []
chunk_is cuts xs bounds n e low =
    let all = bounds_of cuts (length xs) in
    let Is = λ (b : List ℕ) (k : ℕ).
    slice_range xs (slice_index b n) (slice_index b k) ≡ get_or (chunks_of cuts xs) n [] in
    subst (λ b. Is b (n + 1)) (sym e) (subst (Is all) {x = suc n} (omega arith) (chunk_between cuts xs 0 n low))

-- a chunk's bound and the next are there, the next is no less, and it lies within the list
pub bounds_lie : (cuts bounds : List ℕ) (size n : ℕ) → bounds ≡ bounds_of cuts size → n ≤ length cuts
    → (n + 1 < length bounds) × (slice_index bounds n ≤ slice_index bounds (n + 1))
    × (slice_index bounds (n + 1) ≤ size)
bounds_lie cuts bounds size n e low =
    let all = bounds_of cuts size in
    let Lies = λ (b : List ℕ) (k : ℕ).
    (k < length b) × (slice_index b n ≤ slice_index b k) × (slice_index b k ≤ size) in
    let rise = bounds_rise size 0 cuts n (omega arith) low in
    subst (λ b. Lies b (n + 1)) (sym e)
    (subst (Lies all) {x = suc n} (omega arith) (omega (arith, length_ends size 0 cuts, low), rise.0, rise.1))

-- what holds of a list holds of its chunks
pub all_chunk : (P : ℕ → Type 0) (cuts xs : List ℕ) (n : ℕ) → All P xs → All P (get_or (chunks_of cuts xs) n [])
all_chunk P [] xs zero h = h
all_chunk P [] xs (suc n) h = All-nil P
all_chunk P (c ∷ cs) xs zero h = All-take P c xs h
all_chunk P (c ∷ cs) xs (suc n) h = all_chunk P cs (drop c xs) n (All-drop P c xs h)

-- the idle processes are idle
pub all_idle : (g : Graph) → All (λ p. IsTrue (is_idle g p)) (idle_list g)
all_idle g k d low =
    (filter_contains (is_idle g) (indices g) (get_or (idle_list g) k d)
    (k, low, get_or_default (idle_list g) k (get_or (idle_list g) k d) d low)).1
