-- Names that are moved out of the trees of processes and into their parts.
use Rattle.std.proofs.Common.{◌≡◌, ℕ, ◌+◌, ◌<◌, List, [], ◌∷◌, ◌++◌, Option, Some, map, length, get_or, set, refl, sym, ap, ◌∙◌, arith}
use Rattle.std.specs.Iterator.{Yields}
use Rattle.std.specs.List.{enumerate_from}
use Rattle.std.proofs.lemmas.Iterator.{YieldsList}
use Rattle.std.proofs.lemmas.Iterator.Consumers.{YieldsList-turn}
use Rattle.std.proofs.lemmas.List.{length-map}
use Rattle.std.proofs.lemmas.List.FromFn.{length-enumerate_from, get_or-enumerate_from}
use Rattle.serde_json.specs.Data.{Data}
use Rattle.cmh_graph.specs.Build.{process_of, parts_graph}
use Rattle.cmh_graph.specs.Graph.{Graph, Process}
use Rattle.cmh_graph.specs.declared.part.Part.{Part}
use Rattle.cmh_dump.specs.Dump.{process_by, tree_graph}
use Rattle.cmh_dump.specs.Entry.{entry_of, names, processes, sites}
use Rattle.cmh_dump.specs.Read.{with_name, with_names, without_name, without_names}
use Rattle.cmh_dump.proofs.Trees.{map-map}

-- ---- a loop over an enumerated list

module _ {X S : Type 0} {steps : S → Option (ℕ × X) → S → Type 0} {s : S} (xs : List X)
    (gives : YieldsList steps (λ p. (p.0, p.1)) s (enumerate_from 0 xs)) where
  -- the number that is yielded next is that of the pairs yielded so far, and a place of the list
  pub place_yielded : (ps : List (ℕ × X)) (t u : S) (p : ℕ × X) → Yields steps s ps t → steps t (Some p) u
      → (p.0 < length xs) × (p.0 ≡ length ps)
  place_yielded ps t u p so_far step =
      let turn = YieldsList-turn gives ps t so_far (Some p) u p refl step in
      let size = length-enumerate_from 0 xs in
      let within : length ps < length xs = omega (arith, size, turn.0) in
      let same = ap (λ q. q.0) (turn.1 ∙ get_or-enumerate_from 0 xs (length ps) p within) in
      (omega (arith, same, within), omega (arith, same))

-- an enumerated list has the elements of the list
elements_stay : {X Y : Type 0} (f : X → Y) (n : ℕ) (xs : List X) → map (λ p. f p.1) (enumerate_from n xs) ≡ map f xs
elements_stay f n [] = refl
elements_stay f n (x ∷ xs) = ap (λ ys. f x ∷ ys) (elements_stay f (n + 1) xs)

-- pairs that are an enumerated list have the elements of the list
pub all_yielded : {X Y : Type 0} (f : X → Y) (ps : List (ℕ × X)) (xs : List X)
    → map (λ p. (p.0, p.1)) ps ≡ enumerate_from 0 xs → map (λ p. f p.1) ps ≡ map f xs
all_yielded f ps xs e =
    map-map (λ p. f p.1) (λ p. (p.0, p.1)) ps ∙ ap (map (λ p. f p.1)) e ∙ elements_stay f 0 xs

-- ---- one name more

-- where the first processes have their names, with the name of the next part one more has its own
next_named : (given : List (List ℕ)) (name : List ℕ) (ps : List Process) (parts : List Part) (d q : Part)
    → map process_of parts ≡ with_names given ps → length given < length parts
    → process_of q ≡ with_name name (process_of (get_or parts (length given) d))
    → map process_of (set parts (length given) q) ≡ with_names (given ++ name ∷ []) ps
next_named given name ps [] d q h lt is = absurd (omega arith)
next_named [] name [] (x ∷ xs) d q h lt is = absurd cc
next_named [] name (p ∷ ps) (x ∷ xs) d q h lt is =
    let first : process_of x ≡ p = cc in
    let rest : map process_of xs ≡ ps = cc in
    λ i. (is ∙ ap (with_name name) first) i ∷ rest i
next_named (n ∷ given) name [] (x ∷ xs) d q h lt is = absurd cc
next_named (n ∷ given) name (p ∷ ps) (x ∷ xs) d q h lt is =
    let first : process_of x ≡ with_name n p = cc in
    let rest : map process_of xs ≡ with_names given ps = cc in
    λ i. first i ∷ next_named given name ps xs d q rest (omega arith) is i

-- the same of the part at place i, where i names are given
pub named_at : (given : List (List ℕ)) (name : List ℕ) (ps : List Process) (parts : List Part) (d q : Part) (i : ℕ)
    → map process_of parts ≡ with_names given ps → i < length parts → i ≡ length given
    → process_of q ≡ with_name name (process_of (get_or parts i d))
    → map process_of (set parts i q) ≡ with_names (given ++ name ∷ []) ps
named_at given name ps parts d q i h lt e is =
    ap (λ n. map process_of (set parts n q)) e
    ∙ next_named given name ps parts d q h (omega arith)
    (is ∙ ap (λ n. with_name name (process_of (get_or parts n d))) e)

-- ---- all names

-- processes without names get theirs back from the trees that they are written in
names_return : (s n : List (List ℕ)) (ts : List Data)
    → with_names (map (λ t. (entry_of t).name) ts) (map without_name (map (process_by s n) (map entry_of ts)))
    ≡ map (process_by s n) (map entry_of ts)
names_return s n [] = refl
names_return s n (t ∷ ts) = ap (λ ps. process_by s n (entry_of t) ∷ ps) (names_return s n ts)

module _ {V : Type 0} (view : V → Data) (d : Data) (vs : List V) (parts : List Part) (messages : List (ℕ × ℕ))
    (seen : map view vs ≡ processes d)
    (made : parts_graph parts messages ≡ without_names (tree_graph d)) where
  -- there are as many trees of processes as parts
  pub as_many : length vs ≡ length parts
  as_many =
      let size = simp length-map at (ap (λ (g : Graph). length g.processes) made) in
      sym (length-map vs view) ∙ ap length seen ∙ sym size

  -- with the names of the trees, the parts and messages make the graph of the tree
  pub whole_graph : (more : List Part)
      → map process_of more ≡ with_names (map (λ v. (entry_of (view v)).name) vs) (map process_of parts)
      → parts_graph more messages ≡ tree_graph d
  whole_graph more moved =
      let given = map-map (λ t. (entry_of t).name) view vs ∙ ap (map (λ t. (entry_of t).name)) seen in
      let all : map process_of more ≡ (tree_graph d).processes =
      moved ∙ (λ i. with_names (given i) (made i).processes) ∙ names_return (sites d) (names d) (processes d) in
      λ i. record { processes = all i; in_transit = (made i).in_transit }
