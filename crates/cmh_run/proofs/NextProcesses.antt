-- Where the chosen path of a process leads next.
use Rattle.cmh_run.proofs.Common.{◌≡◌, ◌∙◌, ℕ, ◌+◌, ◌<◌, List, [], ◌∷◌, ◌++◌, get_or, length, map, arith, refl, sym, ap, true≢false, unwrap_or, IsWellFormed, chosen_path, distance_of, dependents_of, Graph, process_count, IsWithinGraph, IsDeadlocked, by_index}
use Rattle.std.proofs.lemmas.Option.{slice_get_past}
use Rattle.std.specs.Prelude.{slice_get, IsSome, None, Option, Some}
use Rattle.cmh_graph.specs.ChosenPath.{IsChosenPath}
use Rattle.cmh_graph.specs.Graph.{indices}
use Rattle.cmh_graph.specs.Search.{IsLeastAt}
use Rattle.cmh_graph.proofs.ChosenPathLemmas.{chosen_is, chosen_length, chosen_path_law, leads_on, leads_start, nearest_some, way_out}
use Rattle.cmh_graph.proofs.Ways.{distance_law, path_length_law}

-- an option that is there is of what it has
pub some_of : {X : Type 0} (o : Option X) (d : X) → IsSome o → o ≡ Some (unwrap_or o d)
some_of (Some x) d s = refl
some_of None d s = cc

-- a process with a distance has a chosen path
far_chosen : (g : Graph) (p n : ℕ) → IsWithinGraph g → p < process_count g → distance_of g p ≡ Some n
    → chosen_path g p ≡ Some (unwrap_or (chosen_path g p) [])
far_chosen g p n w i e =
    let out = ((distance_law g p (Some n) w i).0 e).0 in
    some_of (chosen_path g p) []
    (way_out g p (chosen_path g p) w i
    (λ (dead : IsDeadlocked g p). true≢false (sym out.1.1 ∙ dead.1 out.1.0 (out.0, out.1.2))) refl)

-- at distance 0 no process comes after this one
pub next_none : (g : Graph) (p n : ℕ) (path : List ℕ) → distance_of g p ≡ Some n → n ≡ 0 → chosen_path g p ≡ Some path
    → None ≡ slice_get path 1
next_none g p n path e zero is =
    sym (slice_get_past path 1
    (omega (arith, zero, chosen_length g p n path e (chosen_is g p path is))))

-- what follows one process, and begins with q, has q at its second place
second_is : (p q : ℕ) (front rest : List ℕ) → front ++ q ∷ [] ≡ p ∷ q ∷ [] → slice_get rest 0 ≡ Some q
    → slice_get (front ++ rest) 1 ≡ Some q
second_is p q [] rest e first = absurd (cc)
second_is p q (x ∷ []) rest e first = first
second_is p q (x ∷ y ∷ []) rest e first = absurd (cc)
second_is p q (x ∷ y ∷ z ∷ front) rest e first = absurd (cc)

-- a chosen path begins with its process
first_is : (g : Graph) (q : ℕ) (path : List ℕ) → IsChosenPath g q path → slice_get path 0 ≡ Some q
first_is g q [] c = absurd c.awake.2
first_is g q (x ∷ rest) c = ap Some c.awake.2.0

-- at distance m + 1 the least of the dependents that are at distance m comes after the process
pub next_some : (g : Graph) (p m n : ℕ) (row path : List ℕ) (distances : List (Option ℕ)) (o : Option ℕ)
    → IsWellFormed g → p < process_count g → distance_of g p ≡ Some n → n ≡ m + 1 → row ≡ dependents_of g p
    → distances ≡ map (distance_of g) (indices g) → IsLeastAt m row distances o → chosen_path g p ≡ Some path
    → o ≡ slice_get path 1
next_some g p m n row path distances None w i e far f are least is =
    absurd (true≢false (sym (nearest_some g p m row distances None w i (e ∙ ap Some far) f are least)))
next_some g p m n row path distances (Some q) w i e far f are least is =
    let start = leads_start g p n (p ∷ []) distances (distance_of g p) i are
    (sym (by_index g (distance_of g) distances p (distance_of g p) are i)) e refl in
    let on = leads_on g p n m p q (p ∷ []) row distances w start (omega arith) f are least in
    let rest = unwrap_or (chosen_path g q) [] in
    let chosen = chosen_is g q rest (far_chosen g q m w.within on.within on.distance) in
    let whole = (chosen_path_law g p (on.front ++ rest) w.within i).1 (on.completes rest chosen) in
    let second = second_is p q on.front rest (sym on.is) (first_is g q rest chosen) in
    cc

-- a distance that is read is that of the process
pub distance_at : (g : Graph) (p n : ℕ) (distances : List (Option ℕ)) (d : Option ℕ)
    → distances ≡ map (distance_of g) (indices g) → p < process_count g → get_or distances p d ≡ Some n
    → distance_of g p ≡ Some n
distance_at g p n distances d are i read = sym (by_index g (distance_of g) distances p d are i) ∙ read

-- a process with a chosen path has a distance, and is one more process away than that
pub path_far : (g : Graph) (p : ℕ) (distances : List (Option ℕ)) (d : Option ℕ) (path : List ℕ)
    → distances ≡ map (distance_of g) (indices g) → p < process_count g → chosen_path g p ≡ Some path
    → IsSome (get_or distances p d) × ((n : ℕ) → get_or distances p d ≡ Some n → n + 1 ≡ length path)
path_far g p distances d path are i is =
    let far = path_length_law g p path is in
    let read = by_index g (distance_of g) distances p d are i ∙ far.1 in
    (rw read refl, λ n e. grind (arith, far.2, read, e))
