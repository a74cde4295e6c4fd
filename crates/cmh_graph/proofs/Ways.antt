-- How long the ways out are.
use Rattle.std.proofs.Common.{◌≡◌, ℕ, suc, ◌<◌, true, false, List, [], ◌∷◌, length, refl, sym, ◌∙◌, ap, subst, arith}
use Rattle.std.specs.Prelude.{Contains, Some, None, Option, is_some, ◌↔◌, ◌+◌}
use Rattle.cmh_graph.specs.ChosenPath.{distance_of, chosen_path, IsWayOut, IsDistance}
use Rattle.cmh_graph.specs.Graph.{Graph, IsWithinGraph, is_awake, process_count}
use Rattle.cmh_graph.specs.Path.{IsPath, is_nonempty, paths_to}
use Rattle.cmh_graph.proofs.ChosenPathLemmas.{chosen_is, chosen_length, has_distance, listed_is, length_is, way_out_length}
use Rattle.cmh_graph.proofs.LevelSearch.{near}

-- a list that is not empty has a member
some_member : (xss : List (List ℕ)) → is_nonempty xss ≡ true → (path : List ℕ) × Contains xss path
some_member [] e = absurd cc
some_member (path ∷ xss) e = (path, (0, omega arith, refl))

-- a process at distance n has a way out of n dependencies
way_at : (g : Graph) (p n : ℕ) → distance_of g p ≡ Some n → (path : List ℕ) × IsWayOut g p path × (length path ≡ suc n)
unfolding distance_of
way_at g p n e =
    let some = some_member (paths_to g (is_awake g) n p) (near g (is_awake g) p n e) in
    let l = listed_is g (is_awake g) n p some.0 some.1 in
    (some.0, (l.goal, l.passes, subst (λ z. IsPath g p l.goal z) l.is (refl, l.leads)), length_is g p n some.0 l)

-- a process with a way out has a distance
way_distance : (g : Graph) → IsWithinGraph g → (p : ℕ) (path : List ℕ) → p < process_count g → IsWayOut g p path
    → is_some (distance_of g p) ≡ true
way_distance g w p [] i way = absurd way.2
way_distance g w p (x ∷ rest) i way = has_distance g w p way.0 i rest way.2.1 way.1

-- a distance is one in words
distance_is : (g : Graph) → IsWithinGraph g → (p : ℕ) → p < process_count g → (distance : Option ℕ)
    → distance_of g p ≡ distance → IsDistance g p distance
distance_is g w p i (Some n) e =
    let way = way_at g p n e in
    ((way.0, way.1, omega (arith, way.2)), λ other out. omega (arith, way_out_length g p n other e out))
distance_is g w p i None e =
    λ path way. let bad : true ≡ false = sym (way_distance g w p path i way) ∙ ap is_some e in absurd cc

-- a distance in words is the one that is computed, by cases of the latter
is_distance_by : (g : Graph) → IsWithinGraph g → (p : ℕ) → p < process_count g → (distance found : Option ℕ)
    → IsDistance g p distance → distance_of g p ≡ found → IsDistance g p found → found ≡ distance
is_distance_by g w p i (Some n) (Some m) d e f =
    let same : m ≡ n = omega (arith, d.0.2, f.0.2, d.1 f.0.0 f.0.1, f.1 d.0.0 d.0.1) in
    ap (λ k. Some k) same
is_distance_by g w p i (Some n) None d e f = absurd (f d.0.0 d.0.1)
is_distance_by g w p i None (Some m) d e f = absurd (d f.0.0 f.0.1)
is_distance_by g w p i None None d e f = refl

-- a distance in words is the one that is computed
is_distance : (g : Graph) → IsWithinGraph g → (p : ℕ) → p < process_count g → (distance : Option ℕ)
    → IsDistance g p distance → distance_of g p ≡ distance
is_distance g w p i distance d =
    is_distance_by g w p i distance (distance_of g p) d refl (distance_is g w p i (distance_of g p) refl)

-- the distance is the one that its words say
pub distance_law : (g : Graph) (p : ℕ) (distance : Option ℕ) → IsWithinGraph g → p < process_count g
    → (distance_of g p ≡ distance) ↔ IsDistance g p distance
distance_law = λ g p distance w i. (λ e. distance_is g w p i distance e, λ d. is_distance g w p i distance d)

-- a process with a chosen path has a distance, by cases
length_by : (g : Graph) (p : ℕ) (path : List ℕ) → chosen_path g p ≡ Some path → (distance : Option ℕ)
    → distance_of g p ≡ distance → (n : ℕ) × (distance_of g p ≡ Some n) × (length path ≡ suc n)
unfolding chosen_path
length_by g p path e (Some n) f = (n, f, chosen_length g p n path f (chosen_is g p path e))
length_by g p path e None f = cc

-- the chosen path has one process more than its distance
pub path_length_law : (g : Graph) (p : ℕ) (path : List ℕ) → chosen_path g p ≡ Some path
    → (n : ℕ) × (distance_of g p ≡ Some n) × (length path ≡ n + 1)
path_length_law = λ g p path e. let l = length_by g p path e (distance_of g p) refl in (l.0, l.1, omega (arith, l.2))
