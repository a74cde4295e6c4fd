-- Chosen paths.
use Rattle.std.proofs.Common.{◌≡◌, ℕ, zero, suc, ◌<◌, Bool, true, false, List, [], ◌∷◌, drop, get_or, length, arith, refl, sym, subst}
use Rattle.std.specs.Ordering.{nat_cmp, is_lt}
use Rattle.std.specs.Cmp.{nat_cmp_is}
use Rattle.std.specs.Cmp.Lexicographic.{slice_cmp}
use Rattle.std.specs.Prelude.{All, Some}
use Rattle.std.specs.declared.cmp.Ordering.TheVariants.{Equal}
use Rattle.cmh_graph.specs.ChosenPath.{chosen_path, IsWayOut}
use Rattle.cmh_graph.specs.Graph.{Depends, Graph, process_count, IsWithinGraph}
use Rattle.cmh_graph.specs.Path.{Leads}
use Rattle.cmh_graph.proofs.ChosenPathLemmas.{chosen_path_law}
use Rattle.cmh_graph.proofs.PathLemmas.{AllBelow, depends_within, within}

-- the two ways to say that all are below the bound agree
all_below : (n : ℕ) (xs : List ℕ) → AllBelow n xs → All (λ q. q < n) xs
all_below n [] a k d l = absurd (omega arith)
all_below n (x ∷ xs) a zero d l = a.0
all_below n (x ∷ xs) a (suc k) d l = all_below n xs a.1 k d (omega arith)

-- a way out goes along processes of the graph
way_within : (g : Graph) (p : ℕ) (path : List ℕ) → IsWithinGraph g → p < process_count g → IsWayOut g p path
    → All (λ q. q < process_count g) path
way_within g p [] w i (q, awake, e) = absurd e
way_within g p (x ∷ rest) w i (q, awake, (e, leads)) =
    subst (λ y. All (λ q. q < process_count g) (y ∷ rest)) (sym e)
    (all_below (process_count g) (p ∷ rest) (within g w p rest q i leads))

-- a chosen path goes along processes of the graph
pub path_within : (g : Graph) (p : ℕ) (path : List ℕ) → IsWithinGraph g → p < process_count g
    → chosen_path g p ≡ Some path → All (λ q. q < process_count g) path
path_within g p path w i e = way_within g p path w i ((chosen_path_law g p path w i).0 e).awake

-- a test doesn't pass and fail
pub not_both : (b : Bool) → b ≡ true → b ≡ false → ⊥
not_both true e f = cc
not_both false e f = cc

-- ---- the rest of a chosen path

-- a way out of a dependency of p, after p, is a way out of p
way_on : (g : Graph) (p q : ℕ) (other : List ℕ) → Depends g p q → IsWayOut g q other → IsWayOut g p (p ∷ other)
way_on g p q [] d (z, awake, e) = absurd e
way_on g p q (y ∷ rest) d (z, awake, (e, leads)) =
    (z, awake, (refl, (subst (λ r. Depends g p r) (sym e) d, subst (λ r. Leads g r rest z) (sym e) leads)))

-- lists that begin alike compare as what follows
less_on : (p : ℕ) (xs ys : List ℕ) → is_lt (slice_cmp nat_cmp (p ∷ xs) (p ∷ ys)) ≡ false
    → is_lt (slice_cmp nat_cmp xs ys) ≡ false
less_on p xs ys e = rw (sym (nat_cmp_is p p Equal refl)) at e

-- what follows p on its chosen path is the chosen path of the next process
pub chosen_rest : (g : Graph) (p q : ℕ) (rest : List ℕ) → IsWithinGraph g → p < process_count g
    → chosen_path g p ≡ Some (p ∷ q ∷ rest)
    → (q < process_count g) × (chosen_path g q ≡ Some (q ∷ rest))
chosen_rest g p q rest w i e =
    let c = (chosen_path_law g p (p ∷ q ∷ rest) w i).0 e in
    let d : Depends g p q = c.awake.2.1.0 in
    let j = depends_within g w p q i d in (
      j,
      (chosen_path_law g q (q ∷ rest) w j).1 (record {
        awake = (c.awake.0, c.awake.1, (refl, c.awake.2.1.1));
        shortest = λ other o. omega (arith, c.shortest (p ∷ other) (way_on g p q other d o));
        least = λ other o same.
            less_on p other (q ∷ rest) (c.least (p ∷ other) (way_on g p q other d o) (omega (arith, same)));
      }),
    )

-- a chosen path begins with its process
pub chosen_first : (g : Graph) (p x : ℕ) (rest : List ℕ) → IsWithinGraph g → p < process_count g
    → chosen_path g p ≡ Some (x ∷ rest) → x ≡ p
chosen_first g p x rest w i e = ((chosen_path_law g p (x ∷ rest) w i).0 e).awake.2.0

-- from each of its processes on, a chosen path is the chosen path of that one
pub chosen_from : (g : Graph) (n p : ℕ) (path : List ℕ) → IsWithinGraph g → p < process_count g
    → chosen_path g p ≡ Some path → n < length path
    → (get_or path n 0 < process_count g) × (chosen_path g (get_or path n 0) ≡ Some (drop n path))
chosen_from g n p [] w i e l = absurd (omega (arith, l))
chosen_from g zero p (x ∷ rest) w i e l =
    subst (λ r. (r < process_count g) × (chosen_path g r ≡ Some (x ∷ rest))) (sym (chosen_first g p x rest w i e))
    (i, e)
chosen_from g (suc n) p (x ∷ []) w i e l = absurd (omega (arith, l))
chosen_from g (suc n) p (x ∷ q ∷ rest) w i e l =
    let next = chosen_rest g p q rest w i
    (subst (λ r. chosen_path g p ≡ Some (r ∷ q ∷ rest)) (chosen_first g p x (q ∷ rest) w i e) e) in
    chosen_from g n q (q ∷ rest) w next.0 next.1 (omega (arith, l))
