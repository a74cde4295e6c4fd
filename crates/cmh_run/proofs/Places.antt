-- Where messages stand in a bag, and that none stands there twice.
use Rattle.cmh_run.proofs.Common.{◌≡◌, ◌≢◌, ℕ, zero, suc, ◌<◌, ◌≤◌, List, [], ◌∷◌, ◌++◌, remove, length, get_or, slice_get, Some, refl, sym, ◌∙◌, arith, inl, inr, ◌⊎◌, eq-eqb, ne_eqb, cases_eq, Message, Graph, process_count, dependents_of, IsWellFormed, Config, proc_at}
use Rattle.std.proofs.lemmas.List.{get_or_default}
use Rattle.cmh_run.proofs.Tally.{tally, contains_from_tally}
use Rattle.cmh_run.proofs.Tokens.{each_at, edge_from, edge_to, token, tokens, tokens-remove}
use Rattle.cmh_run.proofs.LiveInvariant.{IsSoundRun, IsSoundMessage}

-- the message stands somewhere in the list
abbrev pub IsIn : List Message → Message → Type 0
IsIn bag m = (x : ℕ) × (slice_get bag x ≡ Some m)

-- nothing stands in no list
pub in_nothing : (m : Message) → IsIn [] m → ⊥
in_nothing m h = absurd (cc)

-- what stands in a list stands in the list with one more before it
in_rest : (y : Message) (bag : List Message) (m : Message) → IsIn bag m → IsIn (y ∷ bag) m
in_rest y bag m h = (suc h.0, h.1)

-- what stands in a list stands in each list that begins with it
pub in_first : (xs ys : List Message) (m : Message) → IsIn xs m → IsIn (xs ++ ys) m
in_first [] ys m h = absurd (in_nothing m h)
in_first (x ∷ xs) ys m (zero, e) = (zero, e)
in_first (x ∷ xs) ys m (suc k, e) = in_rest x (xs ++ ys) m (in_first xs ys m (k, e))

-- what stands in a list stands in each list that ends with it
pub in_last : (xs ys : List Message) (m : Message) → IsIn ys m → IsIn (xs ++ ys) m
in_last [] ys m h = h
in_last (x ∷ xs) ys m h = in_rest x (xs ++ ys) m (in_last xs ys m h)

-- what stands in two lists together stands in the one or in the other
pub in_either : (xs ys : List Message) (m : Message) → IsIn (xs ++ ys) m → IsIn xs m ⊎ IsIn ys m
in_either [] ys m h = inr h
in_either (x ∷ xs) ys m (zero, e) = inl (zero, e)
in_either (x ∷ xs) ys m (suc k, e) =
    elim (in_either xs ys m (k, e)) [ inl h ↦ inl (in_rest x xs m h) | inr h ↦ inr h ]

-- what is left when place x is taken stood at another place
pub left_was : (bag : List Message) (x : ℕ) (m : Message) → IsIn (remove bag x) m
    → (y : ℕ) × (slice_get bag y ≡ Some m) × (y ≡ x → ⊥)
left_was [] zero m h = absurd (in_nothing m h)
left_was [] (suc x) m h = absurd (in_nothing m h)
left_was (b ∷ bag) zero m h = (suc h.0, h.1, λ e. omega arith)
left_was (b ∷ bag) (suc x) m (zero, e) = (zero, e, λ q. omega arith)
left_was (b ∷ bag) (suc x) m (suc k, e) =
    let rest = left_was bag x m (k, e) in
    (suc rest.0, rest.1, λ q. rest.2 (omega arith))

-- what stands at another place is left when place x is taken
pub was_left : (bag : List Message) (x y : ℕ) (m : Message) → slice_get bag y ≡ Some m → (y ≡ x → ⊥)
    → IsIn (remove bag x) m
was_left [] x y m h w = absurd (cc)
was_left (b ∷ bag) zero zero m h w = absurd (w refl)
was_left (b ∷ bag) zero (suc y) m h w = (y, h)
was_left (b ∷ bag) (suc x) zero m h w = (zero, h)
was_left (b ∷ bag) (suc x) (suc y) m h w = in_rest b (remove bag x) m (was_left bag x y m h (λ e. w (omega arith)))

-- a bag in which nothing stands is empty
pub none_in : (bag : List Message) → ((m : Message) → IsIn bag m → ⊥) → bag ≡ []
none_in [] h = refl
none_in (m ∷ bag) h = absurd (h m (zero, refl))

-- ---- no message twice

-- entries that differ in pairs hold each process at most once
few_of : (q : ℕ) (ds : List ℕ) → ((j k : ℕ) → j < length ds → k < j → get_or ds k 0 ≢ get_or ds j 0) → tally q ds ≤ 1
few_of q [] h = omega arith
few_of q (d ∷ ds) h = elim (cases_eq d q) [
  | inl e ↦
      let none : 0 < tally q ds → ⊥ = λ more.
      let c = contains_from_tally q ds more in
      h (suc c.0) 0 (omega (arith, c.1)) (omega arith) (e ∙ sym (get_or_default ds c.0 0 q c.1 ∙ c.2)) in
      rw (eq-eqb d q e) (omega arith)
  | inr w ↦
      rw (ne_eqb d q w) (omega (arith, few_of q ds (λ j k l m. h (suc j) (suc k) (omega arith) (omega arith))))
]

-- no process is twice a dependent of another
once : (g : Graph) → IsWellFormed g → (p q : ℕ) → p < process_count g → tally q (dependents_of g p) ≤ 1
once g w p q within = few_of q (dependents_of g p) (λ j k l m. w.distinct p j k (within, l) m)

-- two places with one message count two along its dependency
two_places : (n a r : ℕ) (bag : List Message) (x y : ℕ) (m : Message) → (y ≡ x → ⊥) → slice_get bag x ≡ Some m
    → slice_get bag y ≡ Some m → token n a r m ≡ 1 → 2 ≤ tokens n bag a r
two_places n a r bag x y m d there also one =
    let left = was_left bag x y m also d in
    omega (arith, tokens-remove n bag x m a r there, tokens-remove n (remove bag x) left.0 m a r left.1, one)

-- in a run with one start a message stands in the bag at one place
pub one_place : (g : Graph) (i : ℕ) (c : Config) → IsWellFormed g
    → IsSoundRun g i c.number (proc_at c.procs) c.bag c.engaged
    → c.number ≡ 1
    → (x y : ℕ) (m : Message) → slice_get c.bag x ≡ Some m → slice_get c.bag y ≡ Some m → x ≡ y
one_place g i c w L first x y m there also = elim (cases_eq y x) [
  | inl e ↦ sym e
  | inr d ↦
      let fine = each_at (IsSoundMessage g i c.number (proc_at c.procs)) c.bag x m L.fine there in
      let a : ℕ = edge_from m.kind m in
      let r : ℕ = edge_to m.kind m in
      let newest : m.number ≡ c.number = omega (arith, first, fine.low, fine.positive) in
      let one : token c.number a r m ≡ 1 =
      rw (eq-eqb m.number c.number newest, eq-eqb a a refl, eq-eqb r r refl) refl in
      let within : a < process_count g = grind (arith, fine.from_in, fine.to_in) in
      absurd (omega (
        arith,
        two_places c.number a r c.bag x y m d there also one,
        L.held a r,
        L.few a r,
        once g w a r within,
      ))
]
