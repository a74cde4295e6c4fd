-- Counting and checking the messages of a bag.
use Rattle.cmh_run.proofs.Common.{◌≡◌, ℕ, zero, suc, ◌+◌, ◌<◌, Bool, true, ◌&&◌, cond, eqb, List, [], ◌∷◌, ◌++◌, map, remove, length, slice_get, Some, sum_by, refl, subst, arith, ne_eqb, sum_by-remove, sum_by-cons, get_or-set_same, get_or-set_other, slice_get_within, get_or_from_slice_get, Kind, Query, Reply, Message, Proc, new_proc, query, proc_at}
use Rattle.std.proofs.Common.{set}
use Rattle.std.proofs.lemmas.Bool.Decides.{nat_tests}
use std.Path.{fun_ext}
use Rattle.cmh_run.proofs.Tally.{one_if, tally}
use Rattle.cmh_run.proofs.InvariantSteps.{upd}

-- P of each message, by recursion
abbrev pub Each : {X : Type 0} → (X → Type 0) → List X → Type 0
Each P [] = Unit {0}
Each P (x ∷ xs) = P x × Each P xs

-- what is true of each in two lists is true of each in both together
pub each_append : {X : Type 0} (P : X → Type 0) (xs ys : List X) → Each P xs → Each P ys → Each P (xs ++ ys)
each_append P [] ys a b = b
each_append P (x ∷ xs) ys a b = (a.0, each_append P xs ys a.1 b)

-- what is true of each in a list stays true once one is removed
pub each_remove : {X : Type 0} (P : X → Type 0) (n : ℕ) (xs : List X) → Each P xs → Each P (remove xs n)
each_remove P zero [] a = tt
each_remove P (suc n) [] a = tt
each_remove P zero (x ∷ xs) a = a.1
each_remove P (suc n) (x ∷ xs) a = (a.0, each_remove P n xs a.1)

-- what is true of each in a list is true of what stands at a place
pub each_at : {X : Type 0} (P : X → Type 0) (xs : List X) (n : ℕ) (x : X) → Each P xs → slice_get xs n ≡ Some x → P x
each_at P [] n x a e = absurd (cc)
each_at P (y ∷ xs) zero x a e = let same : y ≡ x = cc in subst P same a.0
each_at P (y ∷ xs) (suc n) x a e = each_at P xs n x a.1 e

-- where something is true of each, what follows from it is true of each
pub each_more : {X : Type 0} (P Q : X → Type 0) (xs : List X) → ((x : X) → P x → Q x) → Each P xs → Each Q xs
each_more P Q [] f a = tt
each_more P Q (x ∷ xs) f a = (f x a.0, each_more P Q xs f a.1)

-- the dependency that a message goes along: a reply goes back along it
abbrev pub edge_from : Kind → Message → ℕ
edge_from Query x = x.from
edge_from Reply x = x.to

abbrev pub edge_to : Kind → Message → ℕ
edge_to Query x = x.to
edge_to Reply x = x.from

-- whether it is a message of computation m that goes along the dependency from k to r
abbrev pub is_token : ℕ → ℕ → ℕ → Message → Bool
is_token m k r x = eqb x.number m && (eqb k (edge_from x.kind x) && eqb (edge_to x.kind x) r)

abbrev pub token : ℕ → ℕ → ℕ → Message → ℕ
token m k r x = one_if (is_token m k r x)

abbrev pub tokens : ℕ → List Message → ℕ → ℕ → ℕ
tokens m bag k r = sum_by (token m k r) bag

-- a message of computation m along a dependency has that number and these two ends
pub is_token_parts : (m k r : ℕ) (x : Message) → is_token m k r x ≡ true
    → (x.number ≡ m) × (k ≡ edge_from x.kind x) × (edge_to x.kind x ≡ r)
is_token_parts m k r x h = grind (arith, nat_tests)

-- a message that is taken counts no longer along its dependency
pub tokens-remove : (m : ℕ) (bag : List Message) (n : ℕ) (x : Message) (k r : ℕ) → slice_get bag n ≡ Some x
    → tokens m (remove bag n) k r + token m k r x ≡ tokens m bag k r
tokens-remove m bag n x k r e =
    rw (get_or_from_slice_get bag n x x e) at (sum_by-remove (token m k r) bag n x (slice_get_within bag n x e))

-- queries from a count along its dependency on r as often as they go to r, and along no others
pub tokens-queries : (i m n a k r : ℕ) (ds : List ℕ)
    → tokens m (map (λ (y : ℕ). query i n a y) ds) k r ≡ cond (eqb n m && eqb k a) (tally r ds) 0
tokens-queries i m n a k r [] = grind arith
tokens-queries i m n a k r (d ∷ ds) = rw sum_by-cons (grind (arith, nat_tests, tokens-queries i m n a k r ds))

-- messages with other numbers count nothing in computation m
pub tokens-old : (m : ℕ) (k r : ℕ) (xs : List Message) → Each (λ x. x.number ≡ m → ⊥) xs → tokens m xs k r ≡ 0
tokens-old m k r [] a = refl
tokens-old m k r (x ∷ xs) a = rw (sum_by-cons, ne_eqb x.number m a.0) (omega (arith, tokens-old m k r xs a.1))

-- the processes of a list with p at place k are those of the list with process k changed to p
pub set_is : (procs : List Proc) (k : ℕ) (p : Proc) → k < length procs
    → ◌≡◌ {A = ℕ → Proc} (proc_at (set procs k p)) (upd (proc_at procs) k p)
set_is procs k p h = fun_ext
    (λ x. grind (arith, nat_tests, get_or-set_same procs k p new_proc h, get_or-set_other procs k x p new_proc))
