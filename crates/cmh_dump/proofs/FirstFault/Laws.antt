-- A tree is refused for the first fault of the table that it has, and so are bytes.
use Rattle.std.proofs.Common.{◌≡◌, ℕ, ◌≤◌, List, [], ◌∷◌, length, Bool, true, false, cond, Option, Some, None, Ok, Err, inl, inr, refl, sym, ap, ◌∙◌, subst, arith}
use Rattle.std.specs.Prelude.{◌↔◌, All, IsTrue, find, flat_map, nat_lt, option_map, unwrap_or}
use Rattle.std.specs.Option.{option_map_or, option_or}
use Rattle.std.proofs.lemmas.Bool.{false≢true, ltb-true, ltb-false}
use Rattle.std.proofs.lemmas.List.Elements.{All-nil, All-cons, All-head, All-tail}
use Rattle.std.proofs.lemmas.List.Folds.{find-append}
use Rattle.serde_json.specs.Data.{Data}
use Rattle.cmh_graph.specs.Build.{IsWellFormed}
use Rattle.cmh_graph.specs.Graph.{Graph}
use Rattle.cmh_dump.specs.declared.TheConstants.{MAX_BYTES}
use Rattle.cmh_dump.specs.declared.fault.DumpFault.{DumpFault}
use Rattle.cmh_dump.specs.declared.fault.DumpFault.TheVariants.{TooLong, NotJson}
use Rattle.cmh_dump.specs.Dump.{holds, in_order, first_of, tree_graph, dump_of_tree, tree_of, dump}
use Rattle.cmh_dump.specs.FirstFault.{IsFirstIn, TreeHas, tree_faults, BytesHave, bytes_faults}
use Rattle.cmh_dump.proofs.FirstFault.Bytes.{of_tree}
use Rattle.cmh_dump.proofs.FirstFault.WellFormed.{well_formed}

-- ---- lists

module _ {X : Type 0} (test : X → Bool) where
  -- what a search finds is the first of the list that passes
  find_first : (xs : List X) (x : X) → find test xs ≡ Some x → IsFirstIn xs (λ y. IsTrue (test y)) x
  find_first [] x e = absurd cc
  find_first (y ∷ ys) x e = by (test y) refl e (find_first ys x)
    where
      by : (b : Bool) → test y ≡ b → cond b (Some y) (find test ys) ≡ Some x
          → (find test ys ≡ Some x → IsFirstIn ys (λ z. IsTrue (test z)) x)
          → IsFirstIn (y ∷ ys) (λ z. IsTrue (test z)) x
      by true t e later = let same : x ≡ y = cc in inl (t, same)
      by false t e later = inr (λ h. false≢true (sym t ∙ h), later e)

  -- the first of the list that passes is what a search finds
  first_find : (xs : List X) (x : X) → IsFirstIn xs (λ y. IsTrue (test y)) x → find test xs ≡ Some x
  first_find [] x h = absurd h
  first_find (y ∷ ys) x (inl h) = ap (λ b. cond b (Some y) (find test ys)) h.0 ∙ ap Some (sym h.1)
  first_find (y ∷ ys) x (inr h) = by (test y) h.0 (first_find ys x h.1)
    where
      by : (b : Bool) → ¬ (b ≡ true) → find test ys ≡ Some x → cond b (Some y) (find test ys) ≡ Some x
      by true n e = absurd (n refl)
      by false n e = e

  -- where a search finds none, none passes
  find_none : (xs : List X) → find test xs ≡ None → All (λ y. ¬ (IsTrue (test y))) xs
  find_none [] e = All-nil (λ y. ¬ (IsTrue (test y)))
  find_none (y ∷ ys) e = by (test y) refl e (find_none ys)
    where
      by : (b : Bool) → test y ≡ b → cond b (Some y) (find test ys) ≡ None
          → (find test ys ≡ None → All (λ z. ¬ (IsTrue (test z))) ys) → All (λ z. ¬ (IsTrue (test z))) (y ∷ ys)
      by true t e later = absurd cc
      by false t e later =
          All-cons (λ z. ¬ (IsTrue (test z))) y ys (λ h. false≢true (sym t ∙ h)) (later e)

  -- where none passes, a search finds none
  none_find : (xs : List X) → All (λ y. ¬ (IsTrue (test y))) xs → find test xs ≡ None
  none_find [] h = refl
  none_find (y ∷ ys) h =
      by (test y) (All-head (λ z. ¬ (IsTrue (test z))) y ys h)
      (none_find ys (All-tail (λ z. ¬ (IsTrue (test z))) y ys h))
    where
      by : (b : Bool) → ¬ (b ≡ true) → find test ys ≡ None → cond b (Some y) (find test ys) ≡ None
      by true n e = absurd (n refl)
      by false n e = e

-- the first of lists, one after the other, is the first of the lists joined
first_joined : (test : DumpFault → Bool) (lists : List (List DumpFault))
    → first_of test lists ≡ find test (flat_map (λ kind. kind) lists)
first_joined test [] = refl
first_joined test (xs ∷ rest) =
    ap (option_or (find test xs)) (first_joined test rest) ∙ sym (find-append test xs (flat_map (λ kind. kind) rest))

module _ {X : Type 0} (These Those : X → Type 0) (same : (x : X) → (These x → Those x) × (Those x → These x)) where
  -- the first of these is the first of those where these are those
  first_alike : (xs : List X) (x : X) → IsFirstIn xs These x → IsFirstIn xs Those x
  first_alike [] x h = h
  first_alike (y ∷ ys) x (inl h) = inl ((same y).0 h.0, h.1)
  first_alike (y ∷ ys) x (inr h) = inr (λ t. h.0 ((same y).1 t), first_alike ys x h.1)

-- no tree is none at all
none_and_some : (d : Data) → None ≡ Some d → ⊥
none_and_some d e = cc

-- ---- a tree

-- where the answer is a fault, that fault was found
refused : (o : Option DumpFault) (g : Graph) (fault : DumpFault) → option_map_or Err o (Ok g) ≡ Err fault
    → o ≡ Some fault
refused None g fault e = absurd cc
refused (Some f) g fault e = cc

-- where the answer is a graph, no fault was found, and it is the graph that is answered in that case
accepted : (o : Option DumpFault) (h g : Graph) → option_map_or Err o (Ok h) ≡ Ok g → (o ≡ None) × (g ≡ h)
accepted None h g e = (refl, cc)
accepted (Some f) h g e = absurd cc

-- a tree is refused for the first fault of the table that it has
pub tree_fault_law : (d : Data) (fault : DumpFault)
    → (dump_of_tree d ≡ Err fault) ↔ IsFirstIn (tree_faults d) (TreeHas d) fault
unfolding dump_of_tree
tree_fault_law = λ d fault. (
  λ e. find_first (holds d) (tree_faults d) fault
      (sym (first_joined (holds d) (in_order d)) ∙ refused (first_of (holds d) (in_order d)) (tree_graph d) fault e),
  λ h. ap (λ o. option_map_or Err o (Ok (tree_graph d)))
      (first_joined (holds d) (in_order d) ∙ first_find (holds d) (tree_faults d) fault h),
)

-- a tree without a fault, and no other, means its graph
pub tree_graph_law : (d : Data) (g : Graph)
    → (dump_of_tree d ≡ Ok g) ↔ (All (λ fault. ¬ (TreeHas d fault)) (tree_faults d) × (g ≡ tree_graph d))
unfolding dump_of_tree
tree_graph_law = λ d g. (
  λ e. let a = accepted (first_of (holds d) (in_order d)) (tree_graph d) g e in
      (find_none (holds d) (tree_faults d) (sym (first_joined (holds d) (in_order d)) ∙ a.0), a.1),
  λ h. let none = first_joined (holds d) (in_order d) ∙ none_find (holds d) (tree_faults d) h.0 in
      λ t. option_map_or Err (none t) (Ok (sym h.1 t)),
)

-- the graph that a tree means is well formed
tree_well_formed : (d : Data) (g : Graph) → dump_of_tree d ≡ Ok g → IsWellFormed g
unfolding dump_of_tree
tree_well_formed d g e =
    let a = accepted (first_of (holds d) (in_order d)) (tree_graph d) g e in
    subst IsWellFormed (sym a.1) (well_formed d a.0)

-- ---- bytes

-- what the tree of the bytes has, the bytes have
bytes_have : (bytes : List ℕ) (d : Data) (fault : DumpFault) → tree_of bytes ≡ Some d → TreeHas d fault
    → BytesHave bytes fault
bytes_have bytes d TooLong t h = absurd (false≢true h)
bytes_have bytes d NotJson t h = absurd (false≢true h)
bytes_have bytes d fault t h = (d, t, h)

-- what bytes that are not too long have, their tree has
tree_has : (bytes : List ℕ) (d : Data) (fault : DumpFault) → length bytes ≤ MAX_BYTES → tree_of bytes ≡ Some d
    → BytesHave bytes fault → TreeHas d fault
tree_has bytes d TooLong l t h = absurd (omega (arith, l, h))
tree_has bytes d NotJson l t h = absurd cc
tree_has bytes d fault l t h = let same : h.0 ≡ d = cc in subst (λ e. TreeHas e fault) same h.2

-- the faults of the tree of bytes, where there is one
abbrev rest_of : Option Data → List DumpFault
rest_of tree = option_map_or tree_faults tree []

-- bytes that are refused for a fault have it first
has_first : (bytes : List ℕ) (fault : DumpFault) (long : Bool) → nat_lt MAX_BYTES (length bytes) ≡ long
    → (tree : Option Data) → tree_of bytes ≡ tree → cond long (Err TooLong) (of_tree tree) ≡ Err fault
    → IsFirstIn (bytes_faults bytes) (BytesHave bytes) fault
has_first bytes fault true l tree t e =
    let same : fault ≡ TooLong = cc in inl (ltb-true MAX_BYTES (length bytes) l, same)
has_first bytes fault false l None t e =
    let few = ltb-false MAX_BYTES (length bytes) l in
    let same : fault ≡ NotJson = cc in
    inr (λ h. omega (arith, few, h), inl (t, same))
has_first bytes fault false l (Some d) t e =
    let few = ltb-false MAX_BYTES (length bytes) l in
    let first = first_alike (TreeHas d) (BytesHave bytes)
    (λ f. (bytes_have bytes d f t, tree_has bytes d f few t)) (tree_faults d) fault ((tree_fault_law d fault).0 e) in
    inr (
      λ h. omega (arith, few, h),
      inr (
        λ h. none_and_some d (sym h ∙ t),
        subst (λ o. IsFirstIn (rest_of o) (BytesHave bytes) fault) (sym t) first,
      ),
    )

-- bytes are refused for the fault that they have first
is_refused : (bytes : List ℕ) (fault : DumpFault) (long : Bool) → nat_lt MAX_BYTES (length bytes) ≡ long
    → (tree : Option Data) → tree_of bytes ≡ tree → IsFirstIn (bytes_faults bytes) (BytesHave bytes) fault
    → cond long (Err TooLong) (of_tree tree) ≡ Err fault
is_refused bytes fault true l tree t (inl h) = ap Err (sym h.1)
is_refused bytes fault true l tree t (inr h) = absurd (h.0 (ltb-true MAX_BYTES (length bytes) l))
is_refused bytes fault false l tree t (inl h) =
    let few = ltb-false MAX_BYTES (length bytes) l in absurd (omega (arith, few, h.0))
is_refused bytes fault false l None t (inr (none, inl h)) = ap Err (sym h.1)
is_refused bytes fault false l None t (inr (none, inr h)) = absurd (h.0 t)
is_refused bytes fault false l (Some d) t (inr (none, inl h)) = absurd (none_and_some d (sym h.0 ∙ t))
is_refused bytes fault false l (Some d) t (inr (none, inr h)) =
    let few = ltb-false MAX_BYTES (length bytes) l in
    let first = subst (λ o. IsFirstIn (rest_of o) (BytesHave bytes) fault) t h.1 in
    (tree_fault_law d fault).1 (first_alike (BytesHave bytes) (TreeHas d)
    (λ f. (tree_has bytes d f few t, bytes_have bytes d f t)) (tree_faults d) fault first)

-- bytes are refused for the first fault that they have
pub first_fault_law : (bytes : List ℕ) (fault : DumpFault)
    → (dump bytes ≡ Err fault) ↔ IsFirstIn (bytes_faults bytes) (BytesHave bytes) fault
unfolding dump
first_fault_law = λ bytes fault. (
  λ e. has_first bytes fault (nat_lt MAX_BYTES (length bytes)) refl (tree_of bytes) refl e,
  λ h. is_refused bytes fault (nat_lt MAX_BYTES (length bytes)) refl (tree_of bytes) refl h,
)

-- the bytes don't have the fault
abbrev Lacks : List ℕ → DumpFault → Type 0
Lacks bytes fault = ¬ (BytesHave bytes fault)

-- bytes that mean a graph have no fault, and it is the graph of their tree
has_none : (bytes : List ℕ) (g : Graph) (long : Bool) → nat_lt MAX_BYTES (length bytes) ≡ long → (tree : Option Data)
    → tree_of bytes ≡ tree → cond long (Err TooLong) (of_tree tree) ≡ Ok g
    → All (Lacks bytes) (bytes_faults bytes) × (option_map tree_graph tree ≡ Some g)
has_none bytes g true l tree t e = absurd cc
has_none bytes g false l None t e = absurd cc
has_none bytes g false l (Some d) t e =
    let few = ltb-false MAX_BYTES (length bytes) l in
    let r = (tree_graph_law d g).0 e in
    let of_tree : All (Lacks bytes) (tree_faults d) = λ k x m h. r.0 k x m (tree_has bytes d _ few t h) in (
      All-cons (Lacks bytes) TooLong (NotJson ∷ rest_of (tree_of bytes)) (λ h. omega (arith, few, h))
          (All-cons (Lacks bytes) NotJson (rest_of (tree_of bytes)) (λ h. none_and_some d (sym h ∙ t))
          (subst (λ o. All (Lacks bytes) (rest_of o)) (sym t) of_tree)),
      ap Some (sym r.1),
    )

-- bytes without a fault mean the graph of their tree
is_accepted : (bytes : List ℕ) (g : Graph) (long : Bool) → nat_lt MAX_BYTES (length bytes) ≡ long
    → (tree : Option Data) → tree_of bytes ≡ tree → All (Lacks bytes) (bytes_faults bytes)
    → option_map tree_graph tree ≡ Some g → cond long (Err TooLong) (of_tree tree) ≡ Ok g
is_accepted bytes g true l tree t n h =
    absurd (All-head (Lacks bytes) TooLong (NotJson ∷ rest_of (tree_of bytes)) n (ltb-true MAX_BYTES (length bytes) l))
is_accepted bytes g false l None t n h = absurd cc
is_accepted bytes g false l (Some d) t n h =
    let later =
    All-tail (Lacks bytes) NotJson (rest_of (tree_of bytes))
    (All-tail (Lacks bytes) TooLong (NotJson ∷ rest_of (tree_of bytes)) n) in
    let of_tree = subst (λ o. All (Lacks bytes) (rest_of o)) t later in
    let is : g ≡ tree_graph d = ap (λ o. unwrap_or o g) (sym h) in
    (tree_graph_law d g).1 (λ k x m had. of_tree k x m (bytes_have bytes d _ t had), is)

-- bytes without a fault, and no others, mean the graph of their tree
pub no_fault_law : (bytes : List ℕ) (g : Graph)
    → (dump bytes ≡ Ok g)
    ↔ (All (λ fault. ¬ (BytesHave bytes fault)) (bytes_faults bytes)
    × (option_map tree_graph (tree_of bytes) ≡ Some g))
unfolding dump
no_fault_law = λ bytes g. (
  λ e. has_none bytes g (nat_lt MAX_BYTES (length bytes)) refl (tree_of bytes) refl e,
  λ h. is_accepted bytes g (nat_lt MAX_BYTES (length bytes)) refl (tree_of bytes) refl h.0 h.1,
)

-- the graph that bytes mean is well formed
pub well_formed_law : (bytes : List ℕ) (g : Graph) → dump bytes ≡ Ok g → IsWellFormed g
unfolding dump
well_formed_law = λ bytes g e. by bytes g (nat_lt MAX_BYTES (length bytes)) (tree_of bytes) e
  where
    by : (bytes : List ℕ) (g : Graph) (long : Bool) (tree : Option Data)
        → cond long (Err TooLong) (of_tree tree) ≡ Ok g → IsWellFormed g
    by bytes g true tree e = absurd cc
    by bytes g false None e = absurd cc
    by bytes g false (Some d) e = tree_well_formed d g e
