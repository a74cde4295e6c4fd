-- Lines that several threads made, and the text that they are joined to.
use Rattle.std.proofs.Common.{◌≡◌, ℕ, zero, suc, ◌+◌, ◌<◌, List, add-one, [], ◌∷◌, ◌++◌, map, drop, get_or, reverse, take, append_assoc, length, refl, sym, ◌∙◌, ap, subst}
use Rattle.std.specs.Prelude.{All, Contains, Result, Ok, Err, IfOk, IsTrue, MatchResult, flat_map}
use Rattle.std.specs.Borrow.{Bor}
use Rattle.std.specs.Global.{Vec}
use Rattle.std.specs.List.{AllZip}
use Rattle.std.proofs.Math.Seq.{drop-cons, drop-length}
use Rattle.std.proofs.lemmas.List.Concat.{flat_map-append}
use Rattle.std.proofs.lemmas.List.Elements.{All-cons, All-drop, All-nil, All-take}
use Rattle.std.proofs.lemmas.List.Folds.{flat_map-map}
use Rattle.std.proofs.lemmas.List.{get_or_default, reverse-append}
use Rattle.rayon.specs.Lists.{chunks_from, chunks_of}
use Rattle.rayon.proofs.ToStd.{chunks_of-concat}
use Rattle.cmh_graph.specs.Graph.{is_idle, Graph, indices, idle_list}
use Rattle.cmh_graph.specs.Core.{leaders}
use Rattle.cmh_graph.proofs.Verdicts.{filter_contains}
use Rattle.cmh_text.specs.Report.{line, report_text, totals_line, process_line, group_line}
use Rattle.cmh_text.proofs.LineLemmas.{whole_text}

-- the text of each item stands at its place
each_text : {X : Type 0} (E : Type 0) (f : X → List ℕ) (items : List (Bor X)) (texts : List (List ℕ))
    → AllZip (λ (z : Bor X) (t : Result (List ℕ) E). IfOk t (λ s. s ≡ f z.now)) items (map Ok texts)
    → texts ≡ map f (map (λ (z : Bor X). z.now) items)
each_text E f [] [] h = refl
each_text E f [] (t ∷ ts) h = absurd h
each_text E f (z ∷ zs) [] h = absurd h
each_text E f (z ∷ zs) (t ∷ ts) h = λ i. h.0 i ∷ each_text E f zs ts h.1 i

-- what is collected of the texts of a list's items is the text of each, in its place
pub collected : {X : Type 0} (E : Type 0) (f : X → List ℕ) (xs : List X) (items : List (Bor X))
    (made : List (Result (List ℕ) E)) (r : Result (Vec (List ℕ)) E)
    → map (λ (z : Bor X). z.now) items ≡ xs
    → AllZip (λ (z : Bor X) (t : Result (List ℕ) E). IfOk t (λ s. s ≡ f z.now)) items made
    → MatchResult r (λ v. (ts : List (List ℕ)) × (made ≡ map Ok ts) × (v.items ≡ ts))
    (λ e. Contains made (Err e))
    → IfOk r (λ v. v.items ≡ map f xs)
collected {X} E f xs items made (Ok v) shown each all =
    let of_each : List (Result (List ℕ) E) → Type 0 =
    AllZip (λ (z : Bor X) t. IfOk t (λ s. s ≡ f z.now)) items in
    all.2 ∙ each_text E f items all.0 (subst of_each all.1 each) ∙ ap (map f) shown
collected E f xs items made (Err e) shown each all = tt

-- the texts of the pieces of a list are the text of the list
pieces_text : {X : Type 0} (f : X → List ℕ) (pieces : List (List X))
    → flat_map (flat_map f) pieces ≡ flat_map f (flat_map (λ xs. xs) pieces)
pieces_text f [] = refl
pieces_text f (piece ∷ pieces) =
    ap (λ ys. flat_map f piece ++ ys) (pieces_text f pieces)
    ∙ sym (flat_map-append f piece (flat_map (λ xs. xs) pieces))

-- the texts of the pieces that a list is cut into, one after the other, are the text of the list
pub pieces_joined : {X : Type 0} (f : X → List ℕ) (list : List X) (size : ℕ) (texts : List (List ℕ)) → 0 < size
    → texts ≡ map (flat_map f) (chunks_of size list) → flat_map (λ t. t) texts ≡ flat_map f list
pieces_joined f list size texts some same =
    ap (flat_map (λ t. t)) same
    ∙ flat_map-map (λ t. t) (flat_map f) (chunks_of size list)
    ∙ pieces_text f (chunks_of size list)
    ∙ ap (flat_map f) (chunks_of-concat size list some)

-- what all items of a list pass, those of its pieces pass
pub all_pieces : {X : Type 0} (P : X → Type 0) (size : ℕ) (xs : List X) → All P xs → All (All P) (chunks_of size xs)
all_pieces P size xs h = by_fuel P size (length xs) xs h
  where
    by_fuel : {X : Type 0} (P : X → Type 0) (size fuel : ℕ) (xs : List X) → All P xs
        → All (All P) (chunks_from fuel size xs)
    by_fuel P size zero xs h = All-nil (All P)
    by_fuel P size (suc fuel) [] h = All-nil (All P)
    by_fuel P size (suc fuel) (x ∷ xs) h =
        All-cons (All P) (take size (x ∷ xs)) (chunks_from fuel size (drop size (x ∷ xs)))
        (All-take P size (x ∷ xs) h) (by_fuel P size fuel (drop size (x ∷ xs)) (All-drop P size (x ∷ xs) h))

-- each process of the list of the idle ones is idle
pub idle_each : (g : Graph) (list : List ℕ) → list ≡ idle_list g → All (λ p. IsTrue (is_idle g p)) list
idle_each g list is =
    subst (All (λ p. IsTrue (is_idle g p))) (sym is)
    (λ k d l.
    let there : Contains (idle_list g) (get_or (idle_list g) k d) =
    (k, l, get_or_default (idle_list g) k (get_or (idle_list g) k d) d l) in
    (filter_contains (is_idle g) (indices g) (get_or (idle_list g) k d) there).1)

-- the totals and all lines are the report
pub whole_report : (g : Graph) (first text : List ℕ) (processes groups : List (List ℕ))
    → first ≡ line (totals_line g)
    → flat_map (λ t. t) processes ≡ flat_map line (map (process_line g) (idle_list g))
    → flat_map (λ t. t) groups ≡ flat_map line (map (group_line g) (leaders g))
    → text ≡ (first ++ flat_map (λ t. t) processes) ++ flat_map (λ t. t) groups
    → text ≡ report_text g
whole_report g first text processes groups e p q is = is ∙ (λ i. (e i ++ p i) ++ q i) ∙ whole_text g

-- the last text of those that are left goes first
pub last_appended : {X : Type 0} (f : X → List ℕ) (text : List ℕ) (last : X) (old new : List X) → old ≡ new ++ last ∷ []
    → (text ++ f last) ++ flat_map f (reverse new) ≡ text ++ flat_map f (reverse old)
last_appended f text last old new is =
    append_assoc text (f last) (flat_map f (reverse new))
    ∙ ap (λ ys. text ++ flat_map f ys) (sym (ap reverse is ∙ reverse-append new (last ∷ [])))

-- the text of a list from one place on is that of the item there, and that of the list from the next place on
pub text_from : {X : Type 0} (f : X → List ℕ) (xs : List X) (n m : ℕ) (d : X) → n ≡ m + 1 → m < length xs
    → f (get_or xs m d) ++ flat_map f (drop n xs) ≡ flat_map f (drop m xs)
text_from f xs n m d e l =
    ap (λ k. f (get_or xs m d) ++ flat_map f (drop k xs)) (e ∙ add-one m) ∙ ap (flat_map f) (sym (drop-cons xs m d l))

-- from its end on a list has no text
pub no_text_from : {X : Type 0} (f : X → List ℕ) (xs : List X) (n : ℕ) → n ≡ length xs → flat_map f (drop n xs) ≡ []
no_text_from f xs n e = ap (λ k. flat_map f (drop k xs)) e ∙ ap (flat_map f) (drop-length xs)
