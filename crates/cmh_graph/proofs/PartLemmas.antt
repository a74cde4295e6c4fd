-- Judging parts: first places, and the rows of a graph that is made of parts.
use Rattle.std.proofs.Common.{◌≡◌, ℕ, Bool, true, false, ◌<◌, ◌≤◌, ◌+◌, ◌⊎◌, ◌↔◌, inl, inr, List, [], map, take, set, length, get_or, refl, sym, ◌∙◌, ap, subst, arith, eqb, eqb-true, eq-eqb}
use Rattle.std.specs.Prelude.{All, Contains}
use Rattle.std.proofs.lemmas.Bool.{cases_eq, cases_lt, cases_order, ne_eqb}
use Rattle.std.proofs.lemmas.List.{get_or-map, get_or-set_same, get_or-set_other, get_or-take, get_or_default, map-set, length-map, length-set, length-take}
use Rattle.std.proofs.lemmas.List.Elements.{Contains-get_or}
use Rattle.cmh_graph.specs.declared.part.Part.{Part}
use Rattle.cmh_graph.specs.declared.fault.GraphFault.TheVariants.{DependentOutOfRange, RepeatedDependent, TransitOutOfRange}
use Rattle.cmh_graph.specs.Build.{process_of, parts_graph, HasGraphFault}
use Rattle.cmh_graph.specs.Graph.{process_count, dependents_of, is_idle, is_idle_state, nobody, IsWithinGraph}
use Rattle.cmh_graph.specs.Judge.{IsFirst, IsFirstDependent, IsRepeat}
use Rattle.cmh_graph.specs.Search.{is_marked}
use Rattle.cmh_graph.proofs.LevelSearch.{marked_within}
use Rattle.cmh_graph.proofs.PositionLemmas.{taken_last, taken_more, taken_stays}

-- ---- first places

-- what holds nowhere before i, and not at i, holds nowhere before i + 1
pub places_more : (P : ℕ → Type 0) (i : ℕ) → ((k : ℕ) → k < i → P k → ⊥) → (P i → ⊥) → (k : ℕ) → k < i + 1 → P k → ⊥
places_more P i before here k l h =
    elim (cases_lt k i) [
      | inl m ↦ before k m h
      | inr m ↦ let same : k ≡ i = omega (arith, m, l) in here (subst P same h)
    ]

-- what holds at i and nowhere before holds first there
pub first_place : (P : ℕ → Type 0) (i : ℕ) → ((k : ℕ) → k < i → P k → ⊥) → P i → IsFirst P i
first_place P i before h = record {
  holds = h;
  first = λ k g. elim (cases_lt k i) [ inl m ↦ absurd (before k m g) | inr m ↦ m ];
}

-- what holds at no dependent of a process before i, nor at one of i, holds at no dependent before i + 1
dependents_more : (P : ℕ → ℕ → Type 0) (i : ℕ) → ((k j : ℕ) → k < i → P k j → ⊥) → ((j : ℕ) → P i j → ⊥) → (k j : ℕ)
    → k < i + 1 → P k j → ⊥
dependents_more P i before here k j l h =
    elim (cases_lt k i) [
      | inl m ↦ before k j m h
      | inr m ↦ let same : k ≡ i = omega (arith, m, l) in here j (subst (λ z. P z j) same h)
    ]

-- what holds at a dependent of i, and nowhere before, holds first there
first_dependent : (P : ℕ → ℕ → Type 0) (i j : ℕ) → ((k l : ℕ) → k < i → P k l → ⊥) → P i j → ((l : ℕ) → P i l → j ≤ l)
    → IsFirstDependent P i j
first_dependent P i j before h least = record {
  holds = h;
  first = λ k l g. elim (cases_order k i) [
    | inl same ↦ inr (sym same, least l (subst (λ z. P z l) same g))
    | inr (inl m) ↦ absurd (before k l m g)
    | inr (inr m) ↦ inl m
  ];
}

-- ---- the rows of a graph that is made of parts

-- the processes are as many as the parts
pub as_many : (parts : List Part) → length (map process_of parts) ≡ length parts
as_many parts = length-map parts process_of

-- the dependents of a process are those of its part
pub row_at : (parts : List Part) (t : List (ℕ × ℕ)) (i : ℕ) (part : Part) → part ≡ get_or parts i part
    → i < length parts → part.dependents.items ≡ dependents_of (parts_graph parts t) i
row_at parts t i part e l =
    ap (λ p. p.dependents.items) e ∙ sym (ap (λ p. p.dependents) (get_or-map process_of parts i part nobody l))

-- a process is idle where its part is
pub idle_at : (parts : List Part) (t : List (ℕ × ℕ)) (i : ℕ) (part : Part) → part ≡ get_or parts i part
    → i < length parts → is_idle_state part.state ≡ is_idle (parts_graph parts t) i
idle_at parts t i part e l = ap (λ p. is_idle_state p.state) e
    ∙ sym (ap (λ p. is_idle_state p.state) (get_or-map process_of parts i part nobody l))

-- ---- dependents out of range

-- a dependent out of range is a dependent of its row that is too large
then_out : (parts : List Part) (i j : ℕ) (row : List ℕ) → row ≡ dependents_of (parts_graph parts []) i
    → HasGraphFault (parts_graph parts []) (DependentOutOfRange i j)
    → (j < length row) × (length parts ≤ get_or row j 0)
then_out parts i j row same h =
    subst (λ r. (j < length r) × (length parts ≤ get_or r j 0)) (sym same) (h.0.1, omega (arith, h.1, as_many parts))

-- where no row before i has a dependent out of range, nor has row i, none before i + 1 has
pub out_more : (parts : List Part) (i : ℕ) (row : List ℕ) → row ≡ dependents_of (parts_graph parts []) i
    → ((k j : ℕ) → k < i → HasGraphFault (parts_graph parts []) (DependentOutOfRange k j) → ⊥)
    → ((j : ℕ) → (j < length row) × (length parts ≤ get_or row j 0) → ⊥) → (k j : ℕ) → k < i + 1
    → HasGraphFault (parts_graph parts []) (DependentOutOfRange k j) → ⊥
out_more parts i row same before none =
    dependents_more (λ k j. HasGraphFault (parts_graph parts []) (DependentOutOfRange k j)) i before
    (λ j h. none j (then_out parts i j row same h))

-- ---- repeats

-- The first n dependents are marked, and none of them equals an earlier one.
pub record SeenUpTo (n : ℕ) (list : List ℕ) (count : ℕ) (seen : List Bool) : Type 0 where
  pub size : length seen ≡ count
  pub marked : (r : ℕ) → is_marked seen r ≡ true → Contains (take n list) r
  seen_is : (r : ℕ) → r < count → Contains (take n list) r → is_marked seen r ≡ true
  pub none : (j : ℕ) → j < n → IsRepeat list j → ⊥

-- which places have the stamp
abbrev pub stamped : ℕ → List ℕ → List Bool
stamped stamp stamps = map (λ s. eqb s stamp) stamps

-- where a stamp is written a place is marked
stamped_written : (stamp : ℕ) (stamps : List ℕ) (r : ℕ)
    → stamped stamp (set stamps r stamp) ≡ set (stamped stamp stamps) r true
stamped_written stamp stamps r =
    map-set (λ s. eqb s stamp) stamps r stamp ∙ ap (λ b. set (stamped stamp stamps) r b) (eq-eqb stamp stamp refl)

-- whether a place is marked, by its stamp
stamped_read : (stamp : ℕ) (stamps : List ℕ) (r : ℕ) → r < length stamps
    → is_marked (stamped stamp stamps) r ≡ eqb (get_or stamps r 0) stamp
stamped_read stamp stamps r l = get_or-map (λ s. eqb s stamp) stamps r 0 false l

-- where a stamp is above all that stand, no dependent is marked by it yet
pub seen_none : (list : List ℕ) (stamp : ℕ) (stamps : List ℕ) → All (λ s. s < stamp) stamps
    → SeenUpTo 0 list (length stamps) (stamped stamp stamps)
seen_none list stamp stamps fresh = record {
  size = length-map stamps (λ s. eqb s stamp);
  marked = λ r m.
      let here : r < length stamps =
      omega (arith, marked_within (stamped stamp stamps) r m, length-map stamps (λ s. eqb s stamp)) in
      let same = eqb-true (get_or stamps r 0) stamp (sym (stamped_read stamp stamps r here) ∙ m) in
      absurd (omega (arith, same, fresh r 0 here));
  seen_is = λ r l c. absurd (omega (arith, c.1));
  none = λ j l h. absurd (omega (arith, l));
}

-- the first n dependents of a list have the dependent at each place before n
contains_taken : (list : List ℕ) (n k : ℕ) → k < n → k < length list → Contains (take n list) (get_or list k 0)
contains_taken list n k l m =
    let size : k < length (take n list) = omega (arith, length-take n list, l, m) in
    subst (λ x. Contains (take n list) x) (get_or-take n list k 0 l) (Contains-get_or (take n list) k 0 size)

-- what the first n dependents of a list have stands at a place before n
taken_at : (list : List ℕ) (n r : ℕ) → Contains (take n list) r
    → (k : ℕ) × (k < n) × (k < length list) × (get_or list k 0 ≡ r)
taken_at list n r c =
    let l : c.0 < n = omega (arith, c.1, length-take n list) in
    let m : c.0 < length list = omega (arith, c.1, length-take n list) in
    (c.0, l, m, sym (get_or-take n list c.0 0 l) ∙ get_or_default (take n list) c.0 0 r c.1 ∙ c.2)

-- a marked dependent is a repeat
seen_repeat : (list : List ℕ) (n count : ℕ) (seen : List Bool) → n < length list → SeenUpTo n list count seen
    → is_marked seen (get_or list n 0) ≡ true → IsRepeat list n
seen_repeat list n count seen l s m =
    let t = taken_at list n (get_or list n 0) (s.marked (get_or list n 0) m) in
    (l, t.0, t.1, t.3)

-- an unmarked dependent is no repeat, and is marked next
pub seen_more : (list : List ℕ) (n count : ℕ) (seen : List Bool) → n < length list → SeenUpTo n list count seen
    → get_or list n 0 < count → is_marked seen (get_or list n 0) ≡ false
    → SeenUpTo (n + 1) list count (set seen (get_or list n 0) true)
seen_more list n count seen l s m f =
    let x = get_or list n 0 in
    let here : is_marked (set seen x true) x ≡ true = get_or-set_same seen x true false (omega (arith, m, s.size)) in
    record {
      size = length-set seen x true ∙ s.size;
      marked = λ r e. elim (cases_eq r x) [
        | inl h ↦ taken_last list n r l h
        | inr h ↦ taken_stays list n r l (s.marked r (sym (get_or-set_other seen x r true false h) ∙ e))
      ];
      seen_is = λ r i c. elim (cases_eq r x) [
        | inl h ↦ ap (is_marked (set seen x true)) h ∙ here
        | inr h ↦ elim (taken_more list n r l c) [
          | inl d ↦ get_or-set_other seen x r true false h ∙ s.seen_is r i d
          | inr d ↦ absurd (h d)
        ]
      ];
      none = λ j i h. elim (cases_lt j n) [
        | inl k ↦ s.none j k h
        | inr k ↦
            let same : j ≡ n = omega (arith, i, k) in
            let before : Contains (take n list) (get_or list h.1 0) =
            contains_taken list n h.1 (omega (arith, h.2, same)) (omega (arith, h.2, h.0)) in
            let equal : get_or list h.1 0 ≡ x = h.3 ∙ ap (λ z. get_or list z 0) same in
            let bad : true ≡ false = sym (s.seen_is x m (subst (λ z. Contains (take n list) z) equal before)) ∙ f in
            absurd cc
      ];
    }

-- where its place has the stamp already, a dependent is a repeat
pub stamp_repeat : (list : List ℕ) (n stamp : ℕ) (stamps : List ℕ) → n < length list → get_or list n 0 < length stamps
    → SeenUpTo n list (length stamps) (stamped stamp stamps) → get_or stamps (get_or list n 0) 0 ≡ stamp
    → IsRepeat list n
stamp_repeat list n stamp stamps l m s e =
    seen_repeat list n (length stamps) (stamped stamp stamps) l s
    (stamped_read stamp stamps (get_or list n 0) m ∙ eq-eqb (get_or stamps (get_or list n 0) 0) stamp e)

-- where its place doesn't have the stamp, a dependent is no repeat, and its place is stamped next
pub stamp_more : (list : List ℕ) (n stamp : ℕ) (stamps : List ℕ) → n < length list → get_or list n 0 < length stamps
    → SeenUpTo n list (length stamps) (stamped stamp stamps) → (get_or stamps (get_or list n 0) 0 ≡ stamp → ⊥)
    → SeenUpTo (n + 1) list (length (set stamps (get_or list n 0) stamp))
    (stamped stamp (set stamps (get_or list n 0) stamp))
stamp_more list n stamp stamps l m s e =
    let x = get_or list n 0 in
    let unmarked = stamped_read stamp stamps x m ∙ ne_eqb (get_or stamps x 0) stamp e in
    subst (λ seen. SeenUpTo (n + 1) list (length (set stamps x stamp)) seen) (sym (stamped_written stamp stamps x))
    (subst (λ k. SeenUpTo (n + 1) list k (set (stamped stamp stamps) x true)) (sym (length-set stamps x stamp))
    (seen_more list n (length stamps) (stamped stamp stamps) l s m unmarked))

-- a repeat of a row is a repeated dependent
repeat_then : (parts : List Part) (i j : ℕ) (row : List ℕ) → row ≡ dependents_of (parts_graph parts []) i
    → i < length parts → IsRepeat row j → HasGraphFault (parts_graph parts []) (RepeatedDependent i j)
repeat_then parts i j row same l a =
    let b = subst (λ r. IsRepeat r j) same a in
    ((omega (arith, l, as_many parts), b.0), b.1, b.2, b.3)

-- a repeated dependent is a repeat of its row
then_repeat : (parts : List Part) (i j : ℕ) (row : List ℕ) → row ≡ dependents_of (parts_graph parts []) i
    → HasGraphFault (parts_graph parts []) (RepeatedDependent i j) → IsRepeat row j
then_repeat parts i j row same h = subst (λ r. IsRepeat r j) (sym same) (h.0.1, h.1, h.2, h.3)

-- where no row before i has a repeat, nor has row i, none before i + 1 has
pub repeat_more : (parts : List Part) (i : ℕ) (row : List ℕ) → row ≡ dependents_of (parts_graph parts []) i
    → ((k j : ℕ) → k < i → HasGraphFault (parts_graph parts []) (RepeatedDependent k j) → ⊥)
    → ((j : ℕ) → IsRepeat row j → ⊥)
    → (k j : ℕ) → k < i + 1 → HasGraphFault (parts_graph parts []) (RepeatedDependent k j) → ⊥
repeat_more parts i row same before none =
    dependents_more (λ k j. HasGraphFault (parts_graph parts []) (RepeatedDependent k j)) i before
    (λ j h. none j (then_repeat parts i j row same h))

-- the first repeat of the first row that has one is the first repeated dependent of the graph
pub repeat_first : (parts : List Part) (i j : ℕ) (row : List ℕ) → row ≡ dependents_of (parts_graph parts []) i
    → i < length parts → ((k j : ℕ) → k < i → HasGraphFault (parts_graph parts []) (RepeatedDependent k j) → ⊥)
    → IsFirst (IsRepeat row) j
    → IsFirstDependent (λ k l. HasGraphFault (parts_graph parts []) (RepeatedDependent k l)) i j
repeat_first parts i j row same l before f =
    first_dependent (λ k l. HasGraphFault (parts_graph parts []) (RepeatedDependent k l)) i j before
    (repeat_then parts i j row same l f.holds) (λ m h. f.first m (then_repeat parts i m row same h))

-- where no row of a part has a repeat, the graph has no repeated dependent
pub repeat_none : (parts : List Part) (n : ℕ) → length parts ≤ n
    → ((k j : ℕ) → k < n → HasGraphFault (parts_graph parts []) (RepeatedDependent k j) → ⊥) → (i j : ℕ)
    → HasGraphFault (parts_graph parts []) (RepeatedDependent i j) → ⊥
repeat_none parts n l before i j h = before i j (omega (arith, h.0.0, as_many parts, l)) h

-- where each dependent is a process of the graph, the dependents of a row are below the number of parts
pub row_within : (parts : List Part) (i : ℕ) (row : List ℕ) → row ≡ dependents_of (parts_graph parts []) i
    → i < length parts → IsWithinGraph (parts_graph parts []) → (k d : ℕ) → k < length row
    → get_or row k d < length parts
row_within parts i row same l w k d m =
    let at : get_or row k 0 ≡ get_or row k d = get_or_default row k 0 d m in
    let b : get_or row k 0 < process_count (parts_graph parts []) =
    subst (λ (r : List ℕ). (k : ℕ) → k < length r → get_or r k 0 < process_count (parts_graph parts [])) (sym same)
    (λ e f. w i e (omega (arith, l, as_many parts), f)) k m in
    omega (arith, at, b, as_many parts)

-- ---- counts and messages

-- where the test for more than a limit fails, the count is within the limit
pub few_dependents : (n m : ℕ) → (false ≡ true) ↔ (m < n) → n ≤ m
few_dependents n m h = elim (cases_lt m n) [
  | inl l ↦ let bad = h.1 l in absurd cc
  | inr l ↦ l
]

-- the first message out of range of the parts is the first out of range of the graph
pub transit_first : (parts : List Part) (t : List (ℕ × ℕ)) (i : ℕ)
    → IsFirst
    (λ k. (k < length t) × ((length parts ≤ (get_or t k (0, 0)).0) ⊎ (length parts ≤ (get_or t k (0, 0)).1))) i
    → IsFirst (λ k. HasGraphFault (parts_graph parts t) (TransitOutOfRange k)) i
transit_first parts t i f =
    subst (λ (n : ℕ). IsFirst (λ k. (k < length t) × ((n ≤ (get_or t k (0, 0)).0) ⊎ (n ≤ (get_or t k (0, 0)).1))) i)
    (sym (as_many parts)) f

-- messages within the parts are within the graph
pub transit_within : (parts : List Part) (t : List (ℕ × ℕ))
    → ((k : ℕ) → k < length t → ((get_or t k (0, 0)).0 < length parts) × ((get_or t k (0, 0)).1 < length parts))
    → (k : ℕ) → k < length t
    → ((get_or t k (0, 0)).0 < process_count (parts_graph parts t))
    × ((get_or t k (0, 0)).1 < process_count (parts_graph parts t))
transit_within parts t h =
    subst (λ (n : ℕ). (k : ℕ) → k < length t → ((get_or t k (0, 0)).0 < n) × ((get_or t k (0, 0)).1 < n))
    (sym (as_many parts)) h
