-- Postings laid end to end, and what of them a seat has seen.
use Rattle.std.proofs.Common.{◌≡◌, ◌⊎◌, ◌≤◌, true, false, cond, ltb, length, length-append, List, [], ◌∷◌, ◌++◌, drop, get_or, sym, refl, ap, ◌∙◌, subst, arith, append_assoc, append-nil, inl, inr, ⊎_elim}
use Rattle.cmh_rw.specs.declared.row.Row.{Row}
use Rattle.std.proofs.lemmas.Bool.{ltb-true, ltb-false, cond_both}
use Rattle.cmh_rw.specs.History.{rows_in, IsOpen, IsPosting, EndsLast, ArePostings, IsSeen, StartsWith}

-- postings and more postings, laid end to end, are the rows of the one and then of the other
rows_in-append : (xs ys : List (List Row)) → rows_in (xs ++ ys) ≡ rows_in xs ++ rows_in ys
rows_in-append [] ys = refl
rows_in-append (x ∷ xs) ys = ap (λ l. x ++ l) (rows_in-append xs ys) ∙ sym (append_assoc x (rows_in xs) (rows_in ys))

-- postings and one more, laid end to end, are their rows and then the rows of that one
pub rows_in-snoc : (xs : List (List Row)) (x : List Row) → rows_in (xs ++ x ∷ []) ≡ rows_in xs ++ x
rows_in-snoc xs x = rows_in-append xs (x ∷ []) ∙ ap (λ l. rows_in xs ++ l) (append-nil x)

-- postings and one more posting are postings
pub whole-snoc : (xs : List (List Row)) (x : List Row) → ArePostings xs → IsPosting x → ArePostings (xs ++ x ∷ [])
whole-snoc [] x h p = (p, tt)
whole-snoc (y ∷ ys) x h p = (h.0, whole-snoc ys x h.1 p)

-- the history begins with what was seen
pub seen-prefix : (seen : List Row) (postings : List (List Row)) → IsSeen seen postings
    → StartsWith (rows_in postings) seen
seen-prefix seen postings h = (
  rows_in h.1,
  ap rows_in h.2 ∙ rows_in-append h.0 h.1
      ∙ ap (λ l. l ++ rows_in h.1) (sym h.3),
)

-- a seat that has seen the whole history has seen a prefix of its postings
pub all-seen : (postings : List (List Row)) → IsSeen (rows_in postings) postings
all-seen postings = (postings, [], sym (append-nil postings), refl)

-- a seat that has seen nothing has seen a prefix of the postings
pub none-seen : (postings : List (List Row)) → IsSeen [] postings
none-seen postings = ([], postings, refl, refl)

-- what was seen is seen still, with one more posting
pub seen-grows : (seen : List Row) (xs : List (List Row)) (x : List Row) → IsSeen seen xs → IsSeen seen (xs ++ x ∷ [])
seen-grows seen xs x h = (h.0, h.1 ++ x ∷ [], ap (λ l. l ++ x ∷ []) h.2 ∙ append_assoc h.0 h.1 (x ∷ []), h.3)

-- equal lists have equal parts
cons_parts : (x y : List Row) (xs ys : List (List Row)) → x ∷ xs ≡ y ∷ ys → (x ≡ y) × (xs ≡ ys)
cons_parts x y xs ys e = (ap (λ l. get_or l 0 x) e, ap (λ l. drop 1 l) e)

-- of two prefixes of one list, one is a prefix of the other
prefixes : (a c b d : List (List Row)) → a ++ b ≡ c ++ d
    → ((r : List (List Row)) × (c ≡ a ++ r)) ⊎ ((r : List (List Row)) × (a ≡ c ++ r))
prefixes [] c b d e = inl (c, refl)
prefixes (x ∷ xs) [] b d e = inr (x ∷ xs, refl)
prefixes (x ∷ xs) (y ∷ ys) b d e = let parts = cons_parts x y (xs ++ b) (ys ++ d) e in ⊎_elim
    (λ t. inl (t.0, λ k. sym parts.0 k ∷ t.1 k))
    (λ t. inr (t.0, λ k. parts.0 k ∷ t.1 k))
    (prefixes xs ys b d parts.1)

-- of two that have seen one history, what one saw begins what the other saw
pub seen_compare : (postings : List (List Row)) (s t : List Row) → IsSeen s postings → IsSeen t postings
    → StartsWith t s ⊎ StartsWith s t
seen_compare postings s t h g = ⊎_elim
    (λ p. inl (rows_in p.0, g.3 ∙ ap rows_in p.1 ∙ rows_in-append h.0 p.0 ∙ ap (λ l. l ++ rows_in p.0) (sym h.3)))
    (λ p. inr (rows_in p.0, h.3 ∙ ap rows_in p.1 ∙ rows_in-append g.0 p.0 ∙ ap (λ l. l ++ rows_in p.0) (sym g.3)))
    (prefixes h.0 g.0 h.1 g.1 (sym h.2 ∙ g.2))

-- rows begin with themselves
pub starts_same : (xs : List Row) → StartsWith xs xs
starts_same xs = ([], sym (append-nil xs))

-- a list of length 0 is empty
none_left : (rest : List Row) → length rest ≡ 0 → rest ≡ []
none_left [] e = refl
none_left (x ∷ xs) e = absurd (omega arith)

-- of two lists of which one begins the other, the longer begins with both
pub longer_begins : (xs ys : List Row) → StartsWith xs ys ⊎ StartsWith ys xs
    → let longer = cond (ltb (length xs) (length ys)) ys xs in StartsWith longer xs × StartsWith longer ys
longer_begins xs ys starts = let P : List Row → Type 0 = λ l. StartsWith l xs × StartsWith l ys in
    cond_both (ltb (length xs) (length ys)) ys xs P
    (λ less. let lt = ltb-true (length xs) (length ys) less in (
      ⊎_elim (λ (h : StartsWith xs ys). absurd (let e = ap length h.1 in let n = length-append ys h.0 in omega arith))
          (λ h. h) starts,
      starts_same ys,
    ))
    (λ more. (starts_same xs, ⊎_elim (λ h. h) (λ (h : StartsWith ys xs). ([], back h more)) starts))
  where
    back : (h : StartsWith ys xs) → ltb (length xs) (length ys) ≡ false → xs ≡ ys ++ []
    back h more = let e = ap length h.1 in let n = length-append xs h.0 in
        let le : length ys ≤ length xs = ltb-false (length xs) (length ys) more in
        let empty = none_left h.0 (omega arith) in sym (append-nil ys ∙ h.1 ∙ ap (λ l. xs ++ l) empty ∙ append-nil xs)

-- rows of which none is a last one, and one more that isn't, have no last one
open-snoc : (xs : List Row) (r : Row) → IsOpen xs → r.last ≡ false → IsOpen (xs ++ r ∷ [])
open-snoc [] r h e = (e, tt)
open-snoc (x ∷ xs) r h e = (h.0, open-snoc xs r h.1 e)

-- rows of which none is a last one, and one more row, have no last one or are a posting
pub part-snoc : (xs : List Row) (r : Row) → IsOpen xs → (r.last ≡ true) ⊎ (r.last ≡ false)
    → IsOpen (xs ++ r ∷ []) ⊎ IsPosting (xs ++ r ∷ [])
part-snoc xs r h (inl e) = inr (xs, r, refl, h, e)
part-snoc xs r h (inr e) = inl (open-snoc xs r h e)

-- where none of the rows is a last one, the final one isn't
open-last : (xs : List Row) (r : Row) → IsOpen (xs ++ r ∷ []) → r.last ≡ false
open-last [] r h = h.0
open-last (x ∷ xs) r h = open-last xs r h.1

-- rows of which at most the final one is a last one, and which end with a last one, are a posting
pub posting_from : (rows : List Row) → IsOpen rows ⊎ IsPosting rows → EndsLast rows → IsPosting rows
posting_from rows (inl open_rows) ends =
    absurd (let e = open-last ends.0 ends.1 (subst IsOpen ends.2 open_rows) in let f = ends.3 in cc)
posting_from rows (inr posting) ends = posting

-- rows that end with a last one aren't empty
pub ends-some : (rows : List Row) → EndsLast rows → rows ≡ [] → ⊥
ends-some rows ends e = snoc_some ends.0 ends.1 (sym ends.2 ∙ e)
  where
    snoc_some : (xs : List Row) (r : Row) → xs ++ r ∷ [] ≡ [] → ⊥
    snoc_some [] r e = cc
    snoc_some (x ∷ xs) r e = cc
