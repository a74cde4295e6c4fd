-- Sites that are counted by marks.
use Rattle.std.proofs.Common.{◌≡◌, ℕ, zero, suc, ◌+◌, ◌<◌, Bool, true, false, ◌||◌, not, cond, inl, inr, List, [], ◌∷◌, ◌++◌, map, length, get_or, drop, take, set, replicate, refl, sym, ◌∙◌, ap, arith, eqb, eqb-true, eq-eqb, length-append}
use Rattle.std.specs.Prelude.{All, nat_eq}
use Rattle.std.specs.Set.{is_member, distinct_count}
use Rattle.std.specs.List.{IsDistinct, list_any}
use Rattle.std.specs.Cmp.{nat_eq_equiv}
use Rattle.std.proofs.lemmas.Bool.{cases_eq, or_right, false_from_ne_true}
use Rattle.std.proofs.lemmas.List.{get_or-set_other, get_or-set_same, length-replicate, length-set, map-append, take-append-drop, take_more}
use Rattle.std.proofs.lemmas.List.Elements.{All-head, All-tail}
use Rattle.std.proofs.lemmas.List.Folds.{list_any-append}
use Rattle.std.proofs.lemmas.List.Sums.{sum_by-cons}
use Rattle.std.proofs.lemmas.Map.Keys.{IsDistinct-push}
use Rattle.std.proofs.lemmas.Map.Made.{length-from_keys}
use Rattle.cmh_graph.specs.Search.{is_marked, unmarked_count}
use Rattle.cmh_graph.proofs.AwakeLemmas.{or_none}
use Rattle.cmh_graph.proofs.Groups.{same_test}
use Rattle.cmh_graph.proofs.PositionLemmas.{count_marked}

-- The sites are those of the list `all`, each once, and they alone are marked.
pub record AreSeen (bound : ℕ) (seen : List Bool) (sites all : List ℕ) : Type 0 where
  pub size : length seen ≡ bound
  pub distinct : IsDistinct nat_eq sites
  pub same : (s : ℕ) → is_member nat_eq sites s ≡ is_member nat_eq all s
  pub marked : (s : ℕ) → is_marked seen s ≡ is_member nat_eq sites s
  pub count : unmarked_count seen + length sites ≡ bound

-- in a list without a mark no place is marked
none_marked : (n s : ℕ) → is_marked (replicate n false) s ≡ false
none_marked zero s = refl
none_marked (suc n) zero = refl
none_marked (suc n) (suc s) = none_marked n s

-- in a list of n places without a mark n places are unmarked
none_counted : (n : ℕ) → unmarked_count (replicate n false) ≡ n
none_counted zero = refl
none_counted (suc n) =
    sum_by-cons (λ mark. cond {A = ℕ} (not mark) 1 0) false (replicate n false) ∙ omega (arith, none_counted n)

-- where no place is unmarked each is marked
all_marked : (marks : List Bool) (s : ℕ) → unmarked_count marks ≡ 0 → s < length marks → is_marked marks s ≡ true
all_marked [] s e l = absurd (omega (arith, l))
all_marked (false ∷ marks) s e l =
    absurd (omega (arith, e, sum_by-cons (λ mark. cond {A = ℕ} (not mark) 1 0) false marks))
all_marked (true ∷ marks) zero e l = refl
all_marked (true ∷ marks) (suc s) e l =
    all_marked marks s (omega (arith, e, sum_by-cons (λ mark. cond {A = ℕ} (not mark) 1 0) true marks))
    (omega (arith, l))

-- at first no site is seen
pub seen_none : (bound : ℕ) (seen : List Bool) → seen ≡ replicate bound false → AreSeen bound seen [] []
unfolding IsDistinct
seen_none bound seen is = record {
  size = ap length is ∙ length-replicate bound false;
  distinct = tt;
  same = λ s. refl;
  marked = λ s. ap (λ ms. is_marked ms s) is ∙ none_marked bound s;
  count = omega (arith, ap unmarked_count is, none_counted bound);
}

-- a site is in a list with one more where it was in the list or is that one
member_push : (xs : List ℕ) (x s : ℕ) → is_member nat_eq (xs ++ x ∷ []) s ≡ (is_member nat_eq xs s || nat_eq s x)
member_push xs x s =
    list_any-append (nat_eq s) xs (x ∷ []) ∙ ap (λ b. list_any (nat_eq s) xs || b) (or_none (nat_eq s x))

-- where the second of two parts implies the first, the first says what both say
or_known : (a b : Bool) → (b ≡ true → a ≡ true) → a ≡ (a || b)
or_known true b h = refl
or_known false true h = h refl
or_known false false h = refl

-- with a site more that is marked already, the same sites are seen
pub seen_again : (bound : ℕ) (seen : List Bool) (sites all : List ℕ) (x : ℕ) → AreSeen bound seen sites all
    → is_marked seen x ≡ true → AreSeen bound seen sites (all ++ x ∷ [])
seen_again bound seen sites all x h m = record {
  size = h.size;
  distinct = h.distinct;
  same = λ s.
      or_known (is_member nat_eq sites s) (nat_eq s x)
      (λ e. ap (is_member nat_eq sites) (eqb-true s x e) ∙ sym (h.marked x) ∙ m)
      ∙ ap (λ b. b || nat_eq s x) (h.same s) ∙ sym (member_push all x s);
  marked = h.marked;
  count = h.count;
}

-- with a site more that wasn't marked, it is seen too once it is marked
pub seen_more : (bound : ℕ) (seen : List Bool) (sites all : List ℕ) (x : ℕ) → AreSeen bound seen sites all → x < bound
    → is_marked seen x ≡ false → AreSeen bound (set seen x true) (sites ++ x ∷ []) (all ++ x ∷ [])
seen_more bound seen sites all x h l m = record {
  size = length-set seen x true ∙ h.size;
  distinct = IsDistinct-push nat_eq_equiv sites x h.distinct (sym (h.marked x) ∙ m);
  same = λ s. member_push sites x s ∙ ap (λ b. b || nat_eq s x) (h.same s) ∙ sym (member_push all x s);
  marked = λ s. elim (cases_eq s x) [
    | inl is ↦
        ap (is_marked (set seen x true)) is
        ∙ get_or-set_same seen x true false (omega (arith, l, h.size))
        ∙ sym (member_push sites x s ∙ or_right (is_member nat_eq sites s) (nat_eq s x) (eq-eqb s x is))
    | inr other ↦
        get_or-set_other seen x s true false other
        ∙ h.marked s
        ∙ sym (member_push sites x s
        ∙ ap (λ b. is_member nat_eq sites s || b) (false_from_ne_true (eqb s x) (λ e. other (eqb-true s x e)))
        ∙ or_none (is_member nat_eq sites s))
  ];
  count = omega (
    arith,
    count_marked seen x (omega (arith, l, h.size)) m,
    length-append sites (x ∷ []),
    h.count,
  );
}

-- the sites of the first processes and of one more are theirs, and then its site
pub sites_more : (site : ℕ → ℕ) (list : List ℕ) (i : ℕ) → i < length list
    → map site (take (i + 1) list) ≡ map site (take i list) ++ site (get_or list i 0) ∷ []
sites_more site list i l = ap (map site) (take_more list i 0 l) ∙ map-append site (take i list) (get_or list i 0 ∷ [])

-- a site of the first processes is one of all
member_front : (site : ℕ → ℕ) (list : List ℕ) (i s : ℕ) → is_member nat_eq (map site (take i list)) s ≡ true
    → is_member nat_eq (map site list) s ≡ true
member_front site list i s e =
    ap (λ ps. is_member nat_eq (map site ps) s) (sym (take-append-drop i list))
    ∙ ap (λ xs. is_member nat_eq xs s) (map-append site (take i list) (drop i list))
    ∙ list_any-append (nat_eq s) (map site (take i list)) (map site (drop i list))
    ∙ ap (λ b. b || list_any (nat_eq s) (map site (drop i list))) e

-- the site of each process is below the bound
member_below : (site : ℕ → ℕ) (bound : ℕ) (list : List ℕ) → All (λ p. site p < bound) list → (s : ℕ)
    → is_member nat_eq (map site list) s ≡ true → s < bound
member_below site bound [] h s e = absurd cc
member_below site bound (p ∷ ps) h s e =
    first (eqb s (site p)) refl e (All-head (λ q. site q < bound) p ps h)
    (member_below site bound ps (All-tail (λ q. site q < bound) p ps h) s)
  where
    first : (b : Bool) → eqb s (site p) ≡ b → (b || is_member nat_eq (map site ps) s) ≡ true → site p < bound
        → (is_member nat_eq (map site ps) s ≡ true → s < bound) → s < bound
    first true same e low rest = omega (arith, eqb-true s (site p) same, low)
    first false same e low rest = rest e

-- where as many sites are seen as there may be, they are those of all
pub seen_all : (site : ℕ → ℕ) (bound : ℕ) (seen : List Bool) (sites list : List ℕ) (i : ℕ)
    → AreSeen bound seen sites (map site (take i list)) → length sites ≡ bound → All (λ p. site p < bound) list
    → length sites ≡ distinct_count nat_eq (map site list)
seen_all site bound seen sites list i h full below =
    length-from_keys nat_eq_equiv sites (map site list) h.distinct
    (λ s.
    same_test (is_member nat_eq sites s) (is_member nat_eq (map site list) s)
    (λ e. member_front site list i s (sym (h.same s) ∙ e))
    (λ e.
    sym (h.marked s)
    ∙ all_marked seen s (omega (arith, h.count, full))
    (omega (arith, member_below site bound list below s e, h.size))))
