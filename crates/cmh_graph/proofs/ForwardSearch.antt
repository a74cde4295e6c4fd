-- The search along dependencies.
use Rattle.std.proofs.Common.{◌≡◌, ℕ, ◌<◌, Bool, true, false, inl, inr, List, [], ◌∷◌, ◌++◌, map, length, get_or, refl, set, sym, ◌∙◌, ap, subst, arith, eqb, eqb-true, eq-eqb}
use Rattle.std.specs.Prelude.{Contains, filter}
use Rattle.std.specs.List.{range_with_len}
use Rattle.std.proofs.lemmas.Bool.{cases_Bool, cases_eq}
use Rattle.std.proofs.lemmas.List.{get_or-set_other, get_or-set_same, length-set}
use Rattle.std.proofs.lemmas.List.Elements.{Contains-append_left, Contains-get_or, Contains-push, Contains-push_cases}
use Rattle.std.proofs.lemmas.List.FromFn.{fill_by_all}
use Rattle.cmh_graph.specs.Build.{IsWellFormed}
use Rattle.cmh_graph.specs.Graph.{Graph, Depends, dependents_of, indices, IsWithinGraph, process_count}
use Rattle.cmh_graph.specs.Path.{Leads, Reaches, reach_of, reaches}
use Rattle.cmh_graph.specs.Search.{is_marked, MarksEach, SpreadsFrom}
use Rattle.cmh_graph.proofs.Groups.{reaches_on}
use Rattle.cmh_graph.proofs.IndexLists.{by_index, filter_agree_on, length-by_index}
use Rattle.cmh_graph.proofs.PathLemmas.{cons_contains, index_within, depends_within, reaches_then, then_reaches}
use Rattle.cmh_graph.proofs.PositionLemmas.{waits}
use Rattle.cmh_graph.proofs.LevelSearch.{marked_within}
use Rattle.cmh_graph.proofs.Verdicts.{idle_within, reached_within, reaches_more}

-- at first p alone is marked and pending
pub spreads_alone : (g : Graph) (p : ℕ) (marks : List Bool) → length marks ≡ process_count g → p < process_count g
    → ((q : ℕ) → is_marked marks q ≡ eqb q p) → SpreadsFrom g p marks (p ∷ [])
spreads_alone g p marks size i alone =
    let one : (q : ℕ) → is_marked marks q ≡ true → q ≡ p = λ q m. eqb-true q p (sym (alone q) ∙ m) in
    let start : is_marked marks p ≡ true = alone p ∙ eq-eqb p p refl in
    record {
      size = size;
      start = start;
      sound = λ q m. subst (λ z. Reaches g p z) (sym (one q m)) (p ∷ [], (refl, refl));
      pending_marked = λ q c. elim (cons_contains p [] q c) [
        | inl same ↦ ap (is_marked marks) (sym same) ∙ start
        | inr none ↦ absurd (omega (arith, none.1))
      ];
      closed = λ q m. inl (0, omega arith, sym (one q m));
    }

-- a pending process is one of the graph
pub pending_within : (g : Graph) (p q : ℕ) (marks : List Bool) (pending rest : List ℕ) → SpreadsFrom g p marks pending
    → pending ≡ rest ++ q ∷ [] → q < process_count g
pending_within g p q marks pending rest s e =
    omega (
      arith,
      marked_within marks q (s.pending_marked q (subst (λ xs. Contains xs q) (sym e) (Contains-push rest q))),
      s.size,
    )

-- the dependents of a process are processes of the graph
pub dependents_within : (g : Graph) (q : ℕ) (row : List ℕ) (n : ℕ) → IsWellFormed g → row ≡ dependents_of g q
    → n ≡ process_count g → (k d : ℕ) → k < length row → get_or row k d < n
dependents_within g q row n w e f k d l =
    let r = get_or row k d in
    let depends = waits g q r w (subst (λ xs. Contains xs r) e (Contains-get_or row k d l)) in
    omega (arith, depends_within g w.within q r (idle_within g q depends.0) depends, f)

-- a pending process is taken off, and its dependents are marked
pub spreads_more : (g : Graph) (p q : ℕ) (old new : List Bool) (pending rest after : List ℕ) → IsWellFormed g
    → SpreadsFrom g p old pending → pending ≡ rest ++ q ∷ [] → MarksEach (dependents_of g q) old new rest after
    → SpreadsFrom g p new after
spreads_more g p q old new pending rest after w s e h =
    let was : is_marked old q ≡ true =
    s.pending_marked q (subst (λ xs. Contains xs q) (sym e) (Contains-push rest q)) in
    record {
      size = h.size ∙ s.size;
      start = h.kept p s.start;
      sound = λ r m. elim (h.made r m) [
        | inl o ↦ s.sound r o
        | inr o ↦ reaches_more g p q r (s.sound q was) (waits g q r w o.0)
      ];
      pending_marked = λ r c. elim (h.only r c) [
        | inl d ↦ h.kept r
            (s.pending_marked r (subst (λ xs. Contains xs r) (sym e) (Contains-append_left rest (q ∷ []) r d)))
        | inr m ↦ m
      ];
      closed = λ r m. elim (h.made r m) [
        | inl o ↦ elim (s.closed r o) [
          | inl c ↦ elim (Contains-push_cases rest q r (subst (λ xs. Contains xs r) e c)) [
            | inl d ↦ inl (h.stays r d)
            | inr same ↦ inr (λ t d. h.marked t (subst (λ z. Contains (dependents_of g z) t) (sym same) d.1))
          ]
          | inr all ↦ inr (λ t d. h.kept t (all t d))
        ]
        | inr o ↦ inl o.1
      ];
    }

-- where nothing is pending, what is led to from a marked process is marked
led_marked : (g : Graph) (marks : List Bool)
    → ((q : ℕ) → is_marked marks q ≡ true → (r : ℕ) → Depends g q r → is_marked marks r ≡ true)
    → (p : ℕ) (rest : List ℕ) (q : ℕ) → is_marked marks p ≡ true → Leads g p rest q → is_marked marks q ≡ true
led_marked g marks closed p [] q m e = ap (is_marked marks) (sym e) ∙ m
led_marked g marks closed p (r ∷ rest) q m l = led_marked g marks closed r rest q (closed p m r l.0) l.1

-- where nothing is pending, what p reaches is marked
reached_marked : (g : Graph) (p : ℕ) (marks : List Bool) → SpreadsFrom g p marks [] → (q : ℕ) → Reaches g p q
    → is_marked marks q ≡ true
reached_marked g p marks s q ([], e) = absurd e
reached_marked g p marks s q (x ∷ rest, (e, l)) =
    led_marked g marks
    (λ r m t d. elim (s.closed r m) [
      | inl c ↦ absurd (omega (arith, c.1))
      | inr all ↦ all t d
    ])
    p rest q s.start l

-- where nothing is pending, the marks say what p reaches
pub spreads_end : (g : Graph) (p : ℕ) (marks : List Bool) (pending : List ℕ) → IsWithinGraph g → p < process_count g
    → pending ≡ [] → SpreadsFrom g p marks pending → marks ≡ map (reaches g p) (indices g)
spreads_end g p marks pending w i e s =
    let done = subst (λ xs. SpreadsFrom g p marks xs) e s in
    fill_by_all (reaches g p) marks (process_count g) false s.size
    (λ q l. elim (cases_Bool (reaches g p q)) [
      | inl r ↦ reached_marked g p marks done q (reaches_then g p q r) ∙ sym r
      | inr r ↦ elim (cases_Bool (is_marked marks q)) [
        | inl m ↦ let bad : true ≡ false = sym (then_reaches g p q w i (s.sound q m)) ∙ r in absurd cc
        | inr m ↦ m ∙ sym r
      ]
    ])

-- where the marks say what p reaches, the list of the marked processes is the reach of p
pub reach_listed : (g : Graph) (p : ℕ) (marks : List Bool) → marks ≡ map (reaches g p) (indices g)
    → filter (is_marked marks) (range_with_len 0 (length marks)) ≡ reach_of g p
reach_listed g p marks e =
    let size = ap length e ∙ length-by_index g (reaches g p) in
    ap (λ n. filter (is_marked marks) (range_with_len 0 n)) size
    ∙ filter_agree_on (is_marked marks) (reaches g p) (indices g)
    (λ q c. by_index g (reaches g p) marks q false e (index_within (process_count g) q c))

-- where p reaches q, the search from p may start with what q reaches marked, and p marked and pending
pub spreads_known : (g : Graph) (p q : ℕ) (known : List Bool) → IsWithinGraph g → p < process_count g → Reaches g p q
    → known ≡ map (reaches g q) (indices g) → SpreadsFrom g p (set known p true) (p ∷ [])
spreads_known g p q known w i there is =
    let size : length known ≡ process_count g = ap length is ∙ length-by_index g (reaches g q) in
    let start : is_marked (set known p true) p ≡ true = get_or-set_same known p true false (omega (arith, i, size)) in
    let before : (r : ℕ) → is_marked known r ≡ true → Reaches g q r = λ r m.
    reaches_then g q r
    (sym (by_index g (reaches g q) known r false is (omega (arith, marked_within known r m, size))) ∙ m) in
    let after : (r : ℕ) → Reaches g q r → is_marked known r ≡ true = λ r way.
    let j = reached_by_within g p q r w i there way in
    by_index g (reaches g q) known r false is j.1 ∙ then_reaches g q r w j.0 way in
    record {
      size = length-set known p true ∙ size;
      start = start;
      sound = λ r m. elim (cases_eq r p) [
        | inl same ↦ subst (λ z. Reaches g p z) (sym same) (p ∷ [], (refl, refl))
        | inr other ↦ reaches_on g p q r there (before r (sym (get_or-set_other known p r true false other) ∙ m))
      ];
      pending_marked = λ r c. elim (cons_contains p [] r c) [
        | inl same ↦ ap (is_marked (set known p true)) (sym same) ∙ start
        | inr none ↦ absurd (omega (arith, none.1))
      ];
      closed = λ r m. elim (cases_eq r p) [
        | inl same ↦ inl (0, omega arith, sym same)
        | inr other ↦ inr (λ t d. elim (cases_eq t p) [
          | inl same ↦ ap (is_marked (set known p true)) same ∙ start
          | inr apart ↦
              get_or-set_other known p t true false apart
              ∙ after t (reaches_more g q r t (before r (sym (get_or-set_other known p r true false other) ∙ m)) d)
        ])
      ];
    }
  where
    reached_by_within : (g : Graph) (p q r : ℕ) → IsWithinGraph g → p < process_count g → Reaches g p q → Reaches g q r
        → (q < process_count g) × (r < process_count g)
    reached_by_within g p q r w i there way =
        let j = reached_within g w p q i there in
        (j, reached_within g w q r j way)
