-- A leader that waits for nobody.
use Rattle.std.proofs.Common.{◌≡◌, ℕ, ◌<◌, cond, inl, inr, [], ◌∷◌, List, true, not, refl, sym, ◌∙◌, ap, subst, arith}
use Rattle.std.specs.Fmt.{digits}
use Rattle.std.specs.Prelude.{Contains, codes, decimal, filter}
use Rattle.std.proofs.lemmas.List.Kept.{AllPairs-from_increasing}
use Rattle.cmh_graph.specs.Core.{core_of, group_number, rest_of}
use Rattle.cmh_graph.specs.Graph.{Graph, dependents_of, name_of, process_count, IsWithinGraph}
use Rattle.cmh_graph.specs.Path.{reach_of, reaches, Reaches}
use Rattle.cmh_graph.proofs.Groups.{rising_law}
use Rattle.cmh_graph.proofs.PathLemmas.{cons_contains, contains_first, then_reaches}
use Rattle.cmh_text.specs.Report.{group_line, site_count}
use Rattle.cmh_text.proofs.Beyond.{listed_reached, reached_listed, same_rising}
use Rattle.cmh_text.proofs.LineLemmas.{group_words}

-- from a process without dependents it alone is reached
itself_reached : (g : Graph) (p q : ℕ) → dependents_of g p ≡ [] → Reaches g p q → q ≡ p
itself_reached g p q none ([], e) = absurd e
itself_reached g p q none (x ∷ [], (e, l)) = sym l
itself_reached g p q none (x ∷ r ∷ rest, (e, l)) =
    let c = subst (λ xs. Contains xs r) none l.0.1 in absurd (omega (arith, c.1))

-- a process reaches itself
itself : (g : Graph) (p : ℕ) → IsWithinGraph g → p < process_count g → reaches g p p ≡ true
itself g p w i = then_reaches g p p w i (p ∷ [], (refl, refl))

-- a process without dependents reaches itself alone
reach_itself : (g : Graph) (p : ℕ) → IsWithinGraph g → p < process_count g → dependents_of g p ≡ []
    → reach_of g p ≡ p ∷ []
reach_itself g p w i none =
    same_rising (reach_of g p) (p ∷ []) (AllPairs-from_increasing (reach_of g p) (rising_law g p).0)
    (λ j k d low high. absurd (omega (arith, low, high)))
    (λ q c.
    subst (Contains (p ∷ [])) (sym (itself_reached g p q none (listed_reached g p q c))) (contains_first p []))
    (λ q c. elim (cons_contains p [] q c) [
      | inl same ↦ subst (Contains (reach_of g p)) same (reached_listed g p p w i (p ∷ [], (refl, refl)))
      | inr nothing ↦ absurd (omega (arith, nothing.1))
    ])

-- the words of a leader without dependents are those of its group's line
pub alone_words : (g : Graph) (p number : ℕ) (name : List ℕ) → IsWithinGraph g → p < process_count g
    → dependents_of g p ≡ [] → name ≡ name_of g p → number ≡ group_number g p
    → codes "group" ∷ decimal number ∷ codes "|" ∷ name
    ∷ codes "|" ∷ codes "-" ∷ codes "|" ∷ codes "sites" ∷ codes "1" ∷ [] ≡ group_line g p
unfolding digits
alone_words g p number name w i none named numbered =
    let reach = reach_itself g p w i none in
    let here = itself g p w i in
    let core : p ∷ [] ≡ core_of g p =
    sym (ap (filter (λ q. reaches g q p)) reach ∙ ap (λ b. cond {A = List ℕ} b (p ∷ []) []) here) in
    let rest : [] ≡ rest_of g p =
    sym (ap (filter (λ q. not (reaches g q p))) reach ∙ ap (λ b. cond {A = List ℕ} (not b) (p ∷ []) []) here) in
    ap (λ n. codes "group" ∷ decimal number ∷ codes "|" ∷ n
    ∷ codes "|" ∷ codes "-" ∷ codes "|" ∷ codes "sites" ∷ codes "1" ∷ []) named
    ∙ group_words g p number 1 (p ∷ []) [] numbered core rest (ap (site_count g) (sym reach))
