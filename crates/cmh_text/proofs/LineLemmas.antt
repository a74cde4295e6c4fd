-- Lines of words, and the lines of the report, one after the other.
use Rattle.std.proofs.Common.{◌≡◌, ℕ, List, [], ◌∷◌, ◌++◌, map, true, false, refl, sym, ◌∙◌, ap, append-nil, append_assoc}
use Rattle.std.specs.Prelude.{flat_map, codes, decimal, unwrap_or}
use Rattle.std.specs.List.{join_with_byte}
use Rattle.std.proofs.lemmas.List.Concat.{flat_map-append}
use Rattle.cmh_graph.specs.Graph.{Graph, idle_list, name_of}
use Rattle.cmh_graph.specs.ChosenPath.{chosen_path}
use Rattle.cmh_graph.specs.Core.{core_of, group_number, leaders, rest_of}
use Rattle.cmh_graph.specs.Path.{reach_of}
use Rattle.cmh_graph.specs.Verdict.{is_deadlocked}
use Rattle.cmh_text.specs.Report.{deadlocked_line, free_line, group_line, line, names_of, names_or_dash, process_line, report_text, site_count, spaced_words, totals_line}

-- ---- words

-- words separated by spaces are the first one, and each other one after a space
join_spaced : (word : List ℕ) (words : List (List ℕ)) → join_with_byte 32 (word ∷ words) ≡ word ++ spaced_words words
join_spaced word [] = sym (append-nil word)
join_spaced word (next ∷ words) = ap (λ xs. word ++ (32 ∷ xs)) (join_spaced next words)

-- a line is its first word, each other one after a space, and a line feed
line_spaced : (word : List ℕ) (words : List (List ℕ)) → line (word ∷ words) ≡ word ++ (spaced_words words ++ 10 ∷ [])
line_spaced word words = ap (λ xs. xs ++ 10 ∷ []) (join_spaced word words)
    ∙ append_assoc word (spaced_words words) (10 ∷ [])

-- the pieces of a free process's line, put one behind the other, are the line
pub free_pieces : (old name : List ℕ) (path : List (List ℕ)) (a b new : List ℕ)
    → a ≡ old ++ (codes "free " ++ (name ++ codes " path")) → b ≡ a ++ spaced_words path → new ≡ b ++ 10 ∷ []
    → new ≡ old ++ line (codes "free" ∷ name ∷ codes "path" ∷ path)
free_pieces old name path a b new e f h = h ∙ rw (f, e, line_spaced) (simp append_assoc)

-- the pieces of the line of a group of one process that waits for nobody, put one behind the other, are the line
pub alone_pieces : (old number name a new : List ℕ) → a ≡ old
    → new ≡ a ++ (codes "group " ++ (number ++ (codes " | " ++ (name ++ codes " | - | sites 1\n"))))
    → new ≡ old
    ++ line (codes "group" ∷ number ∷ codes "|" ∷ name
    ∷ codes "|" ∷ codes "-" ∷ codes "|" ∷ codes "sites" ∷ codes "1" ∷ [])
alone_pieces old number name a new e f = f ∙ rw e (simp append_assoc)

-- the words of three lists, each after a space, are those of the three, one list after the other
spaced_parts : (front middle back : List (List ℕ))
    → spaced_words (front ++ middle ++ back) ≡ spaced_words front ++ spaced_words middle ++ spaced_words back
spaced_parts front middle back =
    flat_map-append (λ word. 32 ∷ word) (front ++ middle) back
    ∙ ap (λ xs. xs ++ spaced_words back) (flat_map-append (λ word. 32 ∷ word) front middle)

-- the pieces of a group's line, put one behind the other, are the line
pub group_pieces : (old number sites : List ℕ) (core rest : List (List ℕ)) (a b d e new : List ℕ)
    → a ≡ old ++ (codes "group " ++ (number ++ codes " |")) → b ≡ a ++ spaced_words core → d ≡ b ++ codes " |"
    → e ≡ d ++ spaced_words rest → new ≡ e ++ (codes " | sites " ++ (sites ++ 10 ∷ []))
    → new ≡ old
    ++ line (codes "group" ∷ number ∷ codes "|" ∷ core ++ codes "|" ∷ rest ++ codes "|" ∷ codes "sites" ∷ sites ∷ [])
group_pieces old number sites core rest a b d e new h1 h2 h3 h4 h5 =
    let front = number ∷ codes "|" ∷ core in
    let middle = codes "|" ∷ rest in
    let back = codes "|" ∷ codes "sites" ∷ sites ∷ [] in
    let words = line_spaced (codes "group") (front ++ middle ++ back)
    ∙ ap (λ xs. codes "group" ++ (xs ++ 10 ∷ [])) (spaced_parts front middle back) in
    let pieces : ((((old ++ (codes "group " ++ (number ++ codes " |"))) ++ spaced_words core) ++ codes " |") ++
    spaced_words rest)
    ++ (codes " | sites " ++ (sites ++ 10 ∷ []))
    ≡ old ++
    (codes "group"
    ++ ((((32 ∷ (number ++ (codes " |" ++ spaced_words core))) ++ (codes " |" ++ spaced_words rest))
    ++ (codes " | sites" ++ ((32 ∷ sites) ++ []))) ++ 10 ∷ [])) =
    simp append_assoc in
    h5 ∙ rw (h4, h3, h2, h1) pieces ∙ ap (λ xs. old ++ xs) (sym words)

-- ---- what the words are of

-- the words of a deadlocked process are those of its line
pub deadlocked_words : (g : Graph) (p number : ℕ) (name : List ℕ) → is_deadlocked g p ≡ true → name ≡ name_of g p
    → number ≡ group_number g p → codes "deadlocked" ∷ name ∷ codes "group" ∷ decimal number ∷ [] ≡ process_line g p
unfolding deadlocked_line
deadlocked_words g p number name dead named numbered = rw (named, numbered, dead) refl

-- the words of a free process are those of its line
pub free_words : (g : Graph) (p : ℕ) (name path : List ℕ) → is_deadlocked g p ≡ false → name ≡ name_of g p
    → path ≡ unwrap_or (chosen_path g p) [] → codes "free" ∷ name ∷ codes "path" ∷ names_of g path ≡ process_line g p
unfolding free_line
free_words g p name path free named chosen = rw (named, chosen, free) refl

-- the words of a group are those of its line
pub group_words : (g : Graph) (p number sites : ℕ) (core rest : List ℕ) → number ≡ group_number g p → core ≡ core_of g p
    → rest ≡ rest_of g p → sites ≡ site_count g (reach_of g p)
    → codes "group" ∷ decimal number ∷ codes "|" ∷ names_of g core ++ codes "|" ∷ names_or_dash g rest
    ++ codes "|" ∷ codes "sites" ∷ decimal sites ∷ [] ≡ group_line g p
unfolding group_line
group_words g p number sites core rest e1 e2 e3 e4 = rw (e1, e2, e3, e4) refl

-- ---- lines

-- the totals, the lines of processes and those of groups are the whole text
pub whole_text : (g : Graph)
    → (line (totals_line g) ++ flat_map line (map (process_line g) (idle_list g)))
    ++ flat_map line (map (group_line g) (leaders g)) ≡ report_text g
unfolding report_text
whole_text g =
    sym (flat_map-append line (totals_line g ∷ map (process_line g) (idle_list g)) (map (group_line g) (leaders g)))
