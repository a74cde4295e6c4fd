-- Which processes messages in transit unblock.
use Rattle.std.proofs.Common.{◌≡◌, ℕ, zero, suc, ◌<◌, ◌≤◌, Bool, true, false, not, ◌&&◌, ◌||◌, List, [], ◌∷◌, map, take, length, get_or, refl, sym, ◌∙◌, ap, arith, eqb}
use Rattle.std.specs.List.{list_any}
use Rattle.std.proofs.lemmas.List.{length-map, take_all}
use Rattle.std.proofs.lemmas.List.FromFn.{fill_by_all}
use Rattle.cmh_graph.specs.declared.part.Part.{Part}
use Rattle.cmh_graph.specs.Build.{parts_graph}
use Rattle.cmh_graph.specs.Graph.{Graph, dependents_of, indices, is_awake, is_idle, is_idle_state, process_count}
use Rattle.cmh_graph.specs.Search.{is_marked}
use Rattle.cmh_graph.proofs.PartLemmas.{as_many}

-- the message unblocks p
abbrev pub wakes : Graph → ℕ → ℕ × ℕ → Bool
wakes g p message = eqb message.1 p && list_any (λ d. eqb d message.0) (dependents_of g p)

-- The marks say which processes are active, or unblocked by one of the first n messages.
pub record AwakeUpTo (g : Graph) (n : ℕ) (marks : List Bool) : Type 0 where
  pub size : length marks ≡ process_count g
  pub mark : (p : ℕ) → p < process_count g
      → is_marked marks p ≡ (not (is_idle g p) || list_any (wakes g p) (take n g.in_transit))

-- an "or" with false is the other
pub or_none : (a : Bool) → (a || false) ≡ a
or_none true = refl
or_none false = refl

-- a part is marked where its process is active
active_mark : (parts : List Part) (t : List (ℕ × ℕ)) (p : ℕ) → p < length parts
    → get_or (map (λ part. not (is_idle_state part.state)) parts) p false ≡ not (is_idle (parts_graph parts t) p)
active_mark [] t p l = absurd (omega (arith, l))
active_mark (x ∷ parts) t zero l = refl
active_mark (x ∷ parts) t (suc p) l = active_mark parts t p (omega (arith, l))

-- at first, before any message is looked at, the active processes are marked
pub awake_start : (parts : List Part) (t : List (ℕ × ℕ)) (marks : List Bool)
    → marks ≡ map (λ part. not (is_idle_state part.state)) parts → AwakeUpTo (parts_graph parts t) 0 marks
awake_start parts t marks e = record {
  size = ap length e ∙ length-map parts (λ part. not (is_idle_state part.state)) ∙ sym (as_many parts);
  mark = λ p l. ap (λ xs. get_or xs p false) e ∙ active_mark parts t p (omega (arith, l, as_many parts))
      ∙ sym (or_none (not (is_idle (parts_graph parts t) p)));
}

-- after all messages the marks say which processes are awake
pub awake_end : (g : Graph) (n : ℕ) (marks : List Bool) → length g.in_transit ≤ n → AwakeUpTo g n marks
    → marks ≡ map (is_awake g) (indices g)
awake_end g n marks l s =
    fill_by_all (is_awake g) marks (process_count g) false s.size
    (λ p i. s.mark p i ∙ ap (λ ms. not (is_idle g p) || list_any (wakes g p) ms) (take_all n g.in_transit l))
