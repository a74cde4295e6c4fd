-- What a group that waits for another one reaches.
use Rattle.std.proofs.Common.{◌≡◌, ℕ, ◌<◌, ◌&&◌, Bool, true, false, List, [], ◌∷◌, map, eqb, eqb-true, refl, sym, ◌∙◌, subst}
use Rattle.std.specs.Prelude.{Contains, Option}
use Rattle.cmh_graph.specs.Build.{IsWellFormed}
use Rattle.cmh_graph.specs.Core.{leader_of, group_leader}
use Rattle.cmh_graph.specs.Graph.{Graph, dependents_of, indices, process_count}
use Rattle.cmh_graph.specs.Path.{Reaches}
use Rattle.cmh_graph.specs.Verdict.{is_deadlocked}
use Rattle.cmh_graph.proofs.Cores.{core_law}
use Rattle.cmh_graph.proofs.Groups.{leader_in_core, reaches_on}
use Rattle.cmh_graph.proofs.PathLemmas.{depends_within}
use Rattle.cmh_graph.proofs.PositionLemmas.{waits}
use Rattle.cmh_text.specs.Group.{is_led_by}
use Rattle.cmh_text.proofs.Numbers.{led_test}

-- where two tests both hold, the second does
both : (a b : Bool) → (a && b) ≡ true → b ≡ true
both true b e = e
both false b e = absurd cc

-- a process with a dependent in the group of a leader reaches the leader
pub leads_to : (g : Graph) (list : List (Option ℕ)) (p q l : ℕ) → IsWellFormed g
    → list ≡ map (group_leader g) (indices g) → p < process_count g → Contains (dependents_of g p) q
    → is_led_by list l q ≡ true → Reaches g p l
leads_to g list p q l w are i c led =
    let d = waits g p q w c in
    let j = depends_within g w.within p q i d in
    let leader : leader_of g q ≡ l =
    eqb-true (leader_of g q) l
    (both (is_deadlocked g q) (eqb (leader_of g q) l) (sym (led_test g list l q are j) ∙ led)) in
    let step : Reaches g p q = (p ∷ q ∷ [], (refl, (d, refl))) in
    reaches_on g p q l step
    (subst (λ z. Reaches g q z) leader
    ((core_law g q (leader_of g q) w.within j).0 (leader_in_core g q w.within j)).0)
