-- Paths as processes that lead to one.
use Rattle.cmh_run.proofs.Common.{ℕ, List, [], ◌∷◌, refl, Graph, Leads, Reaches}
use Rattle.cmh_graph.specs.Path.{IsPath}

-- each process reaches itself
pub reaches_self : (g : Graph) (p : ℕ) → Reaches g p p
reaches_self g p = (p ∷ [], (refl, refl))

-- what leads from p to q is a path after its first process
pub reaches_leading : (g : Graph) (p q : ℕ) (rest : List ℕ) → Leads g p rest q → Reaches g p q
reaches_leading g p q rest h = (p ∷ rest, (refl, h))

-- a path without its first process leads
path_leads : (g : Graph) (p q : ℕ) (path : List ℕ) → IsPath g p q path
    → (rest : List ℕ) × Leads g p rest q
path_leads g p q [] h = absurd h
path_leads g p q (x ∷ rest) h = (rest, h.1)

-- where q is reached, something leads to it
pub leads_reached : (g : Graph) (p q : ℕ) → Reaches g p q → (rest : List ℕ) × Leads g p rest q
leads_reached g p q h = path_leads g p q h.0 h.1
