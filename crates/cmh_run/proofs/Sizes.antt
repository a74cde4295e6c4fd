-- The most dependents that a process has.
use Rattle.cmh_run.proofs.Common.{ℕ, ◌<◌, ◌^◌, length, arith, get_or-le-sum_by, Graph, Process, process_count, dependents_of, nobody, IsWellFormed}

-- a process of a graph has fewer than 2 ^ 32 dependents
pub few_dependents : (g : Graph) (p : ℕ) → IsWellFormed g → p < process_count g
    → length (dependents_of g p) < 2 ^ 32
few_dependents g p w h =
    omega (arith, w.dependencies, get_or-le-sum_by (λ (q : Process). length q.dependents) g.processes p nobody h)
