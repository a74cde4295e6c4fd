use Rattle.cmh_run.proofs.Common.{ℕ, List, length, Graph, Delivery, Going, Agrees}
use Rattle.cmh_run.proofs.checker.Checker.settle.Given as goal

abbrev pub invariant-loop-message : goal.invariant-loop-message
invariant-loop-message l = (g : Graph) (i : ℕ) (log : List Delivery) (s : Going) → Agrees g i log s l.fn.self
    → Agrees g i log s (record { network = l.self-inside.network; undelivered = l.self-inside.undelivered })

abbrev pub decreases-loop-message : goal.decreases-loop-message
decreases-loop-message l = length l.self-inside.network.bag
