-- The last computation of a run, taken alone.
use Rattle.std.specs.Prelude.{◌≡◌, ◌≢◌, ℕ, ◌==◌, if◌then◌else◌, List, [], ◌∷◌, ◌++◌}
use Rattle.cmh_graph.specs.Graph.{Graph}
use Rattle.cmh_process.specs.declared.message.Message.{Message}
use Rattle.cmh_run.specs.declared.delivery.Delivery.{Delivery}
use Rattle.cmh_run.specs.declared.delivery.Ending.{Ending}
use Rattle.cmh_run.specs.declared.delivery.Ending.TheVariants.{CutFree}
use Rattle.cmh_run.specs.Legal.{Going, any_place, IsRun}

-- the message as one of the first computation
abbrev pub renumber : Message → Message
renumber m = record m { number = 1 }

-- the deliveries of computation n, renumbered 1, with their hints
abbrev pub computation_log : ℕ → List Delivery → List Delivery
computation_log n [] = []
computation_log n (d ∷ log) =
    if d.message.number == n
    then record d { message = renumber d.message } ∷ computation_log n log
    else computation_log n log

-- The deliveries of the last number begin a legal run without restarts. Where the run was declared or came to rest,
-- they are all of such a run, with this ending and the same engaged processes.
pub record LastIsRun (g : Graph) (i : ℕ) (log : List Delivery)
    (ending : Ending) (end : Going) : Type 0 where
  pub begins : (rest : List Delivery) × (last : Ending) × (on : Going)
      × IsRun any_place g i [] (computation_log end.config.number log ++ rest) last on
  pub whole : ((k : ℕ) → ending ≢ CutFree k) → (on : Going)
      × IsRun any_place g i [] (computation_log end.config.number log) ending on
      × (on.config.engaged ≡ end.config.engaged)
