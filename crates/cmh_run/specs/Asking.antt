-- What has been asked by a run on its way.
use Rattle.std.specs.Prelude.{◌≡◌, ℕ, if◌then◌else◌, List, [], ◌∷◌, ◌++◌, Option}
use Rattle.cmh_graph.specs.declared.verdict.Verdict.{Verdict}
use Rattle.cmh_graph.specs.Graph.{Graph}
use Rattle.cmh_process.specs.declared.message.Message.{Message}
use Rattle.cmh_run.specs.declared.delivery.Delivery.{Delivery}
use Rattle.cmh_run.specs.Asks.{Ask, asks_of}
use Rattle.cmh_run.specs.Choices.{chosen_place}
use Rattle.cmh_run.specs.Config.{Config, asks_hint}
use Rattle.cmh_run.specs.Legal.{Going, going_at_start, DeliveriesLead, HintIsFit}
use Rattle.cmh_run.specs.Progress.{RunState}

-- what is asked about the receiver of m before m is delivered, if anything is, and the answer
abbrev pub asks_at : Graph → Config → Message → Option Verdict → List Ask
asks_at g c m hint = if asks_hint g c m then (m.to, hint) ∷ [] else []

-- what is asked about the receiver of m was asked, and the answer fits, whatever came of the delivery
pub record AskedAt (has_asked : List Ask → Type 0) (g : Graph) (c : Config) (m : Message) : Type 0 where
  pub hint : Option Verdict
  pub fit : HintIsFit g c m hint
  pub asked : has_asked (asks_at g c m hint)

-- on the way from one log to another just what it asks was asked
pub record AsksOn (has_asked : List Ask → Type 0) (g : Graph) (i : ℕ) (before log : List Delivery) : Type 0 where
  pub asks : List Ask
  pub asked : has_asked asks
  pub are : asks_of g i log ≡ asks_of g i before ++ asks

-- from a run under way to one that is broken off just what deliveries ask that lead on from it was asked
pub record AsksOnInPart (has_asked : List Ask → Type 0) (restarts : List ℕ) (r : RunState) : Type 0 where
  pub log : List Delivery
  pub end : Going
  pub leads : DeliveriesLead (chosen_place r.choices) r.graph r.initiator (going_at_start r.graph r.initiator restarts)
      log end
  pub asks : AsksOn has_asked r.graph r.initiator r.log log
