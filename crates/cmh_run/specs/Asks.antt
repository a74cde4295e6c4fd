-- What a run asks its hints, told by its deliveries.
use Rattle.std.specs.Prelude.{ℕ, nat_lt, Bool, not, ◌&&◌, ◌==◌, if◌then◌else◌, List, [], ◌∷◌, ◌++◌, Option}
use Rattle.cmh_graph.specs.declared.verdict.Verdict.{Verdict}
use Rattle.cmh_graph.specs.Graph.{Graph, is_awake}
use Rattle.cmh_process.specs.declared.message.Message.{Message}
use Rattle.cmh_run.specs.declared.delivery.Delivery.{Delivery}
use Rattle.cmh_run.specs.Config.{is_query}
use Rattle.cmh_run.specs.Choices.{chosen_place}
use Rattle.cmh_run.specs.Legal.{Going, going_at_start, DeliveriesLead}

-- a process that was asked about, and the answer
abbrev pub Ask : Type 0
Ask = ℕ × Option Verdict

-- the message is a query to p with a number above n
abbrev pub is_query_above : ℕ → ℕ → Message → Bool
is_query_above p n m = is_query m.kind && (m.to == p && nat_lt n m.number)

-- the highest number of the queries to p, or n if none of them has a higher one
abbrev pub highest_from : ℕ → ℕ → List Delivery → ℕ
highest_from p n [] = n
highest_from p n (d ∷ log) = highest_from p (if is_query_above p n d.message then d.message.number else n) log

-- After these deliveries of a run of i, hints are asked about the receiver of m: it is neither awake nor the initiator,
-- and m is a query to it with a higher number than any before.
abbrev pub is_asked : Graph → ℕ → List Delivery → Message → Bool
is_asked g i before m =
    not (is_awake g m.to) && (not (m.to == i) && is_query_above m.to (highest_from m.to 0 before) m)

-- the ask of one delivery that comes after these, if there is one, with its answer
abbrev pub ask_of : Graph → ℕ → List Delivery → Delivery → List Ask
ask_of g i before d = if is_asked g i before d.message then (d.message.to, d.hint) ∷ [] else []

-- the asks of deliveries that come after these
abbrev pub asks_after : Graph → ℕ → List Delivery → List Delivery → List Ask
asks_after g i before [] = []
asks_after g i before (d ∷ log) = ask_of g i before d ++ asks_after g i (before ++ d ∷ []) log

-- The asks of a run of i with this log, each with its answer. Each process that a query engages, or at which the run is
-- cut, is asked about just before, so once in each number, and no other is. The initiator is never asked about.
abbrev pub asks_of : Graph → ℕ → List Delivery → List Ask
asks_of g i log = asks_after g i [] log

-- Those that were asked about in a run that was broken off: the asks of deliveries that began it. The last of these may
-- be one that wasn't made any more, once its ask was answered.
pub record AskedInPart (has_asked : List Ask → Type 0) (g : Graph) (i : ℕ) (choices restarts : List ℕ) : Type 0 where
  pub log : List Delivery
  pub end : Going
  pub leads : DeliveriesLead (chosen_place choices) g i (going_at_start g i restarts) log end
  pub asked : has_asked (asks_of g i log)
