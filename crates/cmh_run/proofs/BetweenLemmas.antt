-- The messages of a run go between processes of the graph.
use Rattle.cmh_run.proofs.Common.{Ending, IsTrue, ◌≡◌, ℕ, ◌<◌, false, List, [], ◌∷◌, Graph, process_count, is_awake, is_idle, IsWithinGraph, Delivery, nothing_yet, start, Going, Rule, going_from, after_due_restart, going_after, DeliveriesLead, IsRun}
use Rattle.std.proofs.Common.{All}
use Rattle.std.proofs.lemmas.List.Elements.{All-nil, All-cons}
use Rattle.cmh_run.specs.Legal.{IsBetween}
use Rattle.cmh_run.proofs.Configurations.{IsSoundConfig, ready_stands, delivered, coming, by_start}

-- what leads on from a sound state has messages between processes of the graph alone
leads_between : (rule : Rule) (g : Graph) (i : ℕ) → IsWithinGraph g → i < process_count g → is_awake g i ≡ false
    → (log : List Delivery) (s end : Going) → IsSoundConfig g i s.config → DeliveriesLead rule g i s log end
    → All (λ d. IsBetween g d.message) log
leads_between rule g i ok within rests [] s end h l = All-nil (λ d. IsBetween g d.message)
leads_between rule g i ok within rests (d ∷ log) s end h l =
    let now = ready_stands g i s ok within rests h s.restarts in
    let fine = coming now l.1 in
    All-cons (λ (x : Delivery). IsBetween g x.message) d log (fine.from_in, fine.to_in)
    (leads_between rule g i ok within rests log (going_after g i (after_due_restart g i s) l.0 d) end
    (delivered ok now l.1) l.3)

-- the messages of every legal run of an idle process go between processes of its graph
pub messages_are_between : (rule : Rule) (g : Graph) (i : ℕ) (restarts : List ℕ)
    (log : List Delivery) (ending : Ending) (end : Going)
    → IsWithinGraph g → IsTrue (is_idle g i) → IsRun rule g i restarts log ending end
    → All (λ d. IsBetween g d.message) log
messages_are_between rule g i restarts log ending end ok idle run =
    by_start rule g i restarts log end ok idle run.leads
    (λ up silent still. rw silent (All-nil (λ d. IsBetween g d.message)))
    (λ rests within first l. leads_between rule g i ok within rests log
    (going_from (start g i (nothing_yet g)) restarts) end first l)
