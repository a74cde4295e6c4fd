-- What a checker keeps of a run: all but the bag, which it keeps as a set.
use Rattle.std.specs.Prelude.{◌≡◌, ◌⊎◌, ℕ, Bool, true, false, ◌&&◌, ◌==◌, List, [], IsTrue}
use Rattle.std.specs.declared.cmp.Ordering.{Ordering}
use Rattle.std.specs.Ordering.{nat_cmp, ordering_then}
use Rattle.std.specs.List.{list_any}
use Rattle.std.specs.BTreeMap.{is_at}
use Rattle.cmh_graph.specs.Graph.{Graph, is_idle}
use Rattle.cmh_graph.specs.Build.{IsWellFormed}
use Rattle.cmh_process.specs.declared.message.Kind.{Kind}
use Rattle.cmh_process.specs.declared.message.Kind.TheVariants.{Query, Reply}
use Rattle.cmh_process.specs.declared.message.Message.{Message}
use Rattle.cmh_run.specs.declared.delivery.Delivery.{Delivery}
use Rattle.cmh_run.specs.Config.{Config}
use Rattle.cmh_run.specs.Legal.{Going}
use Rattle.cmh_run.specs.Check.{LeadTo, IsUndelivered}

-- pairs are compared by their first parts, then by their second ones
abbrev pub pair_cmp : ℕ × ℕ → ℕ × ℕ → Ordering
pair_cmp a b = ordering_then (nat_cmp a.0 b.0) (nat_cmp a.1 b.1)

-- the set for messages of this kind
abbrev pub of_kind : {A : Type 0} → Kind → A → A → A
of_kind Query queries replies = queries
of_kind Reply queries replies = replies

-- the undelivered queries and replies, each by its sender and its receiver
pub record UndeliveredState : Type 0 where
  pub queries : List (ℕ × ℕ)
  pub replies : List (ℕ × ℕ)

-- a message of this kind, with this sender and this receiver, is among the undelivered ones
abbrev pub is_waiting : UndeliveredState → Message → Bool
is_waiting w m = list_any (is_at (pair_cmp (m.from, m.to))) (of_kind m.kind w.queries w.replies)

-- both kinds are queries, or both are replies
abbrev pub is_same_kind : Kind → Kind → Bool
is_same_kind a b = of_kind a (of_kind b true false) (of_kind b false true)

-- both messages are queries or both are replies, from the same sender to the same receiver
abbrev pub goes_like : Message → Message → Bool
goes_like a b = is_same_kind a.kind b.kind && (a.from == b.from && a.to == b.to)

-- what is kept: a network, with what was just sent in its bag, and the other undelivered messages
pub record CheckState : Type 0 where
  pub network : Config
  pub undelivered : UndeliveredState

-- the configuration with another bag
abbrev pub with_bag : Config → List Message → Config
with_bag c bag = record c { bag = bag }

-- The deliveries have led to s, and what is kept agrees with it: the network but for its bag, and all that is
-- undelivered, in the set or in that bag.
pub record Agrees (g : Graph) (i : ℕ) (log : List Delivery) (s : Going)
    (a : CheckState) : Type 0 where
  pub graph : IsWellFormed g
  pub idle : IsTrue (is_idle g i)
  pub leads : LeadTo g i log s
  pub network : a.network ≡ with_bag s.config a.network.bag
  pub pending : (m : Message) → IsUndelivered s.config m
      → IsTrue (is_waiting a.undelivered m) ⊎ IsUndelivered a.network m
  pub sent : (m : Message) → IsUndelivered a.network m → IsUndelivered s.config m
  pub waiting : (m : Message) → m.initiator ≡ i → m.number ≡ 1 → IsTrue (is_waiting a.undelivered m)
      → IsUndelivered s.config m

-- nothing that was just sent is left in the bag of the network
abbrev pub IsSettled : CheckState → Type 0
IsSettled a = a.network.bag ≡ []

-- the deliveries have led somewhere, what is kept agrees with it, and nothing that was just sent is left in the bag
abbrev pub IsChecked : Graph → ℕ → List Delivery → CheckState → Type 0
IsChecked g i log a = (s : Going) × Agrees g i log s a × IsSettled a
