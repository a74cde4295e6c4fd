-- Definitions, computed on worked runs of two processes that wait for each other.
use Rattle.cmh_run.proofs.Common.{◌≡◌, ℕ, true, List, [], ◌∷◌, slice_get, Some, None, refl, Idle, Graph, Message, Delivery, Declared, Config, query, reply, computation_log, Going, MayCome, any_place, IsRun}

-- a delivery without a hint
abbrev pub plain : Message → Delivery
plain m = record { message = m; hint = None }

-- two processes that wait for each other
abbrev pub two_in_a_cycle : Graph
two_in_a_cycle = record {
  processes = record { name = []; site = 0; state = Idle; dependents = 1 ∷ [] }
      ∷ record { name = []; site = 0; state = Idle; dependents = 0 ∷ [] }
      ∷ [];
  in_transit = [];
}

-- the deliveries of a run of two processes that wait for each other, without restarts
abbrev pub deliveries : List Delivery
deliveries =
    plain (query 0 1 0 1) ∷ plain (query 0 1 1 0) ∷ plain (reply 0 1 0 1) ∷ plain (reply 0 1 1 0) ∷ []

-- the deliveries of a run of two processes that wait for each other, which starts again after two of them
abbrev restarted : List Delivery
restarted =
    plain (query 0 1 0 1) ∷ plain (query 0 1 1 0) ∷ plain (reply 0 1 0 1) ∷ plain (query 0 2 0 1)
    ∷ plain (reply 0 1 1 0) ∷ plain (query 0 2 1 0) ∷ plain (reply 0 2 0 1) ∷ plain (reply 0 2 1 0) ∷ []

-- the last computation of the run with a restart, taken alone, is the run without restarts
last_alone : computation_log 2 restarted ≡ deliveries
last_alone = refl

-- the first message of the bag comes next, without a hint
first : {g : Graph} {c : Config} {m : Message} {Rest : ℕ → Type 0} → c.ended ≡ None → slice_get c.bag 0 ≡ Some m
    → Rest 0 → (x : ℕ) × MayCome g c x (plain m) × (true ≡ true) × Rest x
first going there rest = (0, record { going = going; there = there; hint = tt }, refl, rest)

-- the run without restarts is legal, and declared
legal : (end : Going) × IsRun any_place two_in_a_cycle 0 [] deliveries Declared end
legal = (_, record { leads = first refl refl (first refl refl (first refl refl (first refl refl refl))); ends = refl })

-- the run with a restart after two deliveries is legal, and declared
legal_again : (end : Going) × IsRun any_place two_in_a_cycle 0 (2 ∷ []) restarted Declared end
legal_again = (
  _,
  record {
    leads = first refl refl (first refl refl (first refl refl (first refl refl
        (first refl refl (first refl refl (first refl refl (first refl refl refl)))))));
    ends = refl;
  },
)
