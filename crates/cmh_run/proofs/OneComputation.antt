-- Processes and messages seen from one computation alone, which is numbered 1 then.
use Rattle.cmh_run.proofs.Common.{◌≡◌, ℕ, zero, suc, ◌<◌, ◌≤◌, cond, eqb, List, [], ◌∷◌, ◌++◌, map, remove, replicate, length, slice_get, Some, refl, arith, eq-eqb, ne_eqb, Message, Proc, Action, Nothing, Engage, ReplyTo, Declare, new_proc, engages, proc_queried, query_action, proc_replied, reply_action, proc_at, messages_of, renumber}
use Rattle.std.proofs.lemmas.Bool.Decides.{nat_tests}

-- a process as computation n has it: one that isn't in it has heard of nothing
abbrev pub recast : ℕ → Proc → Proc
recast n p = cond (eqb p.latest n) (record { latest = 1; engager = p.engager; num = p.num; wait = p.wait }) new_proc

-- the messages of computation n
abbrev pub kept : ℕ → List Message → List Message
kept n [] = []
kept n (m ∷ bag) = cond (eqb m.number n) (renumber m ∷ kept n bag) (kept n bag)

-- the place of what stands at place x, among the messages of computation n
abbrev pub place_among : ℕ → List Message → ℕ → ℕ
place_among n [] x = 0
place_among n (m ∷ bag) zero = 0
place_among n (m ∷ bag) (suc x) = cond (eqb m.number n) (suc (place_among n bag x)) (place_among n bag x)

-- ---- messages

-- the messages of computation n in two lists together are those of the one and of the other
pub kept_append : (n : ℕ) (xs ys : List Message) → kept n (xs ++ ys) ≡ kept n xs ++ kept n ys
kept_append n [] ys = refl
kept_append n (m ∷ xs) ys = grind (arith, kept_append n xs ys)

-- a message of computation n stands at its place among those
pub kept_at : (n : ℕ) (bag : List Message) (x : ℕ) (m : Message) → slice_get bag x ≡ Some m → m.number ≡ n
    → slice_get (kept n bag) (place_among n bag x) ≡ Some (renumber m)
kept_at n [] x m h e = absurd (cc)
kept_at n (y ∷ bag) zero m h e = let same : y ≡ m = cc in rw (same, eq-eqb m.number n e) refl
kept_at n (y ∷ bag) (suc x) m h e = grind (arith, kept_at n bag x m h e)

-- once a message of computation n is taken, the others of that computation are those without it
pub kept_taken : (n : ℕ) (bag : List Message) (x : ℕ) (m : Message) → slice_get bag x ≡ Some m → m.number ≡ n
    → kept n (remove bag x) ≡ remove (kept n bag) (place_among n bag x)
kept_taken n [] x m h e = absurd (cc)
kept_taken n (y ∷ bag) zero m h e = let same : y ≡ m = cc in rw (same, eq-eqb m.number n e) refl
kept_taken n (y ∷ bag) (suc x) m h e = grind (arith, kept_taken n bag x m h e)

-- once a message of another computation is taken, those of computation n are the same
pub kept_other : (n : ℕ) (bag : List Message) (x : ℕ) (m : Message) → slice_get bag x ≡ Some m → (m.number ≡ n → ⊥)
    → kept n (remove bag x) ≡ kept n bag
kept_other n [] x m h e = absurd (cc)
kept_other n (y ∷ bag) zero m h e = let same : y ≡ m = cc in rw (same, ne_eqb m.number n e) refl
kept_other n (y ∷ bag) (suc x) m h e = grind (arith, kept_other n bag x m h e)

-- what is sent in computation n is, as that computation has it, sent with the number 1
pub kept_sent : (n i k : ℕ) (ds : List ℕ) (action : Action) → kept n (messages_of i n k ds action)
    ≡ messages_of i 1 k ds action
kept_sent n i k ds Nothing = refl
kept_sent n i k [] Engage = refl
kept_sent n i k (d ∷ ds) Engage = rw (eq-eqb n n refl, kept_sent n i k ds Engage) refl
kept_sent n i k ds (ReplyTo to) = rw (eq-eqb n n refl) refl
kept_sent n i k ds Declare = refl

-- what is sent in another computation is none of the messages of computation n
pub kept_other_sent : (n l i k : ℕ) (ds : List ℕ) (action : Action) → (l ≡ n → ⊥)
    → kept n (messages_of i l k ds action) ≡ []
kept_other_sent n l i k ds Nothing e = refl
kept_other_sent n l i k [] Engage e = refl
kept_other_sent n l i k (d ∷ ds) Engage e = rw (ne_eqb l n e) (kept_other_sent n l i k ds Engage e)
kept_other_sent n l i k ds (ReplyTo to) e = rw (ne_eqb l n e) refl
kept_other_sent n l i k ds Declare e = refl

-- ---- a process and a message of computation n

module _ (n : ℕ) (p : Proc) (low : p.latest ≤ n) (positive : 0 < n) where
  -- a query engages a process just if it engages the process as computation n has it
  pub same_engages : engages (recast n p) 1 ≡ engages p n
  same_engages = grind (arith, nat_tests)

  -- a query changes a process as computation n has it just as it changes the process
  pub same_queried : (from size : ℕ) → proc_queried (recast n p) 1 from size ≡ recast n (proc_queried p n from size)
  same_queried from size = grind (arith, nat_tests)

  -- on a query a process as computation n has it acts just as the process does
  pub same_query_action : (from size : ℕ) → query_action (recast n p) 1 from size ≡ query_action p n from size
  same_query_action from size = grind (arith, nat_tests)

  -- a reply changes a process as computation n has it just as it changes the process
  pub same_replied : proc_replied (recast n p) 1 ≡ recast n (proc_replied p n)
  same_replied = grind (arith, nat_tests)

  -- on a reply a process as computation n has it acts just as the process does
  pub same_reply_action : reply_action (recast n p) 1 ≡ reply_action p n
  same_reply_action = grind (arith, nat_tests)

-- ---- a process and a message of an older computation

module _ (n l : ℕ) (p : Proc) (below : l < n) where
  -- a query of an older computation changes nothing of the process as computation n has it
  pub queried_below : (from size : ℕ) → recast n (proc_queried p l from size) ≡ recast n p
  queried_below from size = grind (arith, nat_tests)

  -- a reply of an older computation changes nothing of the process as computation n has it
  pub replied_below : recast n (proc_replied p l) ≡ recast n p
  replied_below = grind (arith, nat_tests)

-- ---- all processes

-- at each place stands the process there, as computation n has it
pub recast_at : (n : ℕ) (procs : List Proc) (k : ℕ) → 0 < n
    → proc_at (map (recast n) procs) k ≡ recast n (proc_at procs k)
recast_at n [] k h = rw (ne_eqb 0 n (λ e. omega arith)) refl
recast_at n (p ∷ procs) zero h = refl
recast_at n (p ∷ procs) (suc k) h = recast_at n procs k h

-- before any process is in computation n, none has heard of anything
pub all_fresh : (n : ℕ) (procs : List Proc) → ((k : ℕ) → (proc_at procs k).latest < n)
    → map (recast n) procs ≡ replicate (length procs) new_proc
all_fresh n [] h = refl
all_fresh n (p ∷ procs) h =
    rw (ne_eqb p.latest n (λ e. omega (arith, h 0)), all_fresh n procs (λ k. h (suc k))) refl
