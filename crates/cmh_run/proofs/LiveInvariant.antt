-- What stays true of a configuration, by its processes as a function, its bag and the engaged processes.
use Rattle.cmh_run.proofs.Common.{◌≡◌, ℕ, ◌+◌, ◌-◌, ◌<◌, ◌≤◌, Bool, true, false, cond, List, [], ◌∷◌, ◌++◌, remove, length, slice_get, Contains, Some, None, refl, ◌∙◌, arith, ◌⊎◌, append-nil, sum_by-append, eq-eqb, cases_eq, inl, inr, ne_eqb, Query, Reply, Message, Proc, Action, Nothing, Engage, ReplyTo, Declare, proc_engaged, engage_action, last_action, start_action, Graph, process_count, dependents_of, is_awake, Depends, IsWithinGraph, Reaches, IsDeadlocked, asleep_is_idle, reaches_more, reply, messages_of}
use Rattle.std.proofs.Common.{if◌then◌else◌, ◌==◌}
use Rattle.std.proofs.lemmas.Bool.Decides.{nat_tests}
use Rattle.cmh_graph.proofs.PathLemmas.{depends_within}
use Rattle.cmh_run.proofs.Paths.{reaches_self}
use Rattle.cmh_run.proofs.Tally.{one_if, tally, tally-le-length, tally_from_contains, contains_from_tally}
use Rattle.cmh_run.proofs.Invariant.{IsSoundState, owes}
use Rattle.cmh_run.proofs.InvariantSteps as steps
use Rattle.cmh_run.proofs.InvariantSteps.{upd}
use Rattle.cmh_run.proofs.Tokens.{Each, each_append, each_remove, each_at, each_more, is_token, token, tokens, is_token_parts, tokens-remove, tokens-queries, tokens-old}

-- what is true of each undelivered message
pub record IsSoundMessage (g : Graph) (i n : ℕ) (F : ℕ → Proc) (x : Message) : Type 0 where
  pub low : x.number ≤ n
  pub positive : 0 < x.number
  pub from_in : x.from < process_count g
  pub to_in : x.to < process_count g
  pub asked : x.kind ≡ Query → Depends g x.from x.to × Reaches g i x.to
  pub told : x.kind ≡ Reply → x.number ≡ n → (F x.from).latest ≡ n

-- what stays true of a run while it hasn't ended
pub record IsSoundRun (g : Graph) (i n : ℕ) (F : ℕ → Proc) (bag : List Message) (engaged : List ℕ) : Type 0 where
  pub state : IsSoundState g i n F (tokens n bag)
  pub open state use *
  pub fine : Each (IsSoundMessage g i n F) bag
  pub in_range : (k e : ℕ) → (F k).engager ≡ Some e → e < process_count g
  pub engaged_in : (k : ℕ) → 0 < tally k engaged → (F k).latest ≡ n
  pub once : (k : ℕ) → tally k engaged ≤ 1
  pub begins : slice_get engaged 0 ≡ Some i

-- a process stands in two lists together as often as in the one and in the other
tally-append : (r : ℕ) (xs ys : List ℕ) → tally r (xs ++ ys) ≡ tally r xs + tally r ys
tally-append r [] ys = omega arith
tally-append r (x ∷ xs) ys = omega (arith, tally-append r xs ys)

-- a list with more behind it begins as before
begins_append : (xs ys : List ℕ) (i : ℕ) → slice_get xs 0 ≡ Some i → slice_get (xs ++ ys) 0 ≡ Some i
begins_append [] ys i h = absurd (cc)
begins_append (x ∷ xs) ys i h = h

-- a process of the newest computation that isn't among the engaged joins them, and the run stays live
enlisted : {g : Graph} {i n : ℕ} {F : ℕ → Proc} {bag : List Message} {engaged : List ℕ}
    → IsSoundRun g i n F bag engaged → (k : ℕ) → (F k).latest ≡ n → tally k engaged ≡ 0
    → IsSoundRun g i n F bag (engaged ++ k ∷ [])
enlisted {i = i} {engaged = engaged} L k in_it new = record {
  state = L.state;
  fine = L.fine;
  in_range = L.in_range;
  engaged_in = λ x h. grind (arith, nat_tests, tally-append x engaged (k ∷ []), L.engaged_in x);
  once = λ x. grind (arith, nat_tests, tally-append x engaged (k ∷ []), L.once x);
  begins = begins_append engaged (k ∷ []) i L.begins;
}

-- what is true of each undelivered message stays true while the senders of its replies take part
fine_on : (g : Graph) (i n n' : ℕ) (F F' : ℕ → Proc) (bag : List Message) → n ≤ n'
    → ((x : Message) → IsSoundMessage g i n F x → x.kind ≡ Reply → x.number ≡ n' → (F' x.from).latest ≡ n')
    → Each (IsSoundMessage g i n F) bag → Each (IsSoundMessage g i n' F') bag
fine_on g i n n' F F' bag later told = each_more (IsSoundMessage g i n F) (IsSoundMessage g i n' F') bag
    (λ x f. let low : x.number ≤ n' = omega (arith, f.low) in assumption (told x f))

module _ (g : Graph) (i n : ℕ) (F : ℕ → Proc) (l k : ℕ) (ok : IsWithinGraph g) (low : l ≤ n) (positive : 0 < l)
    (within : k < process_count g) where
  -- what process k sends in computation l is as undelivered messages are
  sent_fine : (ds : List ℕ) (action : Action) → ((r : ℕ) → 0 < tally r ds → Depends g k r × Reaches g i r)
      → ((to : ℕ) → action ≡ ReplyTo to → (to < process_count g) × (l ≡ n → (F k).latest ≡ n))
      → Each (IsSoundMessage g i n F) (messages_of i l k ds action)
  sent_fine ds Nothing known told = tt
  sent_fine [] Engage known told = tt
  sent_fine (d ∷ ds) Engage known told =
      let way = known d (rw (eq-eqb d d refl) (omega arith)) in (
        grind (arith, depends_within g ok k d within way.0, way),
        sent_fine ds Engage (λ r h. known r (omega arith)) (λ to e. absurd (cc)),
      )
  sent_fine ds (ReplyTo to) known told = (grind (arith, told to refl), tt)
  sent_fine ds Declare known told = tt

module _ (g : Graph) (i n : ℕ) (F : ℕ → Proc) (bag : List Message) (engaged : List ℕ) (ok : IsWithinGraph g)
    (L : IsSoundRun g i n F bag engaged) (x : ℕ) (m : Message) (there : slice_get bag x ≡ Some m) where
  -- what is true of each undelivered message is true of m
  fine_m : IsSoundMessage g i n F m
  fine_m = each_at (IsSoundMessage g i n F) bag x m L.fine there

  -- along each dependency m counts no longer once it is taken, and what is sent counts
  spent : (new : List Message) (a r : ℕ)
      → tokens n (remove bag x ++ new) a r + token n a r m ≡ tokens n bag a r + tokens n new a r
  spent new a r = omega (arith, tokens-remove n bag x m a r there, sum_by-append (token n a r) (remove bag x) new)

  -- where m goes along the dependency from a to r, a is in the newest computation and waits for r
  pub waiting : (a r : ℕ) → is_token n a r m ≡ true → ((F a).latest ≡ n) × (0 < tally r (L.out a))
  waiting a r h = (
    grind (
      arith,
      nat_tests,
      tokens-remove n bag x m a r there,
      L.held a r,
      L.idle_out a,
      L.latest a,
      tally-le-length r (L.out a),
    ),
    omega (arith, rw h at (tokens-remove n bag x m a r there), L.held a r),
  )

  -- where m is taken, and its receiver sends this, the run stays live with processes that stay in the computation
  received : {F' : ℕ → Proc} (ds : List ℕ) (action : Action)
      → IsSoundState g i n F' (tokens n (remove bag x ++ messages_of i m.number m.to ds action))
      → ((k : ℕ) → (F k).latest ≡ n → (F' k).latest ≡ n)
      → ((k e : ℕ) → (F' k).engager ≡ Some e → e < process_count g)
      → ((r : ℕ) → 0 < tally r ds → Depends g m.to r × Reaches g i r)
      → ((to : ℕ) → action ≡ ReplyTo to → (to < process_count g) × (m.number ≡ n → (F' m.to).latest ≡ n))
      → IsSoundRun g i n F' (remove bag x ++ messages_of i m.number m.to ds action) engaged
  received {F'} ds action state still range known told = record {
    state = state;
    fine = each_append (IsSoundMessage g i n F') (remove bag x) (messages_of i m.number m.to ds action)
        (fine_on g i n n F F' (remove bag x) (omega arith) (λ y f k e. still y.from (f.told k e))
        (each_remove (IsSoundMessage g i n F) x bag L.fine))
        (sent_fine g i n F' m.number m.to ok fine_m.low fine_m.positive fine_m.to_in ds action known told);
    in_range = range;
    engaged_in = λ k h. still k (L.engaged_in k h);
    once = L.once;
    begins = L.begins;
  }

  -- m may be dropped unless it goes along a dependency on a process that isn't awake
  pub dropped : ((a r : ℕ) → is_awake g r ≡ false → is_token n a r m ≡ true → ⊥)
      → IsSoundRun g i n F (remove bag x) engaged
  dropped none = rw append-nil at (received {F' = F} [] Nothing
      (steps.fewer L.state (λ a r. omega (arith, spent [] a r))
      (λ a r rest. grind (arith, none a r rest, spent [] a r)))
      (λ k l. l) L.in_range (λ r h. absurd (omega arith)) (λ to h. absurd (cc)))

  -- a message to an awake process may be dropped, and the run stays live
  pub discarded : is_awake g m.to ≡ true → IsSoundRun g i n F (remove bag x) engaged
  discarded awake = dropped
      (λ a r rest y. grind (arith, nat_tests, is_token_parts n a r m y, waiting a r y, L.rests a, L.positive))

  -- a query to a process of its own computation is answered at once, and the run stays live
  pub repeated : m.kind ≡ Query → (F m.to).latest ≡ m.number
      → IsSoundRun g i n F (remove bag x ++ reply i m.number m.to m.from ∷ []) engaged
  repeated is_query latest =
      let same = λ (a r : ℕ). rw is_query at (spent (reply i m.number m.to m.from ∷ []) a r) in
      received [] (ReplyTo m.from)
      (steps.fewer L.state (λ a r. omega (arith, same a r)) (λ a r rest. omega (arith, same a r)))
      (λ k l. l) L.in_range (λ r h. absurd (omega arith))
      (λ to h. let from_is : m.from ≡ to = cc in (rw (← from_is) fine_m.from_in, λ e. latest ∙ e))

  -- where the receiver takes part in an older computation, the run stays live
  older : (p : Proc) (ds : List ℕ) (action : Action) → m.number < n → (F m.to).latest < n → p.latest < n
      → p.wait ≡ true → (p.engager ≡ None → m.to ≡ i) → is_awake g m.to ≡ false → Reaches g i m.to
      → ((e : ℕ) → p.engager ≡ Some e → e < process_count g) → ((r : ℕ) → 0 < tally r ds → Depends g m.to r)
      → ((to : ℕ) → action ≡ ReplyTo to → to < process_count g)
      → IsSoundRun g i n (upd F m.to p) (remove bag x ++ messages_of i m.number m.to ds action) engaged
  older p ds action low before after waits top rests reached range known told =
      received ds action
      (steps.older L.state m.to p before after waits top rests reached
      (λ a r. grind (
        arith,
        nat_tests,
        spent (messages_of i m.number m.to ds action) a r,
        tokens-queries i n m.number m.to a r ds,
      )))
      (λ k l. grind (arith, nat_tests)) (λ k e h. grind (arith, nat_tests, range e, L.in_range k e))
      (λ r h. (known r h, reaches_more g i m.to r reached (known r h)))
      (λ to h. (told to h, λ e. absurd (omega arith)))

  -- where the receiver engages in the newest computation, the run stays live
  pub engages : (ds : List ℕ) → m.kind ≡ Query → m.number ≡ n → (F m.to).latest < n → is_awake g m.to ≡ false
      → ((r : ℕ) → 0 < tally r ds → Depends g m.to r) → ((r : ℕ) → tally r ds ≤ tally r (dependents_of g m.to))
      → IsDeadlocked g m.to ⊎ ((r : ℕ) → Contains (dependents_of g m.to) r → 0 < tally r ds)
      → IsSoundRun g i n (upd F m.to (proc_engaged m.number m.from (length ds)))
      (remove bag x ++ messages_of i m.number m.to ds (engage_action m.from (length ds))) (engaged ++ m.to ∷ [])
  engages ds is_query newest before rests known few settled =
      let action = engage_action m.from (length ds) in
      enlisted
      (received ds action
      (steps.engaged L.state m.to m.from (proc_engaged m.number m.from (length ds)) ds before newest refl refl refl
      (waiting m.from m.to
      (rw (is_query, eq-eqb m.number n newest, eq-eqb m.from m.from refl, eq-eqb m.to m.to refl) refl)).0 rests
      (fine_m.asked is_query).1 known few settled
      (λ a y. grind (
        arith,
        nat_tests,
        rw is_query at (spent (messages_of i m.number m.to ds action) a y),
        tokens-queries i n m.number m.to a y ds,
        tally-le-length y ds,
      )))
      (λ k l. grind (arith, nat_tests)) (λ k e h. grind (arith, nat_tests, fine_m.from_in, L.in_range k e))
      (λ r h. (known r h, reaches_more g i m.to r (fine_m.asked is_query).1 (known r h)))
      (λ to h. grind (arith, nat_tests, fine_m.from_in)))
      m.to (rw (eq-eqb m.to m.to refl) newest) (grind (arith, L.engaged_in m.to))

  -- the receiver after a reply that it waited for
  abbrev lowered : Proc
  lowered = record (F m.to) { num = (F m.to).num - 1 }

  -- where the receiver engages in an older computation, the run stays live
  pub engages_older : (ds : List ℕ) → m.kind ≡ Query → m.number < n → (F m.to).latest < n → is_awake g m.to ≡ false
      → ((r : ℕ) → 0 < tally r ds → Depends g m.to r)
      → IsSoundRun g i n (upd F m.to (proc_engaged m.number m.from (length ds)))
      (remove bag x ++ messages_of i m.number m.to ds (engage_action m.from (length ds))) engaged
  engages_older ds is_query low before rests known =
      older (proc_engaged m.number m.from (length ds)) ds (engage_action m.from (length ds)) low before low refl
      (λ e. absurd (cc)) rests (fine_m.asked is_query).1 (λ e h. grind (arith, fine_m.from_in)) known
      (λ to h. grind (arith, nat_tests, fine_m.from_in))

  -- where a reply of the newest computation is received, the run stays live
  pub replied : m.kind ≡ Reply → m.number ≡ n
      → IsSoundRun g i n (upd F m.to lowered)
      (remove bag x
      ++ messages_of i m.number m.to [] (if (F m.to).num == 1 then last_action (F m.to).engager else Nothing)) engaged
  replied is_reply newest =
      received [] action
      (steps.replied L.state m.to m.from lowered in_it.0 in_it.0 refl
      (L.waits m.to (omega (arith, in_it.0, L.positive))) (omega (arith, some_left)) in_it.1
      (fine_m.told is_reply newest)
      (λ a y. omega (arith, rw (is_reply, eq-eqb m.number n newest) at (spent new a y), debts a y)))
      (λ k l. grind (arith, nat_tests)) (λ k e h. grind (arith, nat_tests, L.in_range m.to e, L.in_range k e))
      (λ r h. absurd (omega arith))
      (λ to h. (grind (arith, L.in_range m.to to), λ e. rw (eq-eqb m.to m.to refl) in_it.0))
    where
      in_it : ((F m.to).latest ≡ n) × (0 < tally m.from (L.out m.to))
      in_it = waiting m.to m.from
          (rw (is_reply, eq-eqb m.number n newest, eq-eqb m.to m.to refl, eq-eqb m.from m.from refl) refl)

      some_left : 0 < (F m.to).num
      some_left = omega (arith, L.nums m.to in_it.0, tally-le-length m.from (L.out m.to), in_it.1)

      action : Action
      action = if (F m.to).num == 1 then last_action (F m.to).engager else Nothing

      new : List Message
      new = messages_of i m.number m.to [] action

      debts : (a y : ℕ) → tokens n new a y + one_if (owes n a (upd F m.to lowered y)) ≡ one_if (owes n a (F y))
      debts a y = elim (cases_eq y m.to) [
        | inl e ↦
            rw (e, newest, eq-eqb m.to m.to refl, eq-eqb (F m.to).latest n in_it.0)
            (grind (arith, nat_tests, some_left))
        | inr w ↦ rw (ne_eqb y m.to w) (grind (arith, nat_tests))
      ]

  -- where a reply of an older computation is received, the run stays live
  pub replied_older : m.number < n → (F m.to).wait ≡ true → (F m.to).latest ≡ m.number → (b : Bool)
      → IsSoundRun g i n (upd F m.to lowered)
      (remove bag x ++ messages_of i m.number m.to [] (cond b (last_action (F m.to).engager) Nothing)) engaged
  replied_older low waits latest b =
      let heard : 0 < (F m.to).latest = omega (arith, latest, fine_m.positive) in
      older lowered [] (cond b (last_action (F m.to).engager) Nothing) low (omega (arith, latest, low))
      (omega (arith, latest, low)) waits (L.tops m.to heard) (L.rests m.to heard)
      (L.reached m.to heard) (L.in_range m.to) (λ r h. absurd (omega arith))
      (λ to h. grind (arith, L.in_range m.to to))

-- where the initiator starts with a greater number, the run is live in the new computation
pub started : (g : Graph) (i n n' : ℕ) (F : ℕ → Proc) (bag : List Message) (p : Proc) (ds : List ℕ) → IsWithinGraph g
    → i < process_count g → is_awake g i ≡ false → steps.AllowsStart g i n F → n < n'
    → Each (IsSoundMessage g i n F) bag → ((k e : ℕ) → (F k).engager ≡ Some e → e < process_count g)
    → ds ≡ dependents_of g i
    → p ≡ record { latest = n'; engager = None; num = length ds; wait = true }
    → IsSoundRun g i n' (upd F i p) (bag ++ messages_of i n' i ds (if length ds == 0 then Declare else Engage)) (i ∷ [])
started g i n n' F bag p ds ok within rests allows_start later fine range is_deps is_p = record {
  state = steps.starts g i n n' F p ds allows_start later (rw is_p)
      (rw is_p) (rw is_p) (rw is_p) rests on_it (λ r c. tally_from_contains r ds (rw (← is_deps) at c))
      (λ r. rw is_deps (omega arith))
      (λ a y. grind (
        arith,
        nat_tests,
        sum_by-append (token n' a y) bag new,
        tokens-old n' a y bag
            (each_more (IsSoundMessage g i n F) (λ z. z.number ≡ n' → ⊥) bag (λ z f e. omega (arith, f.low)) fine),
        tokens-queries i n' n' i a y ds,
        tally-le-length y ds,
      ));
  fine = each_append (IsSoundMessage g i n' (upd F i p)) bag new
      (fine_on g i n n' F (upd F i p) bag (omega arith) (λ z f k e. absurd (omega (arith, f.low))) fine)
      (sent_fine g i n' (upd F i p) n' i ok (omega arith) (omega arith) within ds (start_action (length ds))
      (λ r h. (on_it r h, reaches_more g i i r (reaches_self g i) (on_it r h)))
      (λ to h. absurd (grind (arith, nat_tests))));
  in_range = λ k e h. grind (arith, nat_tests, range k e);
  engaged_in = λ k h. grind (arith, nat_tests);
  once = λ k. tally-le-length k (i ∷ []);
  begins = refl;
}
  where
    new : List Message
    new = messages_of i n' i ds (start_action (length ds))

    on_it : (r : ℕ) → 0 < tally r ds → Depends g i r
    on_it r h = (asleep_is_idle g i rests, rw is_deps at (contains_from_tally r ds h))
