-- Well formed is without a fault, and which fault is the first.
use Rattle.std.proofs.Common.{◌≡◌, ℕ, zero, suc, false, ◌<◌, ◌≤◌, ◌⊎◌, inl, inr, List, [], ◌∷◌, length, get_or, refl, sym, subst, arith}
use Rattle.std.specs.Prelude.{IsFalse, ◌↔◌}
use Rattle.std.specs.Cmp.{nat_cmp_is}
use Rattle.std.specs.Cmp.Lexicographic.{slice_cmp}
use Rattle.std.specs.Ordering.{is_lt, nat_cmp}
use Rattle.std.specs.declared.cmp.Ordering.TheVariants.{Equal, Greater}
use native.Mathlib.Decide.{dec_lt}
use Rattle.cmh_graph.specs.declared.TheConstants.{MAX_PROCESSES, MAX_DEPENDENCIES, MAX_IN_TRANSIT}
use Rattle.cmh_graph.specs.declared.fault.GraphFault.{GraphFault}
use Rattle.cmh_graph.specs.declared.fault.GraphFault.TheVariants.{TooManyProcesses, TooManyDependencies, DependentOutOfRange, RepeatedDependent, ActiveWithDependents, TooManyInTransit, TransitOutOfRange, Memory}
use Rattle.cmh_graph.specs.Build.{graph_fault_rank, dependent_count, message_at, HasGraphFault, IsFirstGraphFault, IsWellFormed}
use Rattle.cmh_graph.specs.First.{comes_before}
use Rattle.cmh_graph.specs.Graph.{Process, Graph, process_count, dependents_of, is_idle, nobody, dependent_at, IsWithinGraph}
use Rattle.cmh_graph.specs.Judge.{IsFirst, IsFirstDependent}

-- in a graph without a fault an active process has no dependents
empty_by : (g : Graph) (i : ℕ) (ds : List ℕ) → dependents_of g i ≡ ds → is_idle g i ≡ false
    → ((fault : GraphFault) → HasGraphFault g fault → ⊥) → ds ≡ []
empty_by g i [] e a h = refl
empty_by g i (d ∷ ds) e a h =
    let some : 0 < length (dependents_of g i) = rw e (omega arith) in
    absurd (h (ActiveWithDependents i) ((has_row g.processes i some, some), a))
  where
    has_row : (ps : List Process) (i : ℕ) → 0 < length (get_or ps i nobody).dependents → i < length ps
    has_row [] zero l = absurd (omega (arith, l))
    has_row [] (suc i) l = absurd (omega (arith, l))
    has_row (p ∷ ps) zero l = omega arith
    has_row (p ∷ ps) (suc i) l = omega (arith, has_row ps i l)

-- a graph without a fault is well formed
without_fault : (g : Graph) → ((fault : GraphFault) → HasGraphFault g fault → ⊥) → IsWellFormed g
without_fault g h = record {
  processes = not_above (process_count g) MAX_PROCESSES (h TooManyProcesses);
  dependencies = not_above (dependent_count g) MAX_DEPENDENCIES (h TooManyDependencies);
  within = λ i j e. not_from (dependent_at g i j) (process_count g) (λ l. h (DependentOutOfRange i j) (e, l));
  distinct = λ i j k e l s. h (RepeatedDependent i j) (e, k, l, s);
  waiting = λ i a. empty_by g i (dependents_of g i) refl a h;
  messages = not_above (length g.in_transit) MAX_IN_TRANSIT (h TooManyInTransit);
  sent_within = λ i l. not_from (message_at g i).0 (process_count g) (λ m. h (TransitOutOfRange i) (l, inl m));
  received_within = λ i l. not_from (message_at g i).1 (process_count g) (λ m. h (TransitOutOfRange i) (l, inr m));
}
  where
    not_above : (n m : ℕ) → (m < n → ⊥) → n ≤ m
    not_above n m h = elim (dec_lt m n) [ yes l ↦ absurd (h l) | no l ↦ omega (arith, l) ]

    not_from : (n m : ℕ) → (m ≤ n → ⊥) → n < m
    not_from n m h = elim (dec_lt n m) [ yes l ↦ l | no l ↦ absurd (h (omega (arith, l))) ]

-- a well-formed graph has no fault
no_fault : (g : Graph) → IsWellFormed g → (fault : GraphFault) → HasGraphFault g fault → ⊥
no_fault g w TooManyProcesses h = omega (arith, w.processes, h)
no_fault g w TooManyDependencies h = omega (arith, w.dependencies, h)
no_fault g w (DependentOutOfRange i j) h = let l = w.within i j h.0 in omega (arith, l, h.1)
no_fault g w (RepeatedDependent i j) h = w.distinct i j h.1 h.0 h.2 h.3
no_fault g w (ActiveWithDependents i) h = let e = w.waiting i h.1 in let l : 0 < length (dependents_of g i) =
    h.0.1 in let z : 0 < 0 = subst (λ (ds : List ℕ). 0 < length ds) e l in omega (arith, z)
no_fault g w TooManyInTransit h = omega (arith, w.messages, h)
no_fault g w (TransitOutOfRange i) (l, inl h) = let b = w.sent_within i l in omega (arith, b, h)
no_fault g w (TransitOutOfRange i) (l, inr h) = let b = w.received_within i l in omega (arith, b, h)
no_fault g w Memory h = h

-- a graph is well formed just where it has no fault
pub well_formed_law : (g : Graph) → IsWellFormed g ↔ ((fault : GraphFault) → HasGraphFault g fault → ⊥)
well_formed_law = λ g. (λ w fault h. no_fault g w fault h, λ h. without_fault g h)

-- ---- the first fault

-- a number compares as equal to itself
cmp_same : (k : ℕ) → nat_cmp k k ≡ Equal
cmp_same k = sym (nat_cmp_is k k Equal refl)

-- a number that is no less than another does not come before it
not_below : (b j : ℕ) → j ≤ b → is_lt (slice_cmp nat_cmp (b ∷ []) (j ∷ [])) ≡ false
not_below b j l =
    elim (dec_lt j b) [
      | yes h ↦ rw (sym (nat_cmp_is b j Greater h)) refl
      | no h ↦ let same : b ≡ j = omega (arith, h, l) in rw (sym (nat_cmp_is b j Equal same)) refl
    ]

-- of two faults of a kind with one index, that of no lower index doesn't come before the other
one_first : (k i a : ℕ) → i ≤ a → is_lt (slice_cmp nat_cmp (k ∷ a ∷ []) (k ∷ i ∷ [])) ≡ false
one_first k i a l = rw (cmp_same k) (not_below a i l)

-- of two faults of a kind with two indices, that whose indices are no earlier doesn't come before
pub pair_first : (k i j a b : ℕ) → (i < a) ⊎ ((i ≡ a) × (j ≤ b))
    → is_lt (slice_cmp nat_cmp (k ∷ a ∷ b ∷ []) (k ∷ i ∷ j ∷ [])) ≡ false
pair_first k i j a b (inl h) = rw (cmp_same k, sym (nat_cmp_is a i Greater h)) refl
pair_first k i j a b (inr h) = rw (cmp_same k, sym (nat_cmp_is a i Equal (sym h.0))) (not_below b j h.1)

-- where no fault of an earlier kind holds, none comes before the first repeated dependent
first_repeat_by : (g : Graph) (i j : ℕ) → process_count g ≤ MAX_PROCESSES → dependent_count g ≤ MAX_DEPENDENCIES
    → IsWithinGraph g → IsFirstDependent (λ i j. HasGraphFault g (RepeatedDependent i j)) i j → (other : GraphFault)
    → HasGraphFault g other
    → IsFalse (comes_before (graph_fault_rank other) (graph_fault_rank (RepeatedDependent i j)))
first_repeat_by g i j np nd nr f TooManyProcesses h = absurd (omega (arith, np, h))
first_repeat_by g i j np nd nr f TooManyDependencies h = absurd (omega (arith, nd, h))
first_repeat_by g i j np nd nr f (DependentOutOfRange a b) h = absurd (let l = nr a b h.0 in omega (arith, l, h.1))
first_repeat_by g i j np nd nr f (RepeatedDependent a b) h = pair_first 4 i j a b (f.first a b h)
first_repeat_by g i j np nd nr f (ActiveWithDependents a) h = refl
first_repeat_by g i j np nd nr f TooManyInTransit h = refl
first_repeat_by g i j np nd nr f (TransitOutOfRange a) h = refl
first_repeat_by g i j np nd nr f Memory h = absurd h

-- where no fault of an earlier kind holds, the first repeated dependent is the first fault of the graph
pub first_repeat : (g : Graph) (i j : ℕ) → process_count g ≤ MAX_PROCESSES → dependent_count g ≤ MAX_DEPENDENCIES
    → IsWithinGraph g → IsFirstDependent (λ i j. HasGraphFault g (RepeatedDependent i j)) i j
    → IsFirstGraphFault g (RepeatedDependent i j)
first_repeat g i j np nd nr f = record { had = f.holds; first = first_repeat_by g i j np nd nr f }

-- where no fault of an earlier kind holds, none comes before the first active process with dependents
first_active_by : (g : Graph) (i : ℕ) → process_count g ≤ MAX_PROCESSES → dependent_count g ≤ MAX_DEPENDENCIES
    → IsWithinGraph g → ((i j : ℕ) → HasGraphFault g (RepeatedDependent i j) → ⊥)
    → IsFirst (λ i. HasGraphFault g (ActiveWithDependents i)) i → (other : GraphFault) → HasGraphFault g other
    → IsFalse (comes_before (graph_fault_rank other) (graph_fault_rank (ActiveWithDependents i)))
first_active_by g i np nd nr ne f TooManyProcesses h = absurd (omega (arith, np, h))
first_active_by g i np nd nr ne f TooManyDependencies h = absurd (omega (arith, nd, h))
first_active_by g i np nd nr ne f (DependentOutOfRange a b) h = absurd (let l = nr a b h.0 in omega (arith, l, h.1))
first_active_by g i np nd nr ne f (RepeatedDependent a b) h = absurd (ne a b h)
first_active_by g i np nd nr ne f (ActiveWithDependents a) h = one_first 5 i a (f.first a h)
first_active_by g i np nd nr ne f TooManyInTransit h = refl
first_active_by g i np nd nr ne f (TransitOutOfRange a) h = refl
first_active_by g i np nd nr ne f Memory h = absurd h

-- where no fault of an earlier kind holds, the first active process with dependents is the first fault of the graph
pub first_active : (g : Graph) (i : ℕ) → process_count g ≤ MAX_PROCESSES → dependent_count g ≤ MAX_DEPENDENCIES
    → IsWithinGraph g → ((i j : ℕ) → HasGraphFault g (RepeatedDependent i j) → ⊥)
    → IsFirst (λ i. HasGraphFault g (ActiveWithDependents i)) i → IsFirstGraphFault g (ActiveWithDependents i)
first_active g i np nd nr ne f = record { had = f.holds; first = first_active_by g i np nd nr ne f }

-- where no fault of an earlier kind holds, none comes before too many messages in transit
first_in_transit_by : (g : Graph) → process_count g ≤ MAX_PROCESSES → dependent_count g ≤ MAX_DEPENDENCIES
    → IsWithinGraph g
    → ((i j : ℕ) → HasGraphFault g (RepeatedDependent i j) → ⊥)
    → ((i : ℕ) → HasGraphFault g (ActiveWithDependents i) → ⊥)
    → MAX_IN_TRANSIT < length g.in_transit → (other : GraphFault) → HasGraphFault g other
    → IsFalse (comes_before (graph_fault_rank other) (graph_fault_rank TooManyInTransit))
first_in_transit_by g np nd nr ne na f TooManyProcesses h = absurd (omega (arith, np, h))
first_in_transit_by g np nd nr ne na f TooManyDependencies h = absurd (omega (arith, nd, h))
first_in_transit_by g np nd nr ne na f (DependentOutOfRange a b) h =
    absurd (let l = nr a b h.0 in omega (arith, l, h.1))
first_in_transit_by g np nd nr ne na f (RepeatedDependent a b) h = absurd (ne a b h)
first_in_transit_by g np nd nr ne na f (ActiveWithDependents a) h = absurd (na a h)
first_in_transit_by g np nd nr ne na f TooManyInTransit h = refl
first_in_transit_by g np nd nr ne na f (TransitOutOfRange a) h = refl
first_in_transit_by g np nd nr ne na f Memory h = absurd h

-- where no fault of an earlier kind holds, too many messages in transit are the first fault of the graph
pub first_in_transit : (g : Graph) → process_count g ≤ MAX_PROCESSES → dependent_count g ≤ MAX_DEPENDENCIES
    → IsWithinGraph g → ((i j : ℕ) → HasGraphFault g (RepeatedDependent i j) → ⊥)
    → ((i : ℕ) → HasGraphFault g (ActiveWithDependents i) → ⊥)
    → MAX_IN_TRANSIT < length g.in_transit → IsFirstGraphFault g TooManyInTransit
first_in_transit g np nd nr ne na f = record { had = f; first = first_in_transit_by g np nd nr ne na f }

-- where no fault of an earlier kind holds, none comes before the first message out of range
first_transit_by : (g : Graph) (i : ℕ) → process_count g ≤ MAX_PROCESSES → dependent_count g ≤ MAX_DEPENDENCIES
    → IsWithinGraph g → ((i j : ℕ) → HasGraphFault g (RepeatedDependent i j) → ⊥)
    → ((i : ℕ) → HasGraphFault g (ActiveWithDependents i) → ⊥)
    → length g.in_transit ≤ MAX_IN_TRANSIT → IsFirst (λ i. HasGraphFault g (TransitOutOfRange i)) i
    → (other : GraphFault)
    → HasGraphFault g other → IsFalse (comes_before (graph_fault_rank other) (graph_fault_rank (TransitOutOfRange i)))
first_transit_by g i np nd nr ne na nt f TooManyProcesses h = absurd (omega (arith, np, h))
first_transit_by g i np nd nr ne na nt f TooManyDependencies h = absurd (omega (arith, nd, h))
first_transit_by g i np nd nr ne na nt f (DependentOutOfRange a b) h =
    absurd (let l = nr a b h.0 in omega (arith, l, h.1))
first_transit_by g i np nd nr ne na nt f (RepeatedDependent a b) h = absurd (ne a b h)
first_transit_by g i np nd nr ne na nt f (ActiveWithDependents a) h = absurd (na a h)
first_transit_by g i np nd nr ne na nt f TooManyInTransit h = absurd (omega (arith, nt, h))
first_transit_by g i np nd nr ne na nt f (TransitOutOfRange a) h = one_first 7 i a (f.first a h)
first_transit_by g i np nd nr ne na nt f Memory h = absurd h

-- where no fault of an earlier kind holds, the first message out of range is the first fault of the graph
pub first_transit : (g : Graph) (i : ℕ) → process_count g ≤ MAX_PROCESSES → dependent_count g ≤ MAX_DEPENDENCIES
    → IsWithinGraph g → ((i j : ℕ) → HasGraphFault g (RepeatedDependent i j) → ⊥)
    → ((i : ℕ) → HasGraphFault g (ActiveWithDependents i) → ⊥)
    → length g.in_transit ≤ MAX_IN_TRANSIT → IsFirst (λ i. HasGraphFault g (TransitOutOfRange i)) i
    → IsFirstGraphFault g (TransitOutOfRange i)
first_transit g i np nd nr ne na nt f = record { had = f.holds; first = first_transit_by g i np nd nr ne na nt f }

-- messages within the graph are not out of range
transit_none : (g : Graph)
    → ((i : ℕ) → i < length g.in_transit
    → ((message_at g i).0 < process_count g) × ((message_at g i).1 < process_count g)) → (i : ℕ)
    → HasGraphFault g (TransitOutOfRange i) → ⊥
transit_none g n i (l, inl h) = let b = n i l in omega (arith, b.0, h)
transit_none g n i (l, inr h) = let b = n i l in omega (arith, b.1, h)

-- a graph within its limits is well formed where nothing is out of range, no dependent repeats and no active process
-- has dependents
pub well_formed_then : (g : Graph) → process_count g ≤ MAX_PROCESSES → dependent_count g ≤ MAX_DEPENDENCIES
    → IsWithinGraph g → ((i j : ℕ) → HasGraphFault g (RepeatedDependent i j) → ⊥)
    → ((i : ℕ) → HasGraphFault g (ActiveWithDependents i) → ⊥)
    → length g.in_transit ≤ MAX_IN_TRANSIT
    → ((i : ℕ) → i < length g.in_transit
    → ((message_at g i).0 < process_count g) × ((message_at g i).1 < process_count g)) → IsWellFormed g
well_formed_then g np nd nr ne na nt n = without_fault g (none_of g np nd nr ne na nt n)
  where
    none_of : (g : Graph) → process_count g ≤ MAX_PROCESSES → dependent_count g ≤ MAX_DEPENDENCIES → IsWithinGraph g
        → ((i j : ℕ) → HasGraphFault g (RepeatedDependent i j) → ⊥)
        → ((i : ℕ) → HasGraphFault g (ActiveWithDependents i) → ⊥)
        → length g.in_transit ≤ MAX_IN_TRANSIT
        → ((i : ℕ) → i < length g.in_transit
        → ((message_at g i).0 < process_count g) × ((message_at g i).1 < process_count g)) → (fault : GraphFault)
        → HasGraphFault g fault → ⊥
    none_of g np nd nr ne na nt n TooManyProcesses h = omega (arith, np, h)
    none_of g np nd nr ne na nt n TooManyDependencies h = omega (arith, nd, h)
    none_of g np nd nr ne na nt n (DependentOutOfRange a b) h = let l = nr a b h.0 in omega (arith, l, h.1)
    none_of g np nd nr ne na nt n (RepeatedDependent a b) h = ne a b h
    none_of g np nd nr ne na nt n (ActiveWithDependents a) h = na a h
    none_of g np nd nr ne na nt n TooManyInTransit h = omega (arith, nt, h)
    none_of g np nd nr ne na nt n (TransitOutOfRange a) h = transit_none g n a h
    none_of g np nd nr ne na nt n Memory h = h
