-- What summaries say of leaders and paths.
use Rattle.std.proofs.Common.{◌≡◌, ◌∙◌, ℕ, zero, suc, ◌+◌, ◌<◌, ◌≤◌, Bool, true, false, List, [], ◌∷◌, ◌++◌, length, length-append, map, drop, take, take_all, get_or, add-one, refl, sym, ap, subst}
use Rattle.std.proofs.lemmas.Bool.{true≢false}
use Rattle.std.proofs.lemmas.List.{take_more}
use Rattle.std.proofs.lemmas.Option.{slice_get-get_or, slice_get_past}
use Rattle.std.proofs.lemmas.Simd.{map-map}
use Rattle.std.specs.Prelude.{slice_get, unwrap_or, IsSome, None, Option, Some}
use Rattle.cmh_graph.specs.ChosenPath.{chosen_path}
use Rattle.cmh_graph.specs.Core.{group_leader, leader_of}
use Rattle.cmh_graph.specs.Graph.{Graph, indices, is_awake, is_idle, process_count, IsWithinGraph}
use Rattle.cmh_graph.specs.Verdict.{is_deadlocked}
use Rattle.cmh_graph.proofs.ChosenPathLemmas.{chosen_path_law, way_out}
use Rattle.cmh_graph.proofs.IndexLists.{by_index, by_index_agree, length-by_index}
use Rattle.cmh_graph.proofs.Verdicts.{deadlocked_from_test, idle_within, test_from_deadlocked}
use Rattle.cmh_text.specs.Chunks.{path_count}
use Rattle.cmh_text.specs.Summary.{leader_in, leaders_in, next_in, summary_of, AreSummariesOf}
use Rattle.cmh_text.specs.declared.summary.Summary.{Summary}
use Rattle.cmh_text.specs.declared.summary.Summary.TheVariants.{Active, Deadlocked, Free}
use Rattle.cmh_text.proofs.ChosenPaths.{chosen_first, chosen_from, chosen_rest, not_both}

-- there is a summary of each process
pub summaries_size : (g : Graph) (list : List Summary) → AreSummariesOf g list → length list ≡ process_count g
summaries_size g list are = ap length are ∙ length-by_index g (summary_of g)

-- ---- leaders

-- a process that isn't idle isn't deadlocked
active_free : (g : Graph) (p : ℕ) → is_idle g p ≡ false → is_deadlocked g p ≡ false
unfolding is_deadlocked
active_free g p e = rw e refl

-- by whether a process is idle and deadlocked, its summary names the leader of its group
leader_by : (g : Graph) (p : ℕ) (idle dead : Bool) → is_idle g p ≡ idle → is_deadlocked g p ≡ dead
    → leader_in (summary_of g p) ≡ group_leader g p
unfolding summary_of group_leader
leader_by g p true true e f = rw (e, f) refl
leader_by g p true false e f = rw (e, f) refl
leader_by g p false dead e f = rw (e, active_free g p e) refl

-- the summaries name the leader of each process, if it is deadlocked
pub leaders_told : (g : Graph) (list : List Summary) → AreSummariesOf g list
    → leaders_in list ≡ map (group_leader g) (indices g)
leaders_told g list are =
    ap leaders_in are
    ∙ map-map leader_in (summary_of g) (indices g)
    ∙ by_index_agree g (λ p. leader_in (summary_of g p)) (group_leader g) None
    (λ p l. leader_by g p (is_idle g p) (is_deadlocked g p) refl refl)

-- ---- what one summary says

-- by whether a process is idle and deadlocked, a leader in its summary is its leader
deadlocked_by : (g : Graph) (p leader : ℕ) (idle dead : Bool) → is_idle g p ≡ idle → is_deadlocked g p ≡ dead
    → summary_of g p ≡ Deadlocked leader → (is_deadlocked g p ≡ true) × (leader_of g p ≡ leader)
unfolding summary_of
deadlocked_by g p leader true true e f is = let same = rw (e, f) at is in (f, ap (λ s. unwrap_or (leader_in s) 0) same)
deadlocked_by g p leader true false e f is = let same = rw (e, f) at is in absurd cc
deadlocked_by g p leader false dead e f is = let same = rw e at is in absurd cc

-- where its summary names a leader, a process is deadlocked, and that is its leader
pub deadlocked_then : (g : Graph) (p leader : ℕ) → summary_of g p ≡ Deadlocked leader
    → (is_deadlocked g p ≡ true) × (leader_of g p ≡ leader)
deadlocked_then g p leader is = deadlocked_by g p leader (is_idle g p) (is_deadlocked g p) refl refl is

-- p is idle and free, and its chosen path has this next process and this number of processes
pub record IsFreeBy (g : Graph) (p : ℕ) (next : Option ℕ) (count : ℕ) : Type 0 where
  pub idle : is_idle g p ≡ true
  pub free : is_deadlocked g p ≡ false
  pub second : slice_get (unwrap_or (chosen_path g p) []) 1 ≡ next
  pub size : length (unwrap_or (chosen_path g p) []) ≡ count

free_by : (g : Graph) (p : ℕ) (next : Option ℕ) (count : ℕ) (idle dead : Bool) → is_idle g p ≡ idle
    → is_deadlocked g p ≡ dead → summary_of g p ≡ Free next count → IsFreeBy g p next count
unfolding summary_of
free_by g p next count true false e f is =
    let same = rw (e, f) at is in
    record { idle = e; free = f; second = ap next_in same; size = ap path_count same }
free_by g p next count true true e f is = let same = rw (e, f) at is in absurd cc
free_by g p next count false dead e f is = let same = rw e at is in absurd cc

pub free_then : (g : Graph) (p : ℕ) (next : Option ℕ) (count : ℕ) → summary_of g p ≡ Free next count
    → IsFreeBy g p next count
free_then g p next count is = free_by g p next count (is_idle g p) (is_deadlocked g p) refl refl is

-- an idle process isn't summed up as an active one
idle_by : (g : Graph) (p : ℕ) (dead : Bool) → is_idle g p ≡ true → is_deadlocked g p ≡ dead
    → summary_of g p ≡ Active → ⊥
unfolding summary_of
idle_by g p true e f is = let same = rw (e, f) at is in cc
idle_by g p false e f is = let same = rw (e, f) at is in cc

pub idle_then : (g : Graph) (p : ℕ) → is_idle g p ≡ true → summary_of g p ≡ Active → ⊥
idle_then g p e is = idle_by g p (is_deadlocked g p) e refl is

-- ---- the next process

-- an active process is alone its chosen path
active_alone : (g : Graph) (p : ℕ) (path : List ℕ) → IsWithinGraph g → p < process_count g → is_idle g p ≡ false
    → chosen_path g p ≡ Some path → length path ≤ 1
active_alone g p path w i e is =
    let awake : is_awake g p ≡ true = rw e refl in
    ((chosen_path_law g p path w i).0 is).shortest (p ∷ []) (p, awake, (refl, refl))

-- a process with a chosen path isn't deadlocked
chosen_free : (g : Graph) (p : ℕ) (path : List ℕ) → IsWithinGraph g → p < process_count g
    → chosen_path g p ≡ Some path → is_deadlocked g p ≡ true → ⊥
chosen_free g p path w i is dead =
    let out = ((chosen_path_law g p path w i).0 is).awake in
    not_both (is_awake g out.0) out.1 ((deadlocked_from_test g p w dead).1 out.0 (path, out.2))

-- by whether a process is idle and deadlocked, its summary names the second of its chosen path
next_by : (g : Graph) (p : ℕ) (path : List ℕ) (idle dead : Bool) → IsWithinGraph g → p < process_count g
    → chosen_path g p ≡ Some path → is_idle g p ≡ idle → is_deadlocked g p ≡ dead
    → next_in (summary_of g p) ≡ slice_get path 1
unfolding summary_of
next_by g p path true true w i is e f = absurd (chosen_free g p path w i is f)
next_by g p path true false w i is e f = rw (e, f) (ap (λ o. slice_get (unwrap_or o []) 1) is)
next_by g p path false dead w i is e f = rw e (sym (slice_get_past path 1 (active_alone g p path w i e is)))

-- the summary of a process of a chosen path names the process after it
pub next_told : (g : Graph) (p n q : ℕ) (path : List ℕ) (list : List Summary) (d : Summary) → IsWithinGraph g
    → p < process_count g → AreSummariesOf g list → chosen_path g p ≡ Some path → n < length path
    → get_or path n 0 ≡ q → next_in (get_or list q d) ≡ slice_get path (n + 1)
next_told g p n q path list d w i are is l at =
    let from = chosen_from g n p path w i is l in
    let here = subst (λ r. (r < process_count g) × (chosen_path g r ≡ Some (drop n path))) at from in
    ap next_in (by_index g (summary_of g) list q d are here.0)
    ∙ next_by g q (drop n path) (is_idle g q) (is_deadlocked g q) w here.0 here.1 refl refl
    ∙ slice_get_after path n
    ∙ ap (slice_get path) (sym (add-one n))
  where
    slice_get_after : (xs : List ℕ) (n : ℕ) → slice_get (drop n xs) 1 ≡ slice_get xs (suc n)
    slice_get_after [] zero = refl
    slice_get_after (x ∷ xs) zero = refl
    slice_get_after [] (suc n) = refl
    slice_get_after (x ∷ xs) (suc n) = slice_get_after xs n

-- ---- a path that is walked

-- a process that isn't deadlocked has a chosen path
some_path : (o : Option (List ℕ)) → IsSome o → o ≡ Some (unwrap_or o [])
some_path (Some path) s = refl
some_path None s = cc

-- where its summary is of a path, a process has a chosen path
path_known : (g : Graph) (p : ℕ) (next : Option ℕ) (count : ℕ) → IsWithinGraph g → summary_of g p ≡ Free next count
    → chosen_path g p ≡ Some (unwrap_or (chosen_path g p) [])
path_known g p next count w is =
    let by = free_then g p next count is in
    some_path (chosen_path g p)
    (way_out g p (chosen_path g p) w (idle_within g p by.idle)
    (λ dead. true≢false (sym (test_from_deadlocked g p dead) ∙ by.free)) refl)

-- the processes are the first of the chosen path of p, and this one comes after them, if any does
pub record IsWalked (g : Graph) (p : ℕ) (walked : List ℕ) (next : Option ℕ) : Type 0 where
  pub within : p < process_count g
  pub chosen : chosen_path g p ≡ Some (unwrap_or (chosen_path g p) [])
  pub front : walked ≡ take (length walked) (unwrap_or (chosen_path g p) [])
  pub after : next ≡ slice_get (unwrap_or (chosen_path g p) []) (length walked)

-- a chosen path begins with its process
begins : (g : Graph) (p : ℕ) (path : List ℕ) → IsWithinGraph g → p < process_count g → chosen_path g p ≡ Some path
    → p ∷ [] ≡ take 1 path
begins g p [] w i is = absurd ((chosen_path_law g p [] w i).0 is).awake.2
begins g p (x ∷ rest) w i is = ap (λ q. q ∷ []) (sym (chosen_first g p x rest w i is))

-- at first p alone is walked
pub walk_start : (g : Graph) (p : ℕ) (next : Option ℕ) (count : ℕ) (walked : List ℕ) → IsWithinGraph g
    → summary_of g p ≡ Free next count → walked ≡ p ∷ [] → IsWalked g p walked next
walk_start g p next count walked w is alone =
    let by = free_then g p next count is in
    let i = idle_within g p by.idle in
    let chosen = path_known g p next count w is in
    subst (λ xs. IsWalked g p xs next) (sym alone) (record {
      within = i;
      chosen = chosen;
      front = begins g p _ w i chosen;
      after = sym by.second;
    })

-- while the path isn't walked to its end, the next process is on it
pub walk_next : (g : Graph) (p q : ℕ) (walked : List ℕ) (next : Option ℕ) → IsWithinGraph g → IsWalked g p walked next
    → length walked < length (unwrap_or (chosen_path g p) []) → next ≡ Some q
    → (get_or (unwrap_or (chosen_path g p) []) (length walked) 0 ≡ q) × (q < process_count g)
walk_next g p q walked next w h l is =
    let path = unwrap_or (chosen_path g p) [] in
    let there : Some (get_or path (length walked) 0) ≡ Some q =
    sym (slice_get-get_or path (length walked) 0 l) ∙ sym h.after ∙ is in
    let same : get_or path (length walked) 0 ≡ q = cc in
    (same, subst (λ r. r < process_count g) same (chosen_from g (length walked) p path w h.within h.chosen l).0)

-- while the path isn't walked to its end, there is a next process
pub walk_on : (g : Graph) (p : ℕ) (walked : List ℕ) (next : Option ℕ) → IsWalked g p walked next
    → length walked < length (unwrap_or (chosen_path g p) []) → IsSome next
walk_on g p walked next h l =
    subst IsSome (sym (h.after ∙ slice_get-get_or (unwrap_or (chosen_path g p) []) (length walked) 0 l)) refl

-- once the next process is walked too, its summary names the one after it
pub walk_more : (g : Graph) (p q : ℕ) (walked : List ℕ) (next : Option ℕ) (list : List Summary) (d : Summary)
    → IsWithinGraph g → AreSummariesOf g list → IsWalked g p walked next
    → length walked < length (unwrap_or (chosen_path g p) []) → next ≡ Some q
    → IsWalked g p (walked ++ q ∷ []) (next_in (get_or list q d))
walk_more g p q walked next list d w are h l is =
    let path = unwrap_or (chosen_path g p) [] in
    let n = length walked in
    let at = (walk_next g p q walked next w h l is).0 in
    let size : length (walked ++ q ∷ []) ≡ n + 1 = length-append walked (q ∷ []) in
    record {
      within = h.within;
      chosen = h.chosen;
      front =
          (λ i. h.front i ++ sym at i ∷ [])
          ∙ sym (take_more path n 0 l)
          ∙ ap (λ k. take k path) (sym size);
      after =
          next_told g p n q path list d w h.within are h.chosen l at
          ∙ ap (slice_get path) (sym size);
    }

-- a path that is walked to its end is the chosen path
pub walk_end : (g : Graph) (p : ℕ) (walked : List ℕ) (next : Option ℕ) → IsWalked g p walked next
    → length (unwrap_or (chosen_path g p) []) ≤ length walked → chosen_path g p ≡ Some walked
walk_end g p walked next h l =
    h.chosen ∙ ap Some (sym (take_all (length walked) (unwrap_or (chosen_path g p) []) l) ∙ sym h.front)

-- ---- a path that begins one process before another

-- a chosen path with q second is its process and then the path of q
path_then : (g : Graph) (p q : ℕ) (path rest : List ℕ) → IsWithinGraph g → p < process_count g
    → chosen_path g p ≡ Some path → slice_get path 1 ≡ Some q → chosen_path g q ≡ Some rest
    → chosen_path g p ≡ Some (p ∷ rest)
path_then g p q [] rest w i is second after = absurd cc
path_then g p q (x ∷ []) rest w i is second after = absurd cc
path_then g p q (x ∷ y ∷ more) rest w i is second after =
    let same : y ≡ q = cc in
    let whole = subst (λ r. chosen_path g p ≡ Some (r ∷ y ∷ more)) (chosen_first g p x (y ∷ more) w i is) is in
    let tail : Some (y ∷ more) ≡ Some rest =
    sym (chosen_rest g p y more w i whole).1 ∙ ap (chosen_path g) same ∙ after in
    whole ∙ ap (λ o. Some (p ∷ unwrap_or o [])) tail

-- where its summary names the next process, a path is its process and then the path of the next one
pub path_before : (g : Graph) (p q : ℕ) (count : ℕ) (rest : List ℕ) → IsWithinGraph g
    → summary_of g p ≡ Free (Some q) count → chosen_path g q ≡ Some rest → chosen_path g p ≡ Some (p ∷ rest)
path_before g p q count rest w is after =
    let by = free_then g p (Some q) count is in
    path_then g p q _ rest w (idle_within g p by.idle) (path_known g p (Some q) count w is) by.second after

-- a chosen path is that of its first process
pub path_by_first : (g : Graph) (p q : ℕ) (path : List ℕ) → IsWithinGraph g → p < process_count g
    → chosen_path g p ≡ Some path → slice_get path 0 ≡ Some q → chosen_path g q ≡ Some path
path_by_first g p q [] w i is first = absurd cc
path_by_first g p q (x ∷ rest) w i is first =
    let same : x ≡ q = cc in
    subst (λ r. chosen_path g r ≡ Some (x ∷ rest)) (sym (chosen_first g p x rest w i is) ∙ same) is
