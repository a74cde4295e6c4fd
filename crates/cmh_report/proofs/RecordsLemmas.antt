-- What records say of the graph: the numbers of idle and of deadlocked processes, and a summary of each.
use Rattle.std.proofs.Common.{◌≡◌, ℕ, ◌+◌, ◌<◌, ◌≤◌, Bool, true, false, cond, zero, suc, inl, inr, List, [], ◌∷◌, length, map, take, take_all, get_or, set, replicate, refl, sym, ◌∙◌, ap, subst, arith}
use Rattle.std.specs.Prelude.{All, Contains, filter, count_by, unwrap_or}
use Rattle.std.proofs.lemmas.Bool.{cases_eq}
use Rattle.std.proofs.lemmas.List.{get_or-map, get_or-set_same, get_or-set_other, length-map, length-replicate, length-set}
use Rattle.std.proofs.lemmas.List.Elements.{All-tail}
use Rattle.std.proofs.lemmas.List.FromFn.{fill_by_all}
use Rattle.std.proofs.lemmas.List.Sums.{sum_by-cons}
use Rattle.cmh_graph.specs.declared.verdict.Verdict.{Verdict}
use Rattle.cmh_graph.specs.declared.verdict.Verdict.TheVariants.{Deadlocked, Free}
use Rattle.cmh_graph.specs.Graph.{Graph, process_count, indices, is_idle, idle_list, IsWithinGraph}
use Rattle.cmh_graph.specs.Verdict.{is_deadlocked, IsDeadlocked, IsVerdict, says_deadlocked}
use Rattle.cmh_graph.proofs.PositionLemmas.{taken_last, taken_more, taken_stays}
use Rattle.cmh_graph.proofs.PathLemmas.{contains_index}
use Rattle.cmh_graph.proofs.Verdicts.{contains_filter, filter_contains, test_from_deadlocked, deadlocked_from_test}
use Rattle.cmh_run.specs.Run.{Run}
use Rattle.cmh_work.specs.declared.record.Analysis.{Analysis}
use Rattle.cmh_work.specs.declared.record.Record.{Record}
use Rattle.cmh_work.specs.declared.record.Shape.{Shape}
use Rattle.cmh_work.specs.declared.record.Shape.TheVariants.{Path, Leader}
use Rattle.cmh_work.specs.Analysis.{records_of, initiator_of}
use Rattle.cmh_work.specs.Shape.{IsShape}
use Rattle.cmh_text.specs.Report.{deadlocked_count}
use Rattle.cmh_text.specs.Summary.{path_summary, summary_of, AreSummariesOf}
use Rattle.cmh_text.specs.declared.summary.Summary.{Summary}
use Rattle.cmh_text.specs.declared.summary.Summary.TheVariants as summary
use Rattle.cmh_text.specs.declared.summary.Summary.TheVariants.{Active}
use Rattle.cmh_text.proofs.ChosenPaths.{not_both}
use Rattle.cmh_text.proofs.Counts.{active_and_idle}
use Rattle.cmh_report.specs.Records.{AreRecordsOf, IsSomeAnalysisOf, summary_in, tells_deadlocked, TellsOf}

-- there are as many records as idle processes
pub records_count : {L : Type 0} (listed : L → List ℕ) (g : Graph) (records : List (Record Run L))
    → AreRecordsOf listed g records
    → length records ≡ length (idle_list g)
records_count listed g records are = sym (length-map records initiator_of) ∙ ap length are.order

-- there are no more records than processes
pub records_few : {L : Type 0} (listed : L → List ℕ) (g : Graph) (records : List (Record Run L))
    → AreRecordsOf listed g records
    → length records ≤ process_count g
records_few listed g records are = omega (arith, records_count listed g records are, active_and_idle g)

-- a record is of the idle process at its place
pub initiator_at : {L : Type 0} (listed : L → List ℕ) (g : Graph) (records : List (Record Run L)) (i : ℕ)
    (r : Record Run L) → AreRecordsOf listed g records → i < length records → get_or records i r ≡ r
    → get_or (idle_list g) i 0 ≡ r.initiator
initiator_at listed g records i r are l is =
    ap (λ xs. get_or xs i 0) (sym are.order)
    ∙ get_or-map initiator_of records i r 0 l
    ∙ ap initiator_of is

-- each of the records has the verdict and the summary of its process
pub tells_at : {L : Type 0} (listed : L → List ℕ) (g : Graph) (records : List (Record Run L)) (i : ℕ) (r : Record Run L)
    → AreRecordsOf listed g records → i < length records → get_or records i r ≡ r → TellsOf listed g r
tells_at listed g records i r are l is = subst (TellsOf listed g) is (are.tell i r l)

-- ---- verdicts

-- a process that isn't deadlocked doesn't pass the test of deadlocked ones
fails_where_free : (g : Graph) (p : ℕ) (b : Bool) → IsWithinGraph g
    → ¬ (IsDeadlocked g p) → is_deadlocked g p ≡ b → b ≡ false
fails_where_free g p true w free e = absurd (free (deadlocked_from_test g p w e))
fails_where_free g p false w free e = refl

-- a true verdict is what the test says
verdict_test : (g : Graph) (p : ℕ) (v : Verdict) → IsWithinGraph g → IsVerdict g p v
    → is_deadlocked g p ≡ says_deadlocked v
verdict_test g p Deadlocked w is = test_from_deadlocked g p is
verdict_test g p Free w is = fails_where_free g p (is_deadlocked g p) w is refl

-- an element in front adds 1 to a count, where it passes the test
count_cons : {X : Type 0} (p : X → Bool) (x : X) (xs : List X)
    → count_by p (x ∷ xs) ≡ cond {A = ℕ} (p x) 1 0 + count_by p xs
count_cons p x xs = sum_by-cons (λ y. cond {A = ℕ} (p y) 1 0) x xs

-- as many records say that their process is deadlocked as are of a deadlocked one
counted : {L : Type 0} (listed : L → List ℕ) (g : Graph) (records : List (Record Run L)) → IsWithinGraph g
    → All (TellsOf listed g) records
    → count_by tells_deadlocked records ≡ count_by (is_deadlocked g) (map initiator_of records)
counted listed g [] w tell = refl
counted listed g (r ∷ rs) w tell =
    let here = tell zero r (omega arith) in
    let test = verdict_test g r.initiator r.verdict w here.verdict in
    let rest = counted listed g rs w (All-tail (TellsOf listed g) r rs tell) in
    count_cons tells_deadlocked r rs
    ∙ (λ i. cond {A = ℕ} (sym test i) 1 0 + rest i)
    ∙ sym (count_cons (is_deadlocked g) r.initiator (map initiator_of rs))

-- a process that isn't idle isn't deadlocked
active_free : (g : Graph) (p : ℕ) → is_idle g p ≡ false → is_deadlocked g p ≡ false
unfolding is_deadlocked
active_free g p e = rw e refl

-- where idle processes count as many deadlocked ones as all do, it is so with one process in front
count_more : (g : Graph) (p : ℕ) (ps : List ℕ) (b : Bool) → is_idle g p ≡ b
    → count_by (is_deadlocked g) (filter (is_idle g) ps) ≡ count_by (is_deadlocked g) ps
    → count_by (is_deadlocked g) (cond b (p ∷ filter (is_idle g) ps) (filter (is_idle g) ps))
    ≡ count_by (is_deadlocked g) (p ∷ ps)
count_more g p ps true e h =
    count_cons (is_deadlocked g) p (filter (is_idle g) ps)
    ∙ ap (λ n. cond {A = ℕ} (is_deadlocked g p) 1 0 + n) h
    ∙ sym (count_cons (is_deadlocked g) p ps)
count_more g p ps false e h =
    let none : cond {A = ℕ} (is_deadlocked g p) 1 0 ≡ 0 = ap (λ b. cond {A = ℕ} b 1 0) (active_free g p e) in
    omega (arith, h, none, count_cons (is_deadlocked g) p ps)

-- all deadlocked ones are among the idle ones
count_idle : (g : Graph) (ps : List ℕ)
    → count_by (is_deadlocked g) (filter (is_idle g) ps) ≡ count_by (is_deadlocked g) ps
count_idle g [] = refl
count_idle g (p ∷ ps) = count_more g p ps (is_idle g p) refl (count_idle g ps)

-- as many processes are deadlocked as records say that theirs is
pub deadlocked_told : {L : Type 0} (listed : L → List ℕ) (g : Graph) (records : List (Record Run L)) → IsWithinGraph g
    → AreRecordsOf listed g records → count_by tells_deadlocked records ≡ deadlocked_count g
deadlocked_told listed g records w are =
    counted listed g records w are.tell
    ∙ ap (count_by (is_deadlocked g)) are.order
    ∙ count_idle g (indices g)

-- ---- summaries

-- a true shape says what the summary of the process does
shape_summary : {L : Type 0} (listed : L → List ℕ) (g : Graph) (p : ℕ) (v : Verdict) (s : Shape L) → IsWithinGraph g
    → is_idle g p ≡ true → IsVerdict g p v → IsShape listed g p v s → summary_in listed s ≡ summary_of g p
unfolding summary_of
shape_summary listed g p Deadlocked (Leader leader) w idle is e =
    rw (idle, test_from_deadlocked g p is) (ap summary.Deadlocked e)
shape_summary listed g p Deadlocked (Path path) w idle is e = absurd e
shape_summary listed g p Free (Leader leader) w idle is e = absurd e
shape_summary listed g p Free (Path path) w idle is e =
    rw (idle, verdict_test g p Free w is) (ap (λ o. path_summary (unwrap_or o [])) (sym e))

-- the records of an analysis are those of the graph
pub analysed : {L : Type 0} (listed : L → List ℕ) (g : Graph) (a : Analysis Run L) → IsSomeAnalysisOf listed g a
    → AreRecordsOf listed g (records_of a)
analysed listed g a (choices, is) = record {
  order = is.order;
  tell = λ k d l. let r = is.records k d l in let told = get_or (records_of a) k d in record {
    idle = r.idle;
    verdict = r.verdict;
    summary = λ w. shape_summary listed g told.initiator told.verdict told.shape w r.idle r.verdict r.shape;
  };
}

-- the summary at that place
abbrev summary_at : List Summary → ℕ → Summary
summary_at list p = get_or list p Active

-- The table has a place for each process, the summaries of these, and of each other one that it is active.
pub record AreSummariesOfThese (g : Graph) (done : List ℕ) (list : List Summary) : Type 0 where
  pub size : length list ≡ process_count g
  pub named : (p : ℕ) → Contains done p → summary_at list p ≡ summary_of g p
  pub other : (p : ℕ) → (Contains done p → ⊥) → summary_at list p ≡ Active

-- each of n equal elements is that element
alike_at : {X : Type 0} (x : X) (n p : ℕ) → get_or (replicate n x) p x ≡ x
alike_at x zero p = refl
alike_at x (suc n) zero = refl
alike_at x (suc n) (suc p) = alike_at x n p

-- at first the table says of each process that it is active
pub summaries_none : (g : Graph) (n : ℕ) (list : List Summary) → n ≡ process_count g → list ≡ replicate n Active
    → AreSummariesOfThese g [] list
summaries_none g n list size none = record {
  size = ap length none ∙ length-replicate n Active ∙ size;
  named = λ p c. absurd (omega (arith, c.1));
  other = λ p n'. ap (λ xs. summary_at xs p) none ∙ alike_at Active n p;
}

-- once the next process has its summary, the table has those of the processes up to it
pub summaries_more : (g : Graph) (ps : List ℕ) (i p : ℕ) (list : List Summary) (s : Summary) → i < length ps
    → get_or ps i 0 ≡ p → p < length list → s ≡ summary_of g p → AreSummariesOfThese g (take i ps) list
    → AreSummariesOfThese g (take (i + 1) ps) (set list p s)
summaries_more g ps i p list s l at k is h = record {
  size = length-set list p s ∙ h.size;
  named = λ q c. elim (cases_eq q p) [
    | inl same ↦
        ap (summary_at (set list p s)) same
        ∙ get_or-set_same list p s Active k
        ∙ is
        ∙ ap (summary_of g) (sym same)
    | inr other ↦
        get_or-set_other list p q s Active other
        ∙ elim (taken_more ps i q l c) [
          | inl d ↦ h.named q d
          | inr e ↦ absurd (other (e ∙ at))
        ]
  ];
  other = λ q n. elim (cases_eq q p) [
    | inl same ↦ absurd (n (taken_last ps i q l (same ∙ sym at)))
    | inr other ↦
        get_or-set_other list p q s Active other
        ∙ h.other q (λ d. n (taken_stays ps i q l d))
  ];
}

-- the table has the summary of each process
summary_stands : (g : Graph) (p : ℕ) (b : Bool) (list : List Summary) → p < process_count g → is_idle g p ≡ b
    → AreSummariesOfThese g (idle_list g) list → summary_at list p ≡ summary_of g p
unfolding summary_of
summary_stands g p true list l e h =
    h.named p (contains_filter (is_idle g) (indices g) p (contains_index (process_count g) p l) e)
summary_stands g p false list l e h =
    h.other p (λ c. not_both (is_idle g p) (filter_contains (is_idle g) (indices g) p c).1 e)
    ∙ rw e refl

-- once all idle processes are done, the table has all summaries
pub summaries_all : (g : Graph) (i : ℕ) (list : List Summary) → length (idle_list g) ≤ i
    → AreSummariesOfThese g (take i (idle_list g)) list → AreSummariesOf g list
summaries_all g i list l h =
    fill_by_all (summary_of g) list (process_count g) Active h.size
    (λ p k. summary_stands g p (is_idle g p) list k refl
    (subst (λ ps. AreSummariesOfThese g ps list) (take_all i (idle_list g) l) h))
