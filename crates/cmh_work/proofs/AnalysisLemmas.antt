-- All workers' findings, sorted and numbered, beside the closed history, are an analysis.
use Rattle.std.proofs.Common.{◌≡◌, ℕ, suc, List, [], ◌∷◌, map, All, get_or, Option, Some, None, sym, refl, ap, ◌∙◌, subst, arith}
use Rattle.std.specs.Prelude.{Contains, IfSome, IsTrue}
use Rattle.std.specs.List.Sorted.{IsNonDecreasingBy, IsPermutation}
use Rattle.std.proofs.lemmas.List.Sorted.{All-permutation}
use Rattle.std.proofs.lemmas.List.Elements.{All-nil, All-cons, All-map, All-contains}
use Rattle.cmh_graph.specs.declared.verdict.Verdict.{Verdict}
use Rattle.cmh_graph.specs.Graph.{Graph, process_count, indices, is_idle, idle_list}
use Rattle.cmh_graph.specs.Verdict.{verdict, IsVerdict}
use Rattle.cmh_graph.specs.Build.{IsWellFormed}
use Rattle.cmh_graph.specs.Graph.{IsWithinGraph}
use Rattle.cmh_graph.proofs.PathLemmas.{contains_index}
use Rattle.cmh_graph.proofs.Verdicts.{contains_filter, idle_within, true_verdict}
use Rattle.cmh_run.specs.Run.{Run}
use Rattle.cmh_rw.specs.declared.row.Row.{Row}
use Rattle.cmh_rw.specs.History.{StartsWith, IsTrueOf, fold_at}
use Rattle.cmh_board.specs.Board.{board_view, IsMadeOf}
use Rattle.cmh_plan.specs.declared.TheConstants.{MAX_WORKERS}
use Rattle.cmh_plan.specs.Plan.{PlanValue}
use Rattle.cmh_plan.specs.TicketSeats.{ticket_view}
use Rattle.cmh_work.specs.declared.finding.Finding.{Finding}
use Rattle.cmh_work.specs.declared.job.Shared.{Shared}
use Rattle.cmh_work.specs.declared.job.Seats.{Seats}
use Rattle.cmh_work.specs.declared.record.Record.{Record}
use Rattle.cmh_work.specs.declared.record.Origin.{Origin}
use Rattle.cmh_work.specs.declared.record.Analysis.{Analysis}
use Rattle.cmh_work.specs.Shape.{IsShape}
use Rattle.cmh_work.specs.Record.{IsRunFor, IsSource, IsTrueRecord, StandsAfterHints}
use Rattle.cmh_work.specs.Analysis.{initiator_of, records_of, history_of, IsAnalysisOf}
use Rattle.cmh_work.specs.Finding.{finding_initiator, IsSound}
use Rattle.cmh_work.specs.Numbering.{IsNumbered, AreNumbered, IsNamed}
use Rattle.cmh_work.specs.Working.{IsMadeFor, AreSeated, IsWorked}
use Rattle.cmh_work.proofs.AccountsLemmas.{sound_more, all_explained_more}
use Rattle.cmh_work.proofs.ClosedHistory.{each_explained, explained_permuted, postings_of_records}
use Rattle.cmh_work.proofs.FindingLemmas.{all_worked}
use Rattle.cmh_work.proofs.RisingLists.{Rises, rises_from, sorted_same}

-- ---- records

-- a sound finding's source is that of its record
source_of : (g : Graph) (choices : List ℕ) (rows : List Row) (p : ℕ) (v : Verdict) (run : Option Run)
    (source : Origin Run) → IfSome run (IsRunFor g choices p v) → IfSome run (StandsAfterHints g rows)
    → IsNamed rows p v run source
    → IsSource g choices rows p v source
source_of g choices rows p v (Some run) source ran after is = subst (IsSource g choices rows p v) (sym is) (ran, after)
source_of g choices rows p v None source ran after (n, is, row) = subst (IsSource g choices rows p v) (sym is) row

-- the record of a sound finding is true
record_true : {L : Type 0} (listed : L → List ℕ) (g : Graph) (choices : List ℕ) (rows : List Row) (f : Finding Run L)
    (r : Record Run L) → IsSound listed g choices rows f → IsNumbered rows f r → IsTrueRecord listed g choices rows r
record_true listed g choices rows f r s n = record {
  idle = subst (λ p. IsTrue (is_idle g p)) (sym n.initiator) s.idle;
  verdict =
      subst (λ p. IsVerdict g p r.verdict) (sym n.initiator)
      (subst (IsVerdict g f.initiator) (sym n.verdict) s.verdict);
  shape = subst (λ p. IsShape listed g p r.verdict r.shape) (sym n.initiator)
      (subst (λ v. IsShape listed g f.initiator v r.shape) (sym n.verdict)
      (subst (IsShape listed g f.initiator f.verdict) (sym n.shape) s.shape));
  source = subst (λ p. IsSource g choices rows p r.verdict r.source) (sym n.initiator)
      (subst (λ v. IsSource g choices rows f.initiator v r.source) (sym n.verdict)
      (source_of g choices rows f.initiator f.verdict f.run r.source s.run s.after n.source));
}

-- a sound finding's verdict is what the history says of the process of its record
record_agrees : {L : Type 0} (listed : L → List ℕ) (g : Graph) (choices : List ℕ) (rows : List Row) (f : Finding Run L)
    (r : Record Run L) → IsSound listed g choices rows f → IsNumbered rows f r
    → fold_at rows r.initiator ≡ Some r.verdict
record_agrees listed g choices rows f r s n = ap (fold_at rows) n.initiator ∙ s.stands ∙ ap Some (sym n.verdict)

-- what is true of the record of each sound finding is true of all records
each_record : {L : Type 0} (listed : L → List ℕ) (g : Graph) (choices : List ℕ) (rows : List Row)
    (P : Record Run L → Type 0)
    → ((f : Finding Run L) (r : Record Run L) → IsSound listed g choices rows f → IsNumbered rows f r → P r)
    → (fs : List (Finding Run L)) (rs : List (Record Run L)) → All (IsSound listed g choices rows) fs
    → AreNumbered rows fs rs → All P rs
each_record listed g choices rows P each fs [] sound n = All-nil P
each_record listed g choices rows P each [] (r ∷ rs) sound n = absurd n
each_record listed g choices rows P each (f ∷ fs) (r ∷ rs) sound n =
    All-cons P r rs (each f r (sound 0 f (omega arith)) n.0)
    (each_record listed g choices rows P each fs rs (λ k d low. sound (suc k) d (omega arith)) n.1)

-- the records are of the processes that the findings are about, in the same order
same_order : {L : Type 0} (rows : List Row) (fs : List (Finding Run L)) (rs : List (Record Run L))
    → AreNumbered rows fs rs → map initiator_of rs ≡ map finding_initiator fs
same_order rows [] [] n = refl
same_order rows [] (r ∷ rs) n = absurd n
same_order rows (f ∷ fs) [] n = absurd n
same_order rows (f ∷ fs) (r ∷ rs) n = let rest = same_order rows fs rs n.1 in λ i. n.0.initiator i ∷ rest i

-- ---- the whole history

-- where the history says each record's verdict, and there is a record of each idle process, it says the verdict of each
says_each : {L : Type 0} (g : Graph) (rows : List Row) (rs : List (Record Run L)) → IsWithinGraph g
    → map initiator_of rs ≡ idle_list g → All (λ r. IsVerdict g r.initiator r.verdict) rs
    → All (λ r. fold_at rows r.initiator ≡ Some r.verdict) rs
    → (p : ℕ) → IsTrue (is_idle g p) → fold_at rows p ≡ Some (verdict g p)
says_each g rows rs w order verdicts agrees p idle =
    let P : ℕ → Type 0 = λ q. fold_at rows q ≡ Some (verdict g q) in
    let all : All P (map initiator_of rs) =
    All-map P initiator_of rs
    (λ k d low. agrees k d low
    ∙ ap Some (true_verdict g (get_or rs k d).initiator (get_or rs k d).verdict w (verdicts k d low))) in
    let there : Contains (idle_list g) p =
    contains_filter (is_idle g) (indices g) p (contains_index (process_count g) p (idle_within g p idle)) idle in
    All-contains P (idle_list g) p (subst (All P) order all) there

-- ---- at the close

-- each finding stands in the closed history
pub all_stand : {L : Type 0} (listed : L → List ℕ) (g : Graph) (choices : List ℕ) (rows seen : List Row)
    (found sorted : List (Finding Run L)) → IsPermutation found sorted → StartsWith rows seen
    → All (IsSound listed g choices seen) found → All (IsSound listed g choices rows) sorted
all_stand listed g choices rows seen found sorted p begins sound =
    All-permutation (IsSound listed g choices rows) found sorted p
    (λ k d low. sound_more listed g choices rows seen (get_or found k d) begins (sound k d low))

-- what workers found, sorted and numbered over the history that they posted, is an analysis
pub analysed : {L : Type 0} (listed : L → List ℕ) (g : Graph) (plan : PlanValue) (j : Shared) (s : Seats)
    (found sorted : List (Finding Run L)) (a : Analysis Run L) → IsWellFormed g → IsMadeFor g plan j
    → IsPermutation found sorted → IsNonDecreasingBy finding_initiator sorted
    → AreSeated j s → (ticket_view s.tickets).share ≡ MAX_WORKERS → IsWorked listed g plan j s found
    → StartsWith (history_of a) (board_view s.board).seen → IsTrueOf g (history_of a)
    → IsMadeOf (board_view s.board).mine (history_of a)
    → AreNumbered (history_of a) sorted (records_of a) → IsAnalysisOf listed g plan.choices a
analysed listed g plan j s found sorted a well for p up sit whole w begins true_of made n =
    let choices = plan.choices in
    let rows = history_of a in
    let sound = all_stand listed g choices rows (board_view s.board).seen found sorted p begins w.accounts.sound in
    let order : map initiator_of (records_of a) ≡ idle_list g =
    same_order rows sorted (records_of a) n
    ∙ sorted_same finding_initiator found sorted j.idle.items p up (subst Rises (sym for.idle) (rises_from g))
    (all_worked listed g plan j s found for sit.tickets whole w)
    ∙ for.idle in
    let explained =
    all_explained_more rows (board_view s.board).seen found found (board_view s.board).mine begins
    (λ f c. c) w.accounts.explained in
    let each =
    explained_permuted rows found sorted made.postings p
    (each_explained rows found (board_view s.board).mine made.postings explained (λ m c. (made.same m).0 c)) in
    let agrees =
    each_record listed g choices rows (λ r. fold_at rows r.initiator ≡ Some r.verdict)
    (record_agrees listed g choices rows) sorted (records_of a) sound n in
    let records =
    each_record listed g choices rows (IsTrueRecord listed g choices rows)
    (record_true listed g choices rows) sorted (records_of a) sound n in record {
      order = order;
      records = records;
      history = true_of;
      whole = says_each g rows (records_of a) well.within order (λ k d low. (records k d low).verdict) agrees;
      agrees = agrees;
      postings = (
        made.postings,
        made.is_laid,
        made.whole,
        postings_of_records g rows sorted (records_of a) [] made.postings true_of made.is_laid made.whole each n,
      );
    }
