-- The definitions on worked examples, by computation.
use Rattle.std.proofs.Common.{◌≡◌, ℕ, zero, suc, Bool, true, false, Some, None, List, [], ◌∷◌, ◌++◌, map, All, refl, sym, ap, subst, ◌∙◌, arith}
use Rattle.std.specs.Prelude.{IsTrue, Contains}
use Rattle.std.specs.Global.{Vec}
use Rattle.std.proofs.lemmas.List.Elements.{All-nil, All-cons}
use Rattle.cmh_graph.specs.declared.part.State.TheVariants.{Idle}
use Rattle.cmh_graph.specs.declared.verdict.Verdict.TheVariants.{Deadlocked}
use Rattle.cmh_graph.specs.Graph.{Process, Graph, is_idle, IsWithinGraph}
use Rattle.cmh_graph.specs.Path.{reaches}
use Rattle.cmh_graph.specs.Verdict.{is_deadlocked, IsDeadlocked, verdict}
use Rattle.cmh_graph.specs.Core.{leader_of}
use Rattle.cmh_graph.proofs.Verdicts.{verdict_law}
use Rattle.cmh_process.specs.declared.message.Message.{Message}
use Rattle.cmh_run.specs.declared.delivery.Delivery.{Delivery}
use Rattle.cmh_run.specs.declared.delivery.Ending.TheVariants.{Declared}
use Rattle.cmh_run.specs.Config.{query, reply}
use Rattle.cmh_run.specs.Run.{Run}
use Rattle.cmh_rw.specs.declared.row.Row.{Row}
use Rattle.cmh_rw.specs.History.{fold_at, rows_in, IsTrueOf}
use Rattle.cmh_rw.specs.View.{row}
use Rattle.cmh_work.specs.declared.record.Record.{Record}
use Rattle.cmh_work.specs.declared.record.Origin.{Origin}
use Rattle.cmh_work.specs.declared.record.Origin.TheVariants.{FromRun, FromBoard}
use Rattle.cmh_work.specs.declared.record.Shape.TheVariants.{Leader}
use Rattle.cmh_work.specs.declared.record.Analysis.{Analysis}
use Rattle.cmh_work.specs.Cutting.{chunks_of, bounds_of, concat_chunks}
use Rattle.cmh_work.specs.Record.{IsPostedBy, IsRunFor, IsTrueRecord, StandsAfterHints}
use Rattle.cmh_work.specs.Analysis.{records_of, history_of, initiator_of, IsPostedByRecords, IsAnalysisOf}

-- the cuts 0, 1, 0 and 9 of three initiators: none, the first, none, the other two, none
chunks_of_three : chunks_of (0 ∷ 1 ∷ 0 ∷ 9 ∷ []) (0 ∷ 1 ∷ 2 ∷ [])
    ≡ [] ∷ (0 ∷ []) ∷ [] ∷ (1 ∷ 2 ∷ []) ∷ [] ∷ []
chunks_of_three = refl

-- where they begin, by cuts with a sum that is no u64: none is left to the last cut and the rest
bounds_of_three : bounds_of (1 ∷ 18446744073709551615 ∷ 5 ∷ []) 3 ≡ 0 ∷ 1 ∷ 3 ∷ 3 ∷ 3 ∷ []
bounds_of_three = refl

-- without cuts there is one chunk
one_chunk : chunks_of [] (0 ∷ 1 ∷ []) ≡ (0 ∷ 1 ∷ []) ∷ []
one_chunk = refl

-- chunks as a worker draws them, the third before the first
gathered_in_another_order : concat_chunks ((0 ∷ []) ∷ (1 ∷ []) ∷ (2 ∷ 3 ∷ []) ∷ []) (2 ∷ 0 ∷ [])
    ≡ 2 ∷ 3 ∷ 0 ∷ []
gathered_in_another_order = refl

-- an idle process without a name
abbrev pub waits_for : List ℕ → Process
waits_for dependents = record { name = []; site = 0; state = Idle; dependents = dependents }

-- p and q wait for each other, and r waits for p
abbrev pub cycle_and_follower : Graph
cycle_and_follower = record {
  processes = waits_for (1 ∷ []) ∷ waits_for (0 ∷ []) ∷ waits_for (0 ∷ []) ∷ [];
  in_transit = [];
}

-- p leads q's group, and r leads its own
leader_of_q : leader_of cycle_and_follower 1 ≡ 0
unfolding reaches
leader_of_q = refl

leader_of_r : leader_of cycle_and_follower 2 ≡ 2
unfolding reaches
leader_of_r = refl

-- ---- an analysis by one worker, which takes p, q and r in turn

-- a delivery without a hint
abbrev plain : Message → Delivery
plain m = record { message = m; hint = None }

-- p asks q, q asks p, and both reply: p is declared, and q has engaged
abbrev pub run_of_p : Run
run_of_p = record {
  initiator = 0;
  log = plain (query 0 1 0 1) ∷ plain (query 0 1 1 0) ∷ plain (reply 0 1 0 1) ∷ plain (reply 0 1 1 0) ∷ [];
  ending = Declared;
  engaged = 0 ∷ 1 ∷ [];
  restarted = 0;
}

-- r asks p, which the board knows to be deadlocked, so that p replies at once: r is declared
abbrev pub run_of_r : Run
run_of_r = record {
  initiator = 2;
  log = record { message = query 2 1 2 0; hint = Some Deadlocked } ∷ plain (reply 2 1 0 2) ∷ [];
  ending = Declared;
  engaged = 2 ∷ 0 ∷ [];
  restarted = 0;
}

-- the first posting is p and q, and q's row is its last one
abbrev p_and_q : List Row
p_and_q = row 0 Deadlocked false ∷ row 1 Deadlocked true ∷ []

first_posting : IsPostedBy [] p_and_q run_of_p
first_posting = refl

-- the second posting is r alone, since p stands in a row
abbrev r_alone : List Row
r_alone = row 2 Deadlocked true ∷ []

next_posting : IsPostedBy p_and_q r_alone run_of_r
next_posting = refl

-- the history: the rows of p and q, and then that of r
abbrev rows : List Row
rows = row 0 Deadlocked false ∷ row 1 Deadlocked true ∷ row 2 Deadlocked true ∷ []

-- a deadlocked process with this source and leader
abbrev found : ℕ → Origin Run → ℕ → Record Run (Vec ℕ)
found p source leader =
    record { initiator = p; verdict = Deadlocked; source = source; shape = Leader leader }

-- p is known by its run, q by its row, r by its run
abbrev of_p : Record Run (Vec ℕ)
of_p = found 0 (FromRun run_of_p) 0

abbrev of_q : Record Run (Vec ℕ)
of_q = found 1 (FromBoard 1) 0

abbrev of_r : Record Run (Vec ℕ)
of_r = found 2 (FromRun run_of_r) 2

-- each dependent of p, q and r is a process of the graph
within : IsWithinGraph cycle_and_follower
within zero zero h = omega arith
within (suc zero) zero h = omega arith
within (suc (suc zero)) zero h = omega arith
within zero (suc j) h = absurd (omega (arith, h))
within (suc zero) (suc j) h = absurd (omega (arith, h))
within (suc (suc zero)) (suc j) h = absurd (omega (arith, h))
within (suc (suc (suc i))) j h = absurd (omega (arith, h))

-- p, q and r are deadlocked
dead_p : IsDeadlocked cycle_and_follower 0
unfolding reaches is_deadlocked
dead_p = (verdict_law cycle_and_follower 0 within).0 refl

dead_q : IsDeadlocked cycle_and_follower 1
unfolding reaches is_deadlocked
dead_q = (verdict_law cycle_and_follower 1 within).0 refl

dead_r : IsDeadlocked cycle_and_follower 2
unfolding reaches is_deadlocked
dead_r = (verdict_law cycle_and_follower 2 within).0 refl

-- the run of p is legal
legal_p : IsRunFor cycle_and_follower [] 0 Deadlocked run_of_p
legal_p = record {
  initiator = refl;
  legal = record {
    end = _;
    legal = record {
      leads = (
        0,
        record { going = refl; there = refl; hint = tt },
        refl,
        (
          0,
          record { going = refl; there = refl; hint = tt },
          refl,
          (
            0,
            record { going = refl; there = refl; hint = tt },
            refl,
            (0, record { going = refl; there = refl; hint = tt }, refl, refl),
          ),
        ),
      );
      ends = refl;
    };
    engaged = refl;
    restarted = refl;
  };
  tells = refl;
}

-- the run of r, with a hint that is true, is legal
legal_r : IsRunFor cycle_and_follower [] 2 Deadlocked run_of_r
legal_r = record {
  initiator = refl;
  legal = record {
    end = _;
    legal = record {
      leads = (
        0,
        record { going = refl; there = refl; hint = (refl, dead_p) },
        refl,
        (0, record { going = refl; there = refl; hint = tt }, refl, refl),
      );
      ends = refl;
    };
    engaged = refl;
    restarted = refl;
  };
  tells = refl;
}

-- p's run got no hint
after_p : StandsAfterHints cycle_and_follower rows run_of_p
after_p = record { before = []; posting = p_and_q; place = (r_alone, refl); posted = refl; hints = (tt, tt) }

-- the hint that r's run got about p stands before r's row
after_r : StandsAfterHints cycle_and_follower rows run_of_r
after_r = record { before = p_and_q; posting = r_alone; place = ([], refl); posted = refl; hints = (refl, tt) }

-- the records of p, of q and of r are true
true_p : IsTrueRecord (λ path. path.items) cycle_and_follower [] rows of_p
unfolding reaches
true_p = record { idle = refl; verdict = dead_p; shape = refl; source = (legal_p, after_p) }

true_q : IsTrueRecord (λ path. path.items) cycle_and_follower [] rows of_q
unfolding reaches
true_q = record { idle = refl; verdict = dead_q; shape = refl; source = (true, refl) }

true_r : IsTrueRecord (λ path. path.items) cycle_and_follower [] rows of_r
unfolding reaches
true_r = record { idle = refl; verdict = dead_r; shape = refl; source = (legal_r, after_r) }

-- the rows of p, q and r are true for the graph
true_rows : IsTrueOf cycle_and_follower rows
unfolding reaches is_deadlocked
true_rows = (refl, refl, refl, (refl, refl, refl, (refl, refl, refl, tt)))

-- the history has the verdict of each idle process
whole_rows : (p : ℕ) → IsTrue (is_idle cycle_and_follower p) → fold_at rows p ≡ Some (verdict cycle_and_follower p)
unfolding reaches is_deadlocked
whole_rows zero idle = refl
whole_rows (suc zero) idle = refl
whole_rows (suc (suc zero)) idle = refl
whole_rows (suc (suc (suc p))) idle = cc

-- the history is two postings, each of the run of a record
posted : IsPostedByRecords (of_p ∷ of_q ∷ of_r ∷ []) rows
posted = (
  p_and_q ∷ r_alone ∷ [],
  refl,
  (
    (row 0 Deadlocked false ∷ [], row 1 Deadlocked true, refl, (refl, tt), refl),
    (([], row 2 Deadlocked true, refl, tt, refl), tt),
  ),
  ((of_p, (0, omega arith, refl), run_of_p, refl, refl), ((of_r, (2, omega arith, refl), run_of_r, refl, refl), tt)),
)

-- what holds of three holds of each
all_three : (P : Record Run (Vec ℕ) → Type 0) (a b c : Record Run (Vec ℕ)) → P a → P b → P c → All P (a ∷ b ∷ c ∷ [])
all_three P a b c x y z = All-cons P a (b ∷ c ∷ []) x (All-cons P b (c ∷ []) y (All-cons P c [] z (All-nil P)))

-- the records of p, q and r with this history are an analysis
is_analysis : (a : Analysis Run (Vec ℕ)) → records_of a ≡ of_p ∷ of_q ∷ of_r ∷ [] → history_of a ≡ rows
    → IsAnalysisOf (λ path. path.items) cycle_and_follower [] a
unfolding reaches
is_analysis a is has = record {
  order = ap (map initiator_of) is;
  records = subst (λ h. All (IsTrueRecord (λ path. path.items) cycle_and_follower [] h) (records_of a)) (sym has)
      (subst (All (IsTrueRecord (λ path. path.items) cycle_and_follower [] rows)) (sym is)
      (all_three
      (IsTrueRecord (λ path. path.items) cycle_and_follower [] rows) of_p of_q of_r true_p true_q true_r));
  history = subst (IsTrueOf cycle_and_follower) (sym has) true_rows;
  whole = λ p idle. ap (λ h. fold_at h p) has ∙ whole_rows p idle;
  agrees =
      subst (λ h. All (λ (r : Record Run (Vec ℕ)). fold_at h r.initiator ≡ Some r.verdict) (records_of a)) (sym has)
      (subst (All (λ (r : Record Run (Vec ℕ)). fold_at rows r.initiator ≡ Some r.verdict)) (sym is)
      (all_three
      (λ (r : Record Run (Vec ℕ)). fold_at rows r.initiator ≡ Some r.verdict) of_p of_q of_r refl refl refl));
  postings =
      subst (λ h. IsPostedByRecords (records_of a) h) (sym has) (subst (λ l. IsPostedByRecords l rows) (sym is) posted);
}

-- without the record of r the records are no analysis
lost_record : (a : Analysis Run (Vec ℕ)) → records_of a ≡ of_p ∷ of_q ∷ []
    → IsAnalysisOf (λ path. path.items) cycle_and_follower [] a → ⊥
lost_record a is h = let e : ◌≡◌ {A = List ℕ} (0 ∷ 1 ∷ []) (0 ∷ 1 ∷ 2 ∷ []) =
    sym (ap (map initiator_of) is) ∙ h.order in cc

-- the history with the posting of p and q cut in two
abbrev cut_rows : List Row
cut_rows = row 0 Deadlocked true ∷ row 1 Deadlocked true ∷ row 2 Deadlocked true ∷ []

-- whether the first row is a last one
abbrev is_cut : List Row → Bool
is_cut [] = false
is_cut (r ∷ rs) = r.last

-- what a run of one of the three records posts first is two rows, of which the first is no last one
begins_open : (r : Record Run (Vec ℕ)) (posting rest : List Row) (run : Run) → Contains (of_p ∷ of_q ∷ of_r ∷ []) r
    → r.source ≡ FromRun run → IsPostedBy [] posting run → is_cut (posting ++ rest) ≡ false
begins_open r posting rest run (zero, low, is) source told = let e : run ≡ run_of_p = cc in let p : posting ≡ p_and_q =
    subst (IsPostedBy [] posting) e told in ap (λ l. is_cut (l ++ rest)) p
begins_open r posting rest run (suc zero, low, is) source told = cc
begins_open r posting rest run (suc (suc zero), low, is) source told =
    let e : run ≡ run_of_r = cc in let p : posting ≡ row 2 Deadlocked false ∷ row 0 Deadlocked true ∷ [] =
    subst (IsPostedBy [] posting) e told in ap (λ l. is_cut (l ++ rest)) p
begins_open r posting rest run (suc (suc (suc k)), low, is) source told = absurd (omega arith)

-- the records with a history in which a posting is cut in two are no analysis
cut_posting : (a : Analysis Run (Vec ℕ)) → records_of a ≡ of_p ∷ of_q ∷ of_r ∷ [] → history_of a ≡ cut_rows
    → IsAnalysisOf (λ path. path.items) cycle_and_follower [] a → ⊥
cut_posting a is has h =
    refuted (subst (λ l. IsPostedByRecords l cut_rows) is (subst (IsPostedByRecords (records_of a)) has h.postings))
  where
    refuted : IsPostedByRecords (of_p ∷ of_q ∷ of_r ∷ []) cut_rows → ⊥
    refuted ([], all, postings, of) = cc
    refuted (x ∷ xs, all, postings, of) = let first = of.0 in let opens : true ≡ false =
        ap is_cut all ∙ begins_open first.0 x (rows_in xs) first.2 first.1 first.3 first.4 in cc
