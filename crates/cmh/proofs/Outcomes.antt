-- What each fault and each answer says of the table of statuses.
use Rattle.std.proofs.Common.{◌≡◌, ◌≢◌, ◌⊎◌, inl, inr, ℕ, ◌<◌, ◌≤◌, ◌++◌, List, [], length, true, take, refl, sym, subst, arith, Bor}
use Rattle.std.proofs.lemmas.Bool.{cases_order}
use Rattle.std.specs.Prelude.{IsFalse, MatchOption, String, string_bytes}
use Rattle.std.specs.Global.{Global}
use Rattle.cmh_graph.specs.Graph.{Graph, is_idle}
use Rattle.cmh_dump.specs.declared.fault.DumpFault.{DumpFault}
use Rattle.cmh_dump.specs.declared.fault.DumpFault.TheVariants as dump
use Rattle.cmh_run.specs.Run.{AreRestarts, IsFirstRunFault}
use Rattle.cmh_run.specs.declared.TheConstants.{MAX_CHOICES}
use Rattle.cmh_run.specs.declared.delivery.Ending.{Ending}
use Rattle.cmh_run.specs.declared.fault.RunFault.{RunFault}
use Rattle.cmh_run.specs.declared.fault.RunFault.TheVariants as run
use Rattle.cmh_plan.specs.Plan.{IsFirstPlanFault}
use Rattle.cmh_plan.specs.declared.fault.PlanFault.{PlanFault}
use Rattle.cmh_plan.specs.declared.fault.PlanFault.TheVariants as plan
use Rattle.cmh_text.specs.Report.{IsCountedReport, IsReport}
use Rattle.cmh_report.specs.declared.fault.AppFault.{AppFault}
use Rattle.cmh_report.specs.declared.fault.AppFault.TheVariants.{Dump, Work, NoSuchProcess, Run, Report, WriteFault}
use Rattle.cmh_report.specs.Ends.{GaveGraph, IsCutShort, IsRefused}
use Rattle.cmh_report.specs.Fault.{IfDump, IfNoSuchProcess, IfRun, IfUnwritten, IfWriteFault}
use Rattle.cmh_report.specs.Trace.{HasNoRun, IsEndedTrace, IsFirstNamed, IsSomeTrace, NobodyIsNamed}
use Rattle.cmh_command.specs.List.{IsFirstListFault, IsListOf}
use Rattle.cmh.specs.Status.{status_of, status_of_list, status_of_plan, AreBadPlanArgs, Ends, FitsTrace, HasAnswered, HasCuts, HasDeadlock, HasFailed, HasRefusedDump, IsBadList, IsDone, IsMisused, IsOutcome, IsUnread, IsUnwritten}
use Rattle.cmh_command.specs.CommandLine.{IsRequest}
use Rattle.cmh_command.specs.declared.list.ListFault.{ListFault}
use Rattle.cmh_command.specs.declared.list.ListFault.TheVariants as list
use Rattle.cmh_command.specs.declared.request.PlanArgs.{PlanArgs}
use Rattle.cmh_command.specs.declared.request.Request.{Request}
use Rattle.cmh_command.specs.declared.request.Request.TheVariants.{Analyse, Trace, Show, Refused}
use Rattle.cmh.specs.declared.status.TheConstants.{FREE, REFUSED, MISUSED, DEADLOCKED, FAILED}

-- ---- one row of the table at a time

pub is_done : (r : Request) (e : Ends) → IsDone r e → IsOutcome r FREE e
is_done r e h = record {
  free = λ x. h;
  refused = λ x. absurd (omega arith);
  misused = λ x. absurd (omega arith);
  deadlocked = λ x. absurd (omega arith);
  failed = λ x. absurd (omega arith);
  known = omega arith;
}

is_misused : (r : Request) (e : Ends) → IsMisused r e → IsOutcome r MISUSED e
is_misused r e h = record {
  free = λ x. absurd (omega arith);
  refused = λ x. absurd (omega arith);
  misused = λ x. h;
  deadlocked = λ x. absurd (omega arith);
  failed = λ x. absurd (omega arith);
  known = omega arith;
}

has_deadlock : (r : Request) (e : Ends) → HasDeadlock r e → IsOutcome r DEADLOCKED e
has_deadlock r e h = record {
  free = λ x. absurd (omega arith);
  refused = λ x. absurd (omega arith);
  misused = λ x. absurd (omega arith);
  deadlocked = λ x. h;
  failed = λ x. absurd (omega arith);
  known = omega arith;
}

pub has_failed : (r : Request) (e : Ends) → HasFailed r e → IsOutcome r FAILED e
has_failed r e h = record {
  free = λ x. absurd (omega arith);
  refused = λ x. absurd (omega arith);
  misused = λ x. absurd (omega arith);
  deadlocked = λ x. absurd (omega arith);
  failed = λ x. h;
  known = omega arith;
}

-- a fault of the dump is its own, or one of memory or of the source
dump_status : (f : DumpFault) → (status_of (Dump f) ≡ REFUSED) ⊎ (status_of (Dump f) ≡ FAILED)
dump_status dump.Memory = inr refl
dump_status dump.ReadFault = inr refl
dump_status fault = inl refl

-- where the dump is refused, the status says whether by a fault of its own
refused_dump : (r : Request) (e : Ends) (f : DumpFault) → (status_of (Dump f) ≡ REFUSED → HasRefusedDump r e)
    → HasFailed r e → IsOutcome r (status_of (Dump f)) e
refused_dump r e f own failed = by_status (status_of (Dump f)) (dump_status f) own
  where
    by_status : (s : ℕ) → (s ≡ REFUSED) ⊎ (s ≡ FAILED) → (s ≡ REFUSED → HasRefusedDump r e) → IsOutcome r s e
    by_status s (inl is) own = record {
      free = λ x. absurd (omega arith);
      refused = own;
      misused = λ x. absurd (omega arith);
      deadlocked = λ x. absurd (omega arith);
      failed = λ x. failed;
      known = omega arith;
    }
    by_status s (inr is) own = record {
      free = λ x. absurd (omega arith);
      refused = own;
      misused = λ x. absurd (omega arith);
      deadlocked = λ x. absurd (omega arith);
      failed = λ x. failed;
      known = omega arith;
    }

-- ---- lists and plans

-- a list is refused as out of memory, or for its own fault
pub list_status : (text : List ℕ) (f : ListFault) → (f ≡ list.Memory) ⊎ IsFirstListFault text f
    → (status_of_list f ≡ FAILED) ⊎ ((status_of_list f ≡ MISUSED) × IsBadList text)
list_status text list.Memory h = inl refl
list_status text (list.BadNumber i) (inl h) = cc
list_status text (list.BadNumber i) (inr h) = inr (refl, (list.BadNumber i, h))
list_status text list.TooManyNumbers (inl h) = cc
list_status text list.TooManyNumbers (inr h) = inr (refl, (list.TooManyNumbers, h))

-- the status of refused cuts is one of the plan
pub cuts_first : (w : PlanArgs) (s : ℕ)
    → (s ≡ FAILED) ⊎ ((s ≡ MISUSED) × MatchOption w.cuts ⊥ (λ text. IsBadList text.now))
    → (s ≡ FAILED) ⊎ ((s ≡ MISUSED) × AreBadPlanArgs w)
cuts_first w s (inl h) = inl h
cuts_first w s (inr h) = inr (h.0, inl h.1)

-- the status of refused choices is one of the plan
pub choices_next : (w : PlanArgs) (s : ℕ) → (s ≡ FAILED) ⊎ ((s ≡ MISUSED) × IsBadList w.choices.now)
    → (s ≡ FAILED) ⊎ ((s ≡ MISUSED) × AreBadPlanArgs w)
choices_next w s (inl h) = inl h
choices_next w s (inr h) = inr (h.0, inr (inl h.1))

-- a plan is refused as out of memory, or for its own fault
pub plan_status : (w : PlanArgs) (cuts choices : List ℕ) (f : PlanFault) → HasCuts w.cuts cuts
    → IsListOf w.choices.now choices
    → (f ≡ plan.Memory) ⊎ IsFirstPlanFault record { workers = w.workers; cuts = cuts; choices = choices } f
    → (status_of_plan f ≡ FAILED) ⊎ ((status_of_plan f ≡ MISUSED) × AreBadPlanArgs w)
plan_status w cuts choices f listed next h = by_fault f h
  where
    bad : (f : PlanFault) → IsFirstPlanFault record { workers = w.workers; cuts = cuts; choices = choices } f
        → AreBadPlanArgs w
    bad f first = inr (inr (cuts, choices, listed, next, (f, first)))

    by_fault : (f : PlanFault)
        → (f ≡ plan.Memory) ⊎ IsFirstPlanFault record { workers = w.workers; cuts = cuts; choices = choices } f
        → (status_of_plan f ≡ FAILED) ⊎ ((status_of_plan f ≡ MISUSED) × AreBadPlanArgs w)
    by_fault plan.Memory h = inl refl
    by_fault plan.BadWorkers (inl h) = cc
    by_fault plan.BadWorkers (inr h) = inr (refl, bad plan.BadWorkers h)
    by_fault plan.TooManyCuts (inl h) = cc
    by_fault plan.TooManyCuts (inr h) = inr (refl, bad plan.TooManyCuts h)
    by_fault plan.TooManyChoices (inl h) = cc
    by_fault plan.TooManyChoices (inr h) = inr (refl, bad plan.TooManyChoices h)

-- ---- an analysis

-- where the plan is refused before anything is read, the outcome has the status of that refusal
pub misplanned : (w : PlanArgs) (s : ℕ) (e : Ends) → (s ≡ FAILED) ⊎ ((s ≡ MISUSED) × AreBadPlanArgs w)
    → IsUnread e → IsUnwritten e → IsOutcome (Analyse w) s e
misplanned w s e (inl h) unread unwritten =
    subst (λ (n : ℕ). IsOutcome (Analyse w) n e) (sym h) (has_failed (Analyse w) e (inl unwritten))
misplanned w s e (inr h) unread unwritten =
    subst (λ (n : ℕ). IsOutcome (Analyse w) n e) (sym h.0) (is_misused (Analyse w) e (unwritten, unread, h.1))

-- where the report says that nothing is deadlocked, the outcome has the status `FREE`
pub nothing_deadlocked : (w : PlanArgs) (e : Ends) → HasAnswered (IsCountedReport 0) e → IsOutcome (Analyse w) FREE e
nothing_deadlocked w e h = is_done (Analyse w) e h

-- where the report says that something is deadlocked, the outcome has the status `DEADLOCKED`
pub something_deadlocked : (w : PlanArgs) (e : Ends) (d : ℕ) → d ≢ 0 → HasAnswered (IsCountedReport d) e
    → IsOutcome (Analyse w) DEADLOCKED e
something_deadlocked w e d some h = has_deadlock (Analyse w) e (d, omega (arith, some), h)

-- where the analysis has a fault, the outcome has the status of that fault
pub analysis_failed : (w : PlanArgs) (e : Ends) (f : AppFault)
    → IfDump f (IsRefused e.source_old e.source_new)
    → IfNoSuchProcess f ⊥ → IfRun f (λ _. ⊥) → IfUnwritten f (IsUnwritten e)
    → IfWriteFault f (IsCutShort IsReport e.source_old e.source_new e.out_old e.out_new)
    → IfWriteFault f (λ _. e.out_new.has_failed ≡ true) → IsOutcome (Analyse w) (status_of f) e
analysis_failed w e (Dump f) refused nobody no_run unwritten cut stopped =
    refused_dump (Analyse w) e f (λ own. (unwritten, (f, own, refused))) (inl unwritten)
analysis_failed w e (Work f) refused nobody no_run unwritten cut stopped = has_failed (Analyse w) e (inl unwritten)
analysis_failed w e NoSuchProcess refused nobody no_run unwritten cut stopped = absurd nobody
analysis_failed w e (Run f) refused nobody no_run unwritten cut stopped = absurd no_run
analysis_failed w e (Report f) refused nobody no_run unwritten cut stopped = has_failed (Analyse w) e (inl unwritten)
analysis_failed w e (WriteFault n) refused nobody no_run unwritten cut stopped =
    has_failed (Analyse w) e (inr (stopped, (n, cut)))

-- ---- a trace

-- where the list of choices is refused before anything is read, the outcome has the status of that refusal
pub mislisted : (name list : Bor (List ℕ)) (s : ℕ) (e : Ends)
    → (s ≡ FAILED) ⊎ ((s ≡ MISUSED) × IsBadList list.now) → IsUnread e → IsUnwritten e
    → IsOutcome (Trace name list) s e
mislisted name list s e (inl h) unread unwritten =
    subst (λ (n : ℕ). IsOutcome (Trace name list) n e) (sym h) (has_failed (Trace name list) e (inl unwritten))
mislisted name list s e (inr h) unread unwritten =
    subst (λ (n : ℕ). IsOutcome (Trace name list) n e) (sym h.0)
    (is_misused (Trace name list) e (unwritten, inl (unread, h.1)))

-- however its run has ended, a trace fits
any_ending : (name list choices : List ℕ) (ending : Ending) (g : Graph) (text : List ℕ) → IsListOf list choices
    → IsEndedTrace name choices ending g text → FitsTrace name list g text
any_ending name list choices ending g text listed h = (
  choices,
  listed,
  record {
    run = h.run;
    named = h.named;
    idle = h.idle;
    legal = h.legal;
    unhinted = h.unhinted;
    ends = tt;
    lines = h.lines;
  },
)

-- where the trace is out, the outcome has the status `FREE`
pub traced : (name list : Bor (List ℕ)) (choices : List ℕ) (ending : Ending) (e : Ends) → IsListOf list.now choices
    → HasAnswered (IsEndedTrace name.now choices ending) e → IsOutcome (Trace name list) FREE e
traced name list choices ending e listed h = is_done (Trace name list) e (record {
  graph = h.graph;
  dump = h.dump;
  text = h.text;
  fits = any_ending name.now list.now choices ending h.graph h.text listed h.fits;
  taken = h.taken;
  finished = h.finished;
})

-- where no process has the name, no idle one has it
nobody_named : (name : List ℕ) (g : Graph) → NobodyIsNamed g name → (p : ℕ) → IsFirstNamed g name p
    → IsFalse (is_idle g p)
nobody_named name g none p h = absurd (none p h.within h.named)

-- at most one process is the first of a name
first_alone : (name : List ℕ) (g : Graph) (p q : ℕ) → IsFirstNamed g name p → IsFirstNamed g name q → p ≡ q
first_alone name g p q one other = by_order (cases_order p q)
  where
    by_order : (p ≡ q) ⊎ ((p < q) ⊎ (q < p)) → p ≡ q
    by_order (inl same) = same
    by_order (inr (inl below)) = absurd (other.first p below one.named)
    by_order (inr (inr above)) = absurd (one.first q above other.named)

-- no restarts are restarts that a run may be given
no_restarts : AreRestarts []
no_restarts = record {
  few = omega arith;
  rising = λ k l. absurd (omega arith);
}

-- where a named process has no run by few choices, memory was refused or no idle process has the name
not_idle : (name choices : List ℕ) (f : RunFault) (g : Graph) → length choices ≤ MAX_CHOICES → HasNoRun name choices f g
    → (f ≡ run.Memory) ⊎ ((p : ℕ) → IsFirstNamed g name p → IsFalse (is_idle g p))
not_idle name choices f g few h = by_fault f h.cause
  where
    by_fault : (f : RunFault) → (f ≡ run.Memory) ⊎ IsFirstRunFault g h.initiator choices [] f
        → (f ≡ run.Memory) ⊎ ((p : ℕ) → IsFirstNamed g name p → IsFalse (is_idle g p))
    by_fault f (inl memory) = inl memory
    by_fault run.NotIdle (inr active) =
        inr (λ p first. subst (λ (q : ℕ). IsFalse (is_idle g q))
        (first_alone name g h.initiator p h.named first) active)
    by_fault run.TooManyChoices (inr many) = let l : MAX_CHOICES < length choices = many.1 in absurd (omega arith)
    by_fault run.BadRestarts (inr bad) = absurd (bad.2 no_restarts)
    by_fault run.Memory (inr none) = absurd none

-- where the trace has a fault, the outcome has the status of that fault
pub trace_failed : (name list : Bor (List ℕ)) (choices : List ℕ) (e : Ends) (f : AppFault) → IsListOf list.now choices
    → length choices ≤ MAX_CHOICES
    → IfDump f (IsRefused e.source_old e.source_new)
    → IfNoSuchProcess f (GaveGraph e.source_old e.source_new (λ g. NobodyIsNamed g name.now))
    → IfRun f (λ fault. GaveGraph e.source_old e.source_new (HasNoRun name.now choices fault))
    → IfUnwritten f (IsUnwritten e)
    → IfWriteFault f (IsCutShort (IsSomeTrace name.now choices) e.source_old e.source_new e.out_old e.out_new)
    → IfWriteFault f (λ _. e.out_new.has_failed ≡ true) → IsOutcome (Trace name list) (status_of f) e
trace_failed name list choices e (Dump f) listed few refused nobody no_run unwritten cut stopped =
    refused_dump (Trace name list) e f (λ own. (unwritten, (f, own, refused))) (inl unwritten)
trace_failed name list choices e (Work f) listed few refused nobody no_run unwritten cut stopped =
    has_failed (Trace name list) e (inl unwritten)
trace_failed name list choices e NoSuchProcess listed few refused nobody no_run unwritten cut stopped =
    is_misused (Trace name list) e (
      unwritten,
      inr (record
          { graph = nobody.graph; dump = nobody.dump; holds = nobody_named name.now nobody.graph nobody.holds }),
    )
trace_failed name list choices e (Run f) listed few refused nobody no_run unwritten cut stopped =
    by_run f (not_idle name.now choices f no_run.graph few no_run.holds)
  where
    misused : ((p : ℕ) → IsFirstNamed no_run.graph name.now p → IsFalse (is_idle no_run.graph p))
        → IsOutcome (Trace name list) MISUSED e
    misused none =
        is_misused (Trace name list) e
        (unwritten, inr (record { graph = no_run.graph; dump = no_run.dump; holds = none }))

    by_run : (f : RunFault)
        → (f ≡ run.Memory) ⊎ ((p : ℕ) → IsFirstNamed no_run.graph name.now p → IsFalse (is_idle no_run.graph p))
        → IsOutcome (Trace name list) (status_of (Run f)) e
    by_run run.Memory h = has_failed (Trace name list) e (inl unwritten)
    by_run run.NotIdle (inl memory) = cc
    by_run run.NotIdle (inr none) = misused none
    by_run run.TooManyChoices (inl memory) = cc
    by_run run.TooManyChoices (inr none) = misused none
    by_run run.BadRestarts (inl memory) = cc
    by_run run.BadRestarts (inr none) = misused none
trace_failed name list choices e (Report f) listed few refused nobody no_run unwritten cut stopped =
    has_failed (Trace name list) e (inl unwritten)
trace_failed name list choices e (WriteFault n) listed few refused nobody no_run unwritten cut stopped =
    has_failed (Trace name list) e (inr (
      stopped,
      (
        n,
        record {
          graph = cut.graph;
          dump = cut.dump;
          text = cut.text;
          fits = (choices, listed, cut.fits);
          within = cut.within;
          taken = cut.taken;
        },
      ),
    ))

-- ---- a text that was asked for

-- where a text that was asked for is out, or a prefix of it as the output failed, the outcome fits the status
pub shown : (text : String Global) (s : ℕ) (e : Ends) → (s ≡ FREE) ⊎ (s ≡ FAILED) → IsUnread e
    → (s ≡ FREE → e.out_new.taken ≡ e.out_old.taken ++ string_bytes text) → (s ≡ FREE → e.out_new.is_finished ≡ true)
    → (s ≡ FAILED
    → (e.out_new.has_failed ≡ true)
    × ((written : ℕ) × (e.out_new.taken ≡ e.out_old.taken ++ take written (string_bytes text))))
    → IsOutcome (Show text) s e
shown text s e (inl is) unread taken finished prefix = record {
  free = λ x. (unread, taken x, finished x);
  refused = λ x. absurd (omega arith);
  misused = λ x. absurd (omega arith);
  deadlocked = λ x. absurd (omega arith);
  failed = λ x. absurd (omega arith);
  known = omega arith;
}
shown text s e (inr is) unread taken finished prefix = record {
  free = λ x. absurd (omega arith);
  refused = λ x. absurd (omega arith);
  misused = λ x. absurd (omega arith);
  deadlocked = λ x. absurd (omega arith);
  failed = λ x. (unread, (prefix x).0, (prefix x).1);
  known = omega arith;
}

-- ---- the whole program

-- where the request is what the words ask for, its outcome is one of the words
pub requested : (words : List (List ℕ)) (r : Request) (s : ℕ) (e : Ends) → IsRequest words r → IsOutcome r s e
    → ((request : Request) × IsRequest words request × IsOutcome request s e)
    ⊎ ((s ≡ FAILED) × IsUnread e × IsUnwritten e)
requested words r s e asked h = inl (r, asked, h)

-- where the words are refused and nothing is touched, the outcome has the status `MISUSED`
pub refused_words : (words : List (List ℕ)) (text : String Global) (e : Ends) → IsRequest words (Refused text)
    → IsUnread e → IsUnwritten e
    → ((request : Request) × IsRequest words request × IsOutcome request MISUSED e)
    ⊎ ((MISUSED ≡ FAILED) × IsUnread e × IsUnwritten e)
refused_words words text e asked unread unwritten =
    inl (Refused text, asked, is_misused (Refused text) e (unwritten, unread))
