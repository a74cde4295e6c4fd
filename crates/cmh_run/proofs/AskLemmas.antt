-- What a run asks is told by its log: what each process has heard of is the highest number of the queries to it.
use Rattle.cmh_run.proofs.Common.{inl, inr, ◌%◌, ◌≡◌, ◌≢◌, ◌∙◌, ℕ, ◌<◌, true, false, not, ◌&&◌, cond, eqb, List, [], ◌∷◌, ◌++◌, length, slice_get, slice_set, Option, Some, None, none-some, refl, sym, ap, arith, append-nil, and-false, true≢false, cases_eq, eqb-true, eq-eqb, ne_eqb, le-ltb, get_or-set_same, get_or-set_other, new_proc, Proc, proc_replied, engages, Query, Message, Verdict, Deadlocked, Free, Delivery, Graph, process_count, is_awake, IsWithinGraph, by_test, Config, proc_at, nothing_yet, start, asks_hint, after_hint, without_message, after_delivery, Going, going_from, going_at_start, going_after, after_due_restart, Rule, MayCome, DeliveriesLead, HintIsFit, chosen_place, RunState}
use Rattle.std.specs.Prelude.{slice_index, Result, Ok, Err, OnErr}
use Rattle.std.proofs.Common.{append_assoc}
use Rattle.cmh_run.specs.Asks.{Ask, AskedInPart, is_query_above, highest_from, is_asked, ask_of, asks_after, asks_of}
use Rattle.cmh_run.specs.Asking.{asks_at, AsksOn, AsksOnInPart}
use Rattle.cmh_run.specs.Config.{is_query}
use Rattle.cmh_run.specs.Progress.{IsReady, IsRunState}
use Rattle.cmh_run.proofs.LiveInvariant.{IsSoundMessage}
use Rattle.cmh_run.proofs.Configurations.{IsSoundConfig, by_delivery, by_restart, by_start, coming, delivered, fine_at, fresh_at, leads_stands, ready_stands, status_none}
use Rattle.cmh_run.proofs.ProgressLemmas.{leads_on}

-- one delivery more asks what it asks after the others
asks_of_one_more : (g : Graph) (i : ℕ) (before log : List Delivery) (d : Delivery)
    → asks_after g i before (log ++ d ∷ []) ≡ asks_after g i before log ++ ask_of g i (before ++ log) d
asks_of_one_more g i before [] d = rw (append-nil before, append-nil (ask_of g i before d)) refl
asks_of_one_more g i before (e ∷ log) d =
    rw (asks_of_one_more g i (before ++ e ∷ []) log d, append_assoc before (e ∷ []) log)
    (sym (append_assoc (ask_of g i before e) (asks_after g i (before ++ e ∷ []) log)
    (ask_of g i (before ++ e ∷ log) d)))

-- where a run has not ended after a restart that is due, it had not ended before
not_ended_before : (g : Graph) (i : ℕ) (s : Going) → (after_due_restart g i s).config.ended ≡ None
    → s.config.ended ≡ None
not_ended_before g i s =
    by_restart (λ t. t.config.ended ≡ None → s.config.ended ≡ None) g i s s.restarts (λ e. e) (λ e rest h. e)

-- where deliveries lead to a run that has not ended, it had not ended before them
not_ended : (rule : Rule) (g : Graph) (i : ℕ) (log : List Delivery) (s end : Going) → DeliveriesLead rule g i s log end
    → end.config.ended ≡ None → s.config.ended ≡ None
not_ended rule g i [] s end l going = not_ended_before g i s (rw l going)
not_ended rule g i (d ∷ log) s end l going = not_ended_before g i s l.1.going

module _ (g : Graph) (i : ℕ) (ok : IsWithinGraph g) (within : i < process_count g) (rests : is_awake g i ≡ false)
    (k : ℕ) (other : k ≢ i) (asleep : is_awake g k ≡ false) where
  -- the latest number that k has heard of
  abbrev latest : Config → ℕ
  latest c = (proc_at c.procs k).latest

  -- a restart leaves it as it was
  restart_keeps : (s : Going) → latest (after_due_restart g i s).config ≡ latest s.config
  restart_keeps s =
      by_restart (λ t. latest t.config ≡ latest s.config) g i s s.restarts refl
      (λ e rest. ap (λ (p : Proc). p.latest) (get_or-set_other s.config.procs i k _ new_proc other))

  module _ (c : Config) (m : Message) (to_in : m.to < length c.procs) where
    -- what k has heard of once the receiver of m has changed
    latest_once_set : (p : Proc)
        → (proc_at (slice_set c.procs m.to p) k).latest ≡ cond (eqb m.to k) p.latest (latest c)
    latest_once_set p = elim (cases_eq m.to k) [
      | inl same ↦ rw (same, eq-eqb k k refl)
          (ap (λ (q : Proc). q.latest) (get_or-set_same c.procs k p new_proc (rw same at to_in)))
      | inr far ↦ rw (ne_eqb m.to k far)
          (ap (λ (q : Proc). q.latest) (get_or-set_other c.procs m.to k p new_proc (λ e. far (sym e))))
    ]

    -- what k has heard of where the receiver of m has heard of what it had, or k isn't the receiver
    latest_as_before : (p : Proc) → p.latest ≡ (proc_at c.procs m.to).latest
        → (proc_at (slice_set c.procs m.to p) k).latest ≡ latest c
    latest_as_before p e = latest_once_set p ∙ by_test (eqb m.to k) (λ b. cond b p.latest (latest c) ≡ latest c)
        (λ t. e ∙ ap (λ (x : ℕ). (proc_at c.procs x).latest) (eqb-true m.to k t)) (λ f. refl)

    -- a query that engages its receiver is the latest that it has heard of
    latest_engaged : (p : Proc) → p.latest ≡ m.number → m.kind ≡ Query
        → engages (proc_at c.procs m.to) m.number ≡ true
        → (proc_at (slice_set c.procs m.to p) k).latest ≡ cond (is_query_above k (latest c) m) m.number (latest c)
    latest_engaged p e kind new = latest_once_set p ∙ rw kind (elim (cases_eq m.to k) [
      | inl same ↦ rw (same, eq-eqb k k refl, rw same at new) e
      | inr far ↦ rw (ne_eqb m.to k far) refl
    ])

    -- a query that doesn't engage its receiver isn't above what that has heard of
    not_above : engages (proc_at c.procs m.to) m.number ≡ false → is_query_above k (latest c) m ≡ false
    not_above old = elim (cases_eq m.to k) [
      | inl same ↦ rw (same, rw same at old, and-false (eqb k k), and-false (is_query m.kind)) refl
      | inr far ↦ rw (ne_eqb m.to k far, and-false (is_query m.kind)) refl
    ]

  -- what k has heard of after a delivery that doesn't end the run
  heard_at_once : (c : Config) (x : ℕ) (d : Delivery) → IsSoundConfig g i c → MayCome g c x d
      → (after_delivery g i c x d.message d.hint).ended ≡ None
      → latest (after_delivery g i c x d.message d.hint)
      ≡ cond (is_query_above k (latest c) d.message) d.message.number (latest c)
  heard_at_once c x d h may =
      by_delivery (λ a. a.ended ≡ None → latest a ≡ cond (is_query_above k (latest c) m) m.number (latest c)) g i c x m
      d.hint
      (λ awake going. let far : m.to ≢ k = λ e. true≢false (sym awake ∙ rw e asleep) in
      rw (ne_eqb m.to k far, and-false (is_query m.kind)) refl)
      (λ rests kind new. by_hint kind new d.hint)
      (λ rests kind old going. rw (not_above c m to_in old, old) (latest_as_before c m to_in _ refl))
      (λ rests kind going. rw kind (latest_as_before c m to_in _ (replied_keeps (proc_at c.procs m.to))))
    where
      m : Message
      m = d.message

      to_in : d.message.to < length c.procs
      to_in = rw h.size (coming h may).to_in

      replied_keeps : (p : Proc) → (proc_replied p d.message.number).latest ≡ p.latest
      replied_keeps p = grind arith

      by_hint : d.message.kind ≡ Query → engages (proc_at c.procs d.message.to) d.message.number ≡ true
          → (hint : Option Verdict)
          → (after_hint g i (without_message c x) d.message hint).ended ≡ None
          → latest (after_hint g i (without_message c x) d.message hint)
          ≡ cond (is_query_above k (latest c) d.message) d.message.number (latest c)
      by_hint kind new None going = latest_engaged c d.message to_in _ (rw new refl) kind new
      by_hint kind new (Some Deadlocked) going = latest_engaged c d.message to_in _ (rw new refl) kind new
      by_hint kind new (Some Free) going = absurd (none-some _ (sym going))

  -- what k has heard of after deliveries that don't end the run
  pub heard : (rule : Rule) (log : List Delivery) (s end : Going) → IsSoundConfig g i s.config
      → DeliveriesLead rule g i s log end → end.config.ended ≡ None
      → latest end.config ≡ highest_from k (latest s.config) log
  heard rule [] s end h l going = rw (← l) (restart_keeps s)
  heard rule (d ∷ log) s end h l going =
      let now = ready_stands g i s ok within rests h s.restarts in
      let next = going_after g i (after_due_restart g i s) l.0 d in
      heard rule log next end (delivered ok now l.1) l.3 going
      ∙ ap (λ (n : ℕ). highest_from k n log)
      (heard_at_once (after_due_restart g i s).config l.0 d now l.1 (not_ended rule g i log next end l.3 going)
      ∙ rw (restart_keeps s) refl)

module _ (restarts : List ℕ) (r : RunState) (way : IsReady restarts r) (x : ℕ) (m : Message)
    (going : r.going.config.ended ≡ None) (there : slice_get r.going.config.bag x ≡ Some m) where
  -- hints are asked about the receiver of an undelivered message where the log says so
  asked_by_log : asks_hint r.graph r.going.config m ≡ is_asked r.graph r.initiator r.log m
  asked_by_log =
      by_start (chosen_place r.choices) r.graph r.initiator restarts r.log r.going way.well_formed.within
      way.accepted.idle way.leads
      (λ up silent still. absurd (none-some m (rw still at there)))
      (λ rests within first l.
      let stands = leads_stands (chosen_place r.choices) r.graph r.initiator way.well_formed.within within rests r.log
      (going_from (start r.graph r.initiator (nothing_yet r.graph)) restarts) r.going first l in
      let live = (status_none r.graph r.initiator r.going.config stands going).0 in
      let fine : IsSoundMessage r.graph r.initiator r.going.config.number (proc_at r.going.config.procs) m =
      fine_at live x m there in
      by_test (is_awake r.graph m.to)
      (λ b. (is_query m.kind && (not b && engages (proc_at r.going.config.procs m.to) m.number))
      ≡ (not b && (not (eqb m.to r.initiator)
      && is_query_above m.to (highest_from m.to 0 r.log) m)))
      (λ up. and-false (is_query m.kind))
      (λ asleep. elim (cases_eq m.to r.initiator) [
        | inl same ↦ rw (
          same,
          eq-eqb r.initiator r.initiator refl,
          le-ltb (proc_at r.going.config.procs r.initiator).latest m.number
              (omega (arith, live.sound.root_in, fine.low)),
        ) (and-false (is_query m.kind))
        | inr other ↦
            let begun : (proc_at (start r.graph r.initiator (nothing_yet r.graph)).procs m.to).latest ≡ 0 =
            ap (λ (p : Proc). p.latest)
            (get_or-set_other (nothing_yet r.graph).procs r.initiator m.to _ new_proc other
            ∙ fresh_at (process_count r.graph) m.to) in
            let is = heard r.graph r.initiator way.well_formed.within within rests m.to other asleep
            (chosen_place r.choices) r.log (going_from (start r.graph r.initiator (nothing_yet r.graph)) restarts)
            r.going first l going in
            rw (ne_eqb m.to r.initiator other, eq-eqb m.to m.to refl, is, begun) refl
      ]))

  module _ (has_asked : List Ask → Type 0) (taken : Config) (is : taken ≡ without_message r.going.config x)
      (hint : Option Verdict) (asked : has_asked (asks_at r.graph taken m hint)) where
    -- its delivery
    abbrev d : Delivery
    d = record { message = m; hint = hint }

    -- what is asked before it is delivered is what its delivery asks
    asked_by : asks_of r.graph r.initiator (r.log ++ d ∷ [])
        ≡ asks_of r.graph r.initiator r.log ++ asks_at r.graph taken m hint
    asked_by =
        asks_of_one_more r.graph r.initiator [] r.log d
        ∙ rw (is, asked_by_log) refl

    -- just what the log asks was asked, once it is delivered
    pub asks_next : (log : List Delivery) → log ≡ r.log ++ d ∷ []
        → AsksOn has_asked r.graph r.initiator r.log log
    asks_next log longer = rw longer (record { asks = asks_at r.graph taken m hint; asked = asked; are = asked_by })

    -- just what deliveries ask was asked, where its delivery was broken off once its ask was answered
    pub asks_until : HintIsFit r.graph taken m hint → x ≡ slice_index r.choices r.going.done % length r.going.config.bag
        → AsksOnInPart has_asked restarts r
    asks_until fit chosen = record {
      log = r.log ++ d ∷ [];
      end = after_due_restart r.graph r.initiator (going_after r.graph r.initiator r.going x d);
      leads = leads_on (chosen_place r.choices) r.graph r.initiator r.log
          (going_at_start r.graph r.initiator restarts) r.going x d way.leads
          (record { going = going; there = there; hint = same_fit hint (rw is at fit) }) (eq-eqb x _ chosen);
      asks = asks_next (r.log ++ d ∷ []) refl;
    }
      where
        same_fit : (h : Option Verdict) → HintIsFit r.graph (without_message r.going.config x) m h
            → HintIsFit r.graph r.going.config m h
        same_fit None e = tt
        same_fit (Some v) e = e

-- what is asked from a run on is asked from the run before a restart that was due
pub asks_before : (has_asked : List Ask → Type 0) (restarts : List ℕ) (before r : RunState) (s : Going)
    → r ≡ record before { going = s } → AsksOnInPart has_asked restarts r → AsksOnInPart has_asked restarts before
asks_before has_asked restarts before r s e h = let h = rw e at h in record {
  log = h.log;
  end = h.end;
  leads = h.leads;
  asks = h.asks;
}

-- so is what is asked on the way to a log
pub asks_on_before : (has_asked : List Ask → Type 0) (before r : RunState) (s : Going) (log : List Delivery)
    → r ≡ record before { going = s } → AsksOn has_asked r.graph r.initiator r.log log
    → AsksOn has_asked before.graph before.initiator before.log log
asks_on_before has_asked before r s log e h = rw e at h

-- what is asked on the way to a log, and on from it, is asked on the whole way
pub asks_both : (first second both : List Ask → Type 0) (g : Graph) (i : ℕ) (before log after : List Delivery)
    → ((xs ys : List Ask) → first xs → second ys → both (xs ++ ys)) → AsksOn first g i before log
    → AsksOn second g i log after → AsksOn both g i before after
asks_both first second both g i before log after on a b = record {
  asks = a.asks ++ b.asks;
  asked = on a.asks b.asks a.asked b.asked;
  are = b.are ∙ ap (λ (l : List Ask). l ++ b.asks) a.are ∙ append_assoc (asks_of g i before) a.asks b.asks;
}

-- what is asked on the way to a run, and on from it until it is broken off, is asked until then
pub asks_both_until : (first second both : List Ask → Type 0) (restarts : List ℕ) (r v : RunState)
    → ((xs ys : List Ask) → first xs → second ys → both (xs ++ ys)) → IsRunState r.graph r.initiator r.choices v
    → AsksOn first r.graph r.initiator r.log v.log → AsksOnInPart second restarts v → AsksOnInPart both restarts r
asks_both_until first second both restarts r v on same a b = record {
  log = b.log;
  end = b.end;
  leads = rw (same.graph, same.initiator, same.choices) at b.leads;
  asks = asks_both first second both r.graph r.initiator r.log v.log b.log on a
      (rw (same.graph, same.initiator) at b.asks);
}

-- what is asked from a start on is what the log asks
pub asks_from_start : (has_asked : List Ask → Type 0) (g : Graph) (i : ℕ) (before log : List Delivery) → before ≡ []
    → AsksOn has_asked g i before log → has_asked (asks_of g i log)
asks_from_start has_asked g i before log e a = rw (a.are, e) a.asked

-- what is asked from a start on until a run is broken off is what deliveries ask that began it
pub asked_until : (has_asked : List Ask → Type 0) (g : Graph) (i : ℕ) (choices restarts : List ℕ) (r : RunState)
    → IsRunState g i choices r → r.log ≡ [] → AsksOnInPart has_asked restarts r
    → AskedInPart has_asked g i choices restarts
asked_until has_asked g i choices restarts r same e a = record {
  log = a.log;
  end = a.end;
  leads = rw (same.graph, same.initiator, same.choices) at a.leads;
  asked = asks_from_start has_asked g i r.log a.log e (rw (same.graph, same.initiator) at a.asks);
}

-- where nothing was asked, no delivery was made
pub asked_nothing : (has_asked : List Ask → Type 0) (g : Graph) (i : ℕ) (choices restarts : List ℕ) → has_asked []
    → AskedInPart has_asked g i choices restarts
asked_nothing has_asked g i choices restarts none = record {
  log = [];
  end = after_due_restart g i (going_at_start g i restarts);
  leads = refl;
  asked = none;
}

-- what is so anyway is so at a refusal
pub at_refusal : {T E : Type 0} (result : Result T E) {P : Type 0} → P → OnErr result P
at_refusal (Ok x) p = tt
at_refusal (Err e) p = p

-- what is asked on the way to a run, and on from it, is asked on the whole way
pub asks_on_from : (first second both : List Ask → Type 0) (r v : RunState) (log : List Delivery)
    → ((xs ys : List Ask) → first xs → second ys → both (xs ++ ys)) → IsRunState r.graph r.initiator r.choices v
    → AsksOn first r.graph r.initiator r.log v.log → AsksOn second v.graph v.initiator v.log log
    → AsksOn both r.graph r.initiator r.log log
asks_on_from first second both r v log on same a b =
    asks_both first second both r.graph r.initiator r.log v.log log on a (rw (same.graph, same.initiator) at b)
