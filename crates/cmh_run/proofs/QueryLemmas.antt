-- What a query does: hints are asked about a receiver that is about to engage, and no other process is changed.
use Rattle.cmh_run.proofs.Common.{by_test, ltb-true, ne_eqb, arith, append-nil, ap, eqb, Ending, Nothing, ◌≡◌, ℕ, [], true, false, not, ◌&&◌, cond, Option, Some, None, refl, sym, ◌∙◌, true≢false, and_parts, IfSome, IsTrue, set-get_or, Verdict, Deadlocked, Free, Kind, Query, Reply, Message, Graph, is_awake, engages, new_proc, repeat_action, Config, after_hint, after_message, asks_hint, proc_at, query, IsVerdict, HintIsFit, and-false}
use Rattle.std.proofs.lemmas.Bool.{not-true}
use Rattle.cmh_run.specs.Config.{after_action, after_reply}
use Rattle.cmh_run.specs.Progress.{MayReceive}

-- a true hint fits where hints are asked
pub fit_where_asked : (g : Graph) (c : Config) (m : Message) (hint : Option Verdict) → IsTrue (asks_hint g c m)
    → IfSome hint (IsVerdict g m.to) → HintIsFit g c m hint
fit_where_asked g c m None asked is = tt
fit_where_asked g c m (Some v) asked is = (asked, is)

-- hints are asked of a query that engages a process that isn't awake
pub asked_of_query : (g : Graph) (c : Config) (m : Message) → m.kind ≡ Query → is_awake g m.to ≡ false
    → engages (proc_at c.procs m.to) m.number ≡ true → IsTrue (asks_hint g c m)
asked_of_query g c m kind asleep engaging = rw (kind, asleep, engaging) refl

-- a process that does nothing changes nothing in a run that hasn't ended
unchanged : (i : ℕ) (c : Config) (number k : ℕ) → c.ended ≡ None → after_action i c number k [] Nothing ≡ c
unchanged i c number k going =
    rw (append-nil c.bag) (ap (λ (o : Option Ending). let d : Config = record c { ended = o } in d) (sym going))

module _ (g : Graph) (i : ℕ) (c : Config) (m : Message) (may : MayReceive g c m) (hint : Option Verdict) where
  -- the latest number of an awake receiver is another than the message's
  not_latest : is_awake g m.to ≡ true → eqb (proc_at c.procs m.to).latest m.number ≡ false
  not_latest awake = let above = ltb-true _ _ (may.unheard awake) in ne_eqb _ _ (λ e. omega arith)

  -- a query of which hints are not asked is answered, to no effect where the receiver is awake
  pub answered : m.kind ≡ Query → asks_hint g c m ≡ false
      → after_action i c m.number m.to [] (repeat_action (proc_at c.procs m.to) m.number m.from)
      ≡ cond (is_awake g m.to) c (after_message g i c m m.kind hint)
  answered kind unasked =
      by_test (is_awake g m.to)
      (λ b. after_action i c m.number m.to [] (repeat_action (proc_at c.procs m.to) m.number m.from)
      ≡ cond b c (after_message g i c m m.kind hint))
      (λ awake. rw (not_latest awake, and-false) (unchanged i c m.number m.to may.process.going))
      (λ asleep. let stale : engages (proc_at c.procs m.to) m.number ≡ false = rw (kind, asleep) at unasked in
      rw (kind, stale, set-get_or c.procs m.to new_proc) refl)

  -- a reply is received, to no effect where the receiver is awake
  pub replied : m.kind ≡ Reply → after_reply i c m ≡ cond (is_awake g m.to) c (after_message g i c m m.kind hint)
  replied kind =
      by_test (is_awake g m.to) (λ b. after_reply i c m ≡ cond b c (after_message g i c m m.kind hint))
      (λ awake. rw (not_latest awake, and-false, set-get_or c.procs m.to new_proc)
      (unchanged i c m.number m.to may.process.going))
      (λ asleep. rw kind refl)

-- a message of which hints are asked is a query that engages a process that isn't awake
record IsAsked (g : Graph) (c : Config) (m : Message) : Type 0 where
  query : m.kind ≡ Query
  asleep : is_awake g m.to ≡ false
  engaging : engages (proc_at c.procs m.to) m.number ≡ true

asked_parts : (g : Graph) (c : Config) (m : Message) → asks_hint g c m ≡ true → IsAsked g c m
asked_parts g c m asked = by_kind m.kind refl
  where
    by_kind : (k : Kind) → m.kind ≡ k → IsAsked g c m
    by_kind Reply e = absurd (true≢false (sym (rw e at asked)))
    by_kind Query e =
        let rest : (not (is_awake g m.to) && engages (proc_at c.procs m.to) m.number) ≡ true = rw e at asked in
        let parts = and_parts (not (is_awake g m.to)) (engages (proc_at c.procs m.to) m.number) rest in
        record { query = e; asleep = not-true (is_awake g m.to) parts.0; engaging = parts.1 }

-- it does what a query that engages does, by its parts and the hint
pub engaged_by_hint : (g : Graph) (i : ℕ) (c : Config) (m : Message) (hint : Option Verdict) → asks_hint g c m ≡ true
    → after_hint g i c (query i m.number m.from m.to) hint
    ≡ (cond (is_awake g m.to) c (after_message g i c m m.kind hint))
engaged_by_hint g i c m hint asked =
    let is = asked_parts g c m asked in
    by_parts hint ∙ rw (is.query, is.asleep, is.engaging) refl
  where
    by_parts : (h : Option Verdict) → after_hint g i c (query i m.number m.from m.to) h ≡ after_hint g i c m h
    by_parts None = refl
    by_parts (Some Deadlocked) = refl
    by_parts (Some Free) = refl
