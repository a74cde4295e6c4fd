-- Runs that have a trace, and that they have one alone.
use Rattle.std.proofs.Common.{◌≡◌, ◌≢◌, ℕ, ◌<◌, ◌≤◌, take, ⊎_elim, ◌&&◌, ◌==◌, cond, List, [], ◌∷◌, ◌++◌, length, map, Option, Some, None, is_none, refl, sym, ◌∙◌, subst, arith}
use Rattle.std.specs.Prelude.{flat_map}
use Rattle.std.proofs.lemmas.Bool.{cases_eq, cases_lt}
use Rattle.std.proofs.lemmas.List.{take_all}
use Rattle.std.proofs.lemmas.List.Concat.{flat_map-append}
use Rattle.cmh_graph.specs.declared.verdict.Verdict.{Verdict}
use Rattle.cmh_graph.specs.Graph.{Graph, dependents_of, is_awake, name_of, IsWithinGraph}
use Rattle.cmh_graph.proofs.Verdicts.{idle_within, by_test}
use Rattle.cmh_process.specs.declared.message.Kind.{Kind}
use Rattle.cmh_process.specs.declared.message.Kind.TheVariants.{Query, Reply}
use Rattle.cmh_process.specs.declared.message.Message.{Message}
use Rattle.cmh_process.specs.declared.process.Action.{Action}
use Rattle.cmh_process.specs.declared.process.Action.TheVariants.{Nothing, Engage, ReplyTo, Declare}
use Rattle.cmh_process.specs.Process.{start_action, engages, query_action, reply_action}
use Rattle.cmh_run.specs.declared.delivery.Delivery.{Delivery}
use Rattle.cmh_run.specs.declared.delivery.Ending.{Ending}
use Rattle.cmh_run.specs.declared.delivery.Ending.TheVariants.{CutFree}
use Rattle.cmh_run.specs.Choices.{chosen_place, HasNoHints}
use Rattle.cmh_run.specs.Config.{Config, proc_at, ending_after, nothing_yet, start, after_delivery, after_message, without_message, after_hint, after_answer}
use Rattle.cmh_run.specs.Legal.{Going, Rule, going_at_start, going_from, after_due_restart, after_restart, after_first_restart, going_after, DeliveriesLead, EndsAs, IsRun}
use Rattle.cmh_run.specs.Run.{Run, IsRunAnswer, IsRunOf}
use Rattle.cmh_run.proofs.BetweenLemmas.{messages_are_between}
use Rattle.cmh_run.proofs.Determinism.{runs_are_deterministic, one_ending}
use Rattle.cmh_text.specs.Report.{line}
use Rattle.cmh_report.specs.Trace.{ending_lines, message_line, trace_text, IsFirstNamed, HasLines, IsEndedTrace}

-- ---- endings

-- no hint has ended the run
abbrev IsUncut : Option Ending → Type 0
IsUncut o = (k : ℕ) → o ≡ Some (CutFree k) → ⊥

-- no action ends a run as a hint does
action_uncut : (a : Action) → IsUncut (ending_after a)
action_uncut Nothing k e = cc
action_uncut Engage k e = cc
action_uncut (ReplyTo to) k e = cc
action_uncut Declare k e = cc

none_uncut : IsUncut None
none_uncut k e = cc

-- what a message does without a hint doesn't end the run as a hint does
received_uncut : (g : Graph) (i : ℕ) (c : Config) (m : Message) (kind : Kind)
    → IsUncut (after_message g i c m kind None).ended
received_uncut g i c m Reply = action_uncut (reply_action (proc_at c.procs m.to) m.number)
received_uncut g i c m Query =
    by_test (engages (proc_at c.procs m.to) m.number)
    (λ b. IsUncut (cond b (after_hint g i c m None) (after_answer i c m)).ended)
    (λ e. none_uncut)
    (λ e. action_uncut (query_action (proc_at c.procs m.to) m.number m.from 0))

-- a delivery without a hint doesn't end a run as a hint does
delivered_uncut : (g : Graph) (i : ℕ) (c : Config) (x : ℕ) (m : Message) (hint : Option Verdict) → c.ended ≡ None
    → hint ≡ None
    → IsUncut (after_delivery g i c x m hint).ended
delivered_uncut g i c x m hint going none =
    subst (λ (h : Option Verdict). IsUncut (after_delivery g i c x m h).ended) (sym none)
    (by_test (is_awake g m.to)
    (λ b. IsUncut (cond b (without_message c x) (after_message g i (without_message c x) m m.kind None)).ended)
    (λ e. subst IsUncut (sym going) none_uncut)
    (λ e. received_uncut g i (without_message c x) m m.kind))

-- a restart doesn't end a run as a hint does
ready_uncut : (g : Graph) (i : ℕ) (s : Going) (restarts : List ℕ) → IsUncut s.config.ended
    → IsUncut (after_first_restart g i s restarts).config.ended
ready_uncut g i s [] h = h
ready_uncut g i s (n ∷ rest) h =
    by_test (is_none s.config.ended && (n == s.done))
    (λ b. IsUncut (cond b (after_restart g i s rest) s).config.ended)
    (λ e. action_uncut (start_action (length (dependents_of g i))))
    (λ e. h)

-- deliveries without hints don't end a run as a hint does
leads_uncut : (rule : Rule) (g : Graph) (i : ℕ) (log : List Delivery) (s end : Going) → HasNoHints log
    → IsUncut s.config.ended → DeliveriesLead rule g i s log end
    → IsUncut end.config.ended
leads_uncut rule g i [] s end none h l =
    subst (λ (t : Going). IsUncut t.config.ended) l (ready_uncut g i s s.restarts h)
leads_uncut rule g i (d ∷ log) s end none h l =
    leads_uncut rule g i log (going_after g i (after_due_restart g i s) l.0 d) end none.1
    (delivered_uncut g i (after_due_restart g i s).config l.0 d.message d.hint l.1.going none.0) l.3

-- the start doesn't end a run as a hint does
begun_uncut : (g : Graph) (i : ℕ) (restarts : List ℕ) → IsUncut (going_at_start g i restarts).config.ended
begun_uncut g i restarts =
    by_test (is_awake g i)
    (λ b. IsUncut
    (cond b (going_from (nothing_yet g) []) (going_from (start g i (nothing_yet g)) restarts)).config.ended)
    (λ e. none_uncut)
    (λ e. action_uncut (start_action (length (dependents_of g i))))

-- a run without hints is never cut free
pub never_cut : (g : Graph) (choices restarts : List ℕ) (r : Run) → IsRunOf g choices restarts r → HasNoHints r.log
    → (k : ℕ) → r.ending ≢ CutFree k
never_cut g choices restarts r run none k e =
    leads_uncut (chosen_place choices) g r.initiator r.log (going_at_start g r.initiator restarts) run.end none
    (begun_uncut g r.initiator restarts) run.legal.leads k
    (subst (λ (ending : Ending). EndsAs run.end.config ending) e run.legal.ends)

-- the run that is answered without hints has its lines
pub has_lines : (choices : List ℕ) (g : Graph) (i : ℕ) (r : Run) → IsWithinGraph g → IsRunAnswer g i choices [] r
    → HasNoHints r.log → HasLines g r
has_lines choices g i r ok run unhinted = record {
  initiator = idle_within g r.initiator run.true_verdict.idle;
  messages =
      messages_are_between (chosen_place choices) g r.initiator [] r.log r.ending run.legal.end ok
      run.true_verdict.idle run.legal.legal;
  ended = never_cut g choices [] r run.legal unhinted;
}

-- ---- lines

-- the lines of all deliveries and of the ending are the whole text
pub whole_trace : (g : Graph) (r : Run) (n : ℕ) → length r.log ≤ n
    → flat_map line (map (λ d. message_line g d.message) (take n r.log))
    ++ flat_map line (ending_lines (name_of g r.initiator) r.ending) ≡ trace_text g r
unfolding trace_text
whole_trace g r n l =
    rw (take_all n r.log l)
    (sym (flat_map-append line (map (λ d. message_line g d.message) r.log)
    (ending_lines (name_of g r.initiator) r.ending)))

-- ---- one trace

-- two first processes of one name are one
named_once : (g : Graph) (name : List ℕ) (p q : ℕ) → IsFirstNamed g name p → IsFirstNamed g name q → p ≡ q
named_once g name p q a b =
    ⊎_elim (λ (e : p ≡ q). e)
    (λ (ne : p ≡ q → ⊥).
    ⊎_elim (λ (l : p < q). absurd (b.first p l a.named)) (λ (l : q ≤ p). absurd (a.first q (omega arith) b.named))
    (cases_lt p q))
    (cases_eq p q)

-- the text goes by the initiator, the deliveries and the ending of the run
text_by_parts : (g : Graph) (r t : Run) → r.initiator ≡ t.initiator → r.log ≡ t.log → r.ending ≡ t.ending
    → trace_text g r ≡ trace_text g t
unfolding trace_text
text_by_parts g r t a b c = rw (a, b, c) refl

-- a name and choices leave one trace
pub one_trace : (name choices : List ℕ) (g : Graph) (text other : List ℕ) (ending last : Ending)
    → IsEndedTrace name choices ending g text → IsEndedTrace name choices last g other
    → (text ≡ other) × (ending ≡ last)
one_trace name choices g text other ending last a b =
    let r = a.run in
    let t = b.run in
    let same = named_once g name r.initiator t.initiator a.named b.named in
    let its : IsRun (chosen_place choices) g r.initiator [] t.log t.ending b.legal.end =
    subst (λ (i : ℕ). IsRun (chosen_place choices) g i [] t.log t.ending b.legal.end)
    (sym same) b.legal.legal in
    let one = runs_are_deterministic choices g r.initiator [] r.log t.log r.ending t.ending a.legal.end
    b.legal.end
    a.legal.legal its a.unhinted b.unhinted in
    let ended : r.ending ≡ t.ending = one_ending b.legal.end.config r.ending t.ending
    (subst (λ (s : Going). EndsAs s.config r.ending) one.1 a.legal.legal.ends) b.legal.legal.ends in
    (a.lines ∙ text_by_parts g r t same one.0 ended ∙ sym b.lines, a.ends ∙ ended ∙ sym b.ends)
