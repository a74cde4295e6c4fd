-- What a run that has ended says.
use Rattle.cmh_run.proofs.Common.{IsTrue, ◌≡◌, Proc, ℕ, ◌<◌, Bool, List, [], ◌∷◌, Contains, Option, Some, refl, sym, ◌∙◌, ap, arith, true≢false, Message, Verdict, Delivery, Ending, Declared, AtRest, CutFree, Graph, IsWithinGraph, is_idle, IsDeadlocked, Config, proc_at, after_delivery, start, nothing_yet, Going, after_due_restart, going_after, going_from, DeliveriesLead, EndsAs, IsRight, Rule, IsRun, get_or-le-sum_by, slice_get-get_or}
use Rattle.std.proofs.lemmas.Bool.Decides.{nat_tests}
use Rattle.cmh_run.proofs.Paths.{reaches_self}
use Rattle.cmh_graph.proofs.Groups.{reached_deadlocked}
use Rattle.cmh_run.proofs.Tally.{tally_from_contains, distinct}
use Rattle.cmh_run.proofs.Invariant.{engaged_deadlocked, none_on_way, at_rest_free}
use Rattle.cmh_run.proofs.Tokens.{tokens, token, edge_from, edge_to}
use Rattle.cmh_run.proofs.LiveInvariant.{IsSoundRun, IsSoundMessage}
use Rattle.cmh_run.proofs.Configurations.{IsSoundConfig, leads_stands, fresh_at, fine_at, rests_at_once, by_start}

-- a delivery keeps the number
pub number_kept : (g : Graph) (i : ℕ) (c : Config) (x : ℕ) (m : Message) (hint : Option Verdict)
    → (after_delivery g i c x m hint).number ≡ c.number
number_kept g i c x m hint = grind arith

-- without restarts the number stays the same
one_number : (rule : ℕ → Config → ℕ → Bool) (g : Graph) (i : ℕ) (log : List Delivery) (s end : Going) → s.restarts ≡ []
    → DeliveriesLead rule g i s log end → end.config.number ≡ s.config.number
one_number rule g i [] s end none l = ap (λ (t : Going). t.config.number) (sym (rw none at l))
one_number rule g i (d ∷ log) s end none l =
    one_number rule g i log (going_after g i (after_due_restart g i s) l.0 d) end (rw none) l.3
    ∙ number_kept g i (after_due_restart g i s).config l.0 d.message d.hint ∙ rw none refl

-- what is true of each undelivered message is true of one in the bag
fine_in : {g : Graph} {i n : ℕ} {F : ℕ → Proc} {bag : List Message} {engaged : List ℕ}
    → IsSoundRun g i n F bag engaged → (m : Message) → Contains bag m → IsSoundMessage g i n F m
fine_in {bag = bag} L m h = fine_at L h.0 m (slice_get-get_or bag h.0 m h.1 ∙ ap Some h.2)

-- once the initiator waits for no reply, each undelivered message has a lower number
low_number : {g : Graph} {i n : ℕ} {F : ℕ → Proc} {bag : List Message} {engaged : List ℕ}
    → IsSoundRun g i n F bag engaged → (F i).num ≡ 0 → (m : Message) → Contains bag m → m.number < n
low_number {g = g} {i = i} {n = n} {F = F} {bag = bag} L top m h = grind (
  arith,
  nat_tests,
  h.2,
  get_or-le-sum_by (token n (edge_from m.kind m) (edge_to m.kind m)) bag h.0 m h.1,
  none_on_way g i n F (tokens n bag) L.out L.rank L.clock L.sound top (edge_from m.kind m) (edge_to m.kind m),
  (fine_in L m h).low,
)

-- a bag that contains no message is empty
no_member : (bag : List Message) → ((m : Message) → Contains bag m → ⊥) → bag ≡ []
no_member [] none = refl
no_member (m ∷ bag) none = absurd (none m (0, omega arith, refl))

-- where what stays true of a run holds at its end, the run is right
right_at : (g : Graph) (i : ℕ) (restarts : List ℕ) (ending : Ending) (end : Going)
    → IsSoundConfig g i end.config → EndsAs end.config ending → (restarts ≡ [] → end.config.number ≡ 1)
    → IsRight g i restarts ending end
right_at g i restarts Declared end s e one =
    let h = rw e at s.status in
    let L = h.0 in
    let dead = engaged_deadlocked g i end.config.number (proc_at end.config.procs)
    (tokens end.config.number end.config.bag) L.out L.rank L.clock L.sound h.1 in
    record {
      declared = λ q. dead i L.sound.root_in;
      free = λ q. absurd (q refl);
      engaged = λ q k k_in. dead k (L.engaged_in k (tally_from_contains k end.config.engaged k_in));
      begins = λ q. L.begins;
      once = λ q. distinct end.config.engaged L.once;
      last_delivered = λ q. low_number L h.1;
      all_delivered = λ none q. no_member end.config.bag
          (λ m m_in. omega (arith, low_number L h.1 m m_in, one none, (fine_in L m m_in).positive));
    }
right_at g i restarts AtRest end s e one =
    let h = rw e.0 at s.status in
    let L = h.0 in
    let free = at_rest_free g i end.config.number (proc_at end.config.procs)
    (tokens end.config.number end.config.bag) L.out L.rank L.clock L.sound (λ k r. rw e.1) h.1 in
    grind (arith, free)
right_at g i restarts (CutFree k) end s e one =
    let h = rw e at s.status in
    let free = λ (dead : IsDeadlocked g i). h.free (reached_deadlocked g i k dead h.reached) in
    grind (arith, free)

-- every legal run of an idle process is right
pub runs_are_sound : (rule : Rule) (g : Graph) (i : ℕ) (restarts : List ℕ)
    (log : List Delivery) (ending : Ending) (end : Going)
    → IsWithinGraph g → IsTrue (is_idle g i) → IsRun rule g i restarts log ending end
    → IsRight g i restarts ending end
runs_are_sound rule g i restarts log ending end ok idle run =
    by_start rule g i restarts log end ok idle run.leads
    (λ up silent still. rw (rests_at_once g ending (rw still at run.ends))
    (let free = λ (dead : IsDeadlocked g i). true≢false (sym up ∙ dead.1 i (reaches_self g i)) in
    grind (arith, free)))
    (λ rests within first l.
    let began : Going = going_from (start g i (nothing_yet g)) restarts in
    right_at g i restarts ending end (leads_stands rule g i ok within rests log began end first l) run.ends
    (λ none. one_number rule g i log began end none l ∙ rw fresh_at))
