-- The processes that are engaged when a run has ended, and that an awake initiator starts nothing.
use Rattle.cmh_run.proofs.Common.{IsTrue, ◌≡◌, ℕ, ◌<◌, List, [], Contains, subst, arith, Graph, is_awake, is_idle, IsWithinGraph, IsDeadlocked, Proc, Message, Delivery, Ending, Declared, AtRest, CutFree, Config, proc_at, nothing_yet, start, Going, going_from, Rule, EndsAs, IsRun, AreEngaged}
use Rattle.cmh_run.specs.Engaged.{IsEmptyRun}
use Rattle.cmh_run.proofs.Tally.{tally_from_contains, distinct}
use Rattle.cmh_run.proofs.LiveInvariant.{IsSoundRun}
use Rattle.cmh_run.proofs.Configurations.{IsSoundConfig, CutAt, leads_stands, nothing_led, rests_at_once, by_start}
use Rattle.cmh_run.proofs.Soundness.{runs_are_sound}

-- the engaged are as they should be, where what the ending says of them is true
engaged_by_ending : {g : Graph} {i n : ℕ} {F : ℕ → Proc} {bag : List Message} {engaged : List ℕ} (ending : Ending)
    → IsSoundRun g i n F bag engaged → (ending ≡ Declared → (k : ℕ) → Contains engaged k → IsDeadlocked g k)
    → ((k : ℕ) → ending ≡ CutFree k → CutAt g i n F engaged k) → AreEngaged g i ending engaged
engaged_by_ending {F = F} {engaged = engaged} ending L deadlocked cut = record {
  begins = λ e. L.begins;
  once = distinct engaged L.once;
  asleep = λ k c. L.sound.rests k (heard k c);
  reached = λ k c. L.sound.reached k (heard k c);
  deadlocked = deadlocked;
  cut = λ k e. let h = cut k e in (
    h.free,
    h.rests,
    h.reached,
    λ c. omega (arith, h.before, L.engaged_in k (tally_from_contains k engaged c)),
  );
}
  where
    heard : (k : ℕ) → Contains engaged k → 0 < (F k).latest
    heard k c = omega (arith, L.sound.positive, L.engaged_in k (tally_from_contains k engaged c))

-- where what stays true of a run holds at its end, the engaged are as they should be
engaged_at : (g : Graph) (i : ℕ) (ending : Ending) (c : Config) → IsSoundConfig g i c → EndsAs c ending
    → (ending ≡ Declared → (k : ℕ) → Contains c.engaged k → IsDeadlocked g k) → AreEngaged g i ending c.engaged
engaged_at g i Declared c s e dead = engaged_by_ending Declared (rw e at s.status).0 dead (λ k q. absurd (cc))
engaged_at g i AtRest c s e dead = engaged_by_ending AtRest (rw e.0 at s.status).0 dead (λ k q. absurd (cc))
engaged_at g i (CutFree p) c s e dead =
    let h = rw e at s.status in
    engaged_by_ending (CutFree p) h.run dead
    (λ k q. subst (CutAt g i c.number (proc_at c.procs) c.engaged) (let same : p ≡ k = cc in same) h)

-- an awake initiator starts nothing
pub awake_ones_start_nothing : (rule : Rule) (g : Graph) (i : ℕ) (restarts : List ℕ)
    (log : List Delivery) (ending : Ending) (end : Going)
    → IsTrue (is_awake g i) → IsRun rule g i restarts log ending end
    → IsEmptyRun log ending end
awake_ones_start_nothing rule g i restarts log ending end up run =
    grind (arith, nothing_led rule g i log end (rw up at run.leads), run.ends)

-- the engaged of every legal run are as they should be
pub who_engages : (rule : Rule) (g : Graph) (i : ℕ) (restarts : List ℕ)
    (log : List Delivery) (ending : Ending) (end : Going)
    → IsWithinGraph g → IsTrue (is_idle g i) → IsRun rule g i restarts log ending end
    → AreEngaged g i ending end.config.engaged
who_engages rule g i restarts log ending end ok idle run =
    by_start rule g i restarts log end ok idle run.leads
    (λ up silent still. rw (still, rests_at_once g ending (rw still at run.ends))
    (let once = distinct [] (λ k. omega arith) in grind (arith, once)))
    (λ rests within first l. engaged_at g i ending end.config
    (leads_stands rule g i ok within rests log (going_from (start g i (nothing_yet g)) restarts) end first l) run.ends
    (runs_are_sound rule g i restarts log ending end ok idle run).engaged)
