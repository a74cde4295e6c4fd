-- A message of an older computation changes nothing.
use Rattle.cmh_run.proofs.Common.{◌≡◌, ◌<◌, ℕ, cond, Option, None, refl, arith, append-nil, remove, ne_eqb, le-ltb, and-false, set-get_or, Verdict, Graph, is_awake, by_test, Kind, Query, Reply, Message, new_proc, Config, proc_at, after_message, without_message, after_delivery}

-- a message numbered below its receiver's latest changes nothing and sends nothing
pub stale_untouched : (g : Graph) (i : ℕ) (c : Config) (x : ℕ) (m : Message) (hint : Option Verdict)
    → c.ended ≡ None → m.number < (proc_at c.procs m.to).latest
    → after_delivery g i c x m hint ≡ without_message c x
stale_untouched g i c x m hint going old =
    by_test (is_awake g m.to)
    (λ b. cond b (without_message c x) (after_message g i (without_message c x) m m.kind hint) ≡ without_message c x)
    (λ awake. refl) (λ asleep. by_kind m.kind)
  where
    older : (proc_at c.procs m.to).latest ≡ m.number → ⊥
    older e = omega (arith, old, e)

    by_kind : (kind : Kind) → after_message g i (without_message c x) m kind hint ≡ without_message c x
    by_kind Query =
        rw (
          le-ltb (proc_at c.procs m.to).latest m.number (omega (arith, old)),
          ne_eqb (proc_at c.procs m.to).latest m.number older,
          and-false (proc_at c.procs m.to).wait,
          append-nil (remove c.bag x),
          set-get_or c.procs m.to new_proc,
          going,
        ) refl
    by_kind Reply =
        rw (
          ne_eqb (proc_at c.procs m.to).latest m.number older,
          and-false (proc_at c.procs m.to).wait,
          append-nil (remove c.bag x),
          set-get_or c.procs m.to new_proc,
          going,
        ) refl
