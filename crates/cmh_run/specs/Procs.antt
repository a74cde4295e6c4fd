-- The processes of a network that is used for one run after another.
use Rattle.std.specs.Prelude.{◌≡◌, ℕ, ◌<◌, List, length, All, Contains}
use Rattle.cmh_process.specs.declared.process.Proc.{Proc}
use Rattle.cmh_process.specs.Process.{new_proc}
use Rattle.cmh_run.specs.Config.{proc_at}

-- what the processes keep, and who is engaged in the last computation, in order
pub record ProcsView : Type 0 where
  pub procs : List Proc
  pub engaged : List ℕ

-- each of these is a process, as is each of the engaged, and no other process has heard of anything
pub record AreTouched (others engaged : List ℕ) (procs : List Proc) : Type 0 where
  pub within : All (λ k. k < length procs) others
  pub engaged_within : All (λ k. k < length procs) engaged
  pub rest : (k : ℕ) → (Contains others k → ⊥) → (Contains engaged k → ⊥) → proc_at procs k ≡ new_proc

-- These processes have become fresh. Any other one is fresh now if it was before.
abbrev pub AreFresh : List ℕ → List Proc → List Proc → Type 0
AreFresh which before after =
    (k : ℕ) → ((Contains which k → ⊥) → proc_at before k ≡ new_proc) → proc_at after k ≡ new_proc
