-- Numbers that threads draw: the rule of their word, over what all seats know.
use Rattle.std.specs.Prelude.{◌≡◌, ℕ, zero, suc, ◌+◌, ◌-◌, ◌<◌, ◌≤◌, ◌||◌, ◌^◌, ◌==◌, true, false, if◌then◌else◌, List, [], ◌∷◌, ◌++◌, length, count_by, slice_index}
use Rattle.atomic_table.specs.Table.{State}
use Rattle.cmh_rw.specs.Machine.{IsSeat, total}
use Rattle.cmh_plan.specs.declared.TheConstants.{MAX_WORKERS}
use Rattle.cmh_plan.specs.declared.ticket_rule.TicketView.{TicketView}

-- ---- weights

-- the weights of the numbers below the bound, added up
abbrev pub sum_below : (ℕ → ℕ) → ℕ → ℕ
sum_below weight zero = 0
sum_below weight (suc n) = sum_below weight n + weight n

-- ---- what a seat knows

-- what the first seat knows: it has all shares, and has drawn none of these chunks
abbrev pub ticket_opening_view : ℕ → TicketView
ticket_opening_view chunks = record { chunks = chunks; share = MAX_WORKERS; drawn = []; done = false }

-- what a seat knows once it gave 1 of its share away
abbrev pub ticket_less_one : TicketView → TicketView
ticket_less_one v = record v { share = v.share - 1 }

-- what a new seat knows, which has got 1 of this one's share
abbrev pub ticket_newcomer : TicketView → TicketView
ticket_newcomer v = record { chunks = v.chunks; share = 1; drawn = []; done = v.done }

-- what a seat knows once another one has joined it
abbrev pub joined_views : TicketView → TicketView → TicketView
joined_views v w = record v {
  share = v.share + w.share;
  drawn = v.drawn ++ w.drawn;
  done = v.done || w.done;
}

-- the seat once it has drawn chunk n
abbrev pub with_drawn : TicketView → ℕ → TicketView
with_drawn v n = record v { drawn = v.drawn ++ n ∷ [] }

-- each number below the number of chunks was drawn once, and no other: the sums are equal, whatever a number weighs
abbrev pub DrewAll : TicketView → Type 0
DrewAll v = (weight : ℕ → ℕ) → total weight v.drawn ≡ sum_below weight v.chunks

-- with the whole share, and once it got no number, the seat drew all
abbrev pub KnowsAll : TicketView → Type 0
KnowsAll v = v.done ≡ true → v.share ≡ MAX_WORKERS → DrewAll v

-- ---- the rule

-- the share of a seat that found no chunk left, and 0 for any other
abbrev pub done_share : TicketView → ℕ
done_share v = if v.done then v.share else 0

-- What is true of each seat. One without a share has drawn nothing. Each other one knows the number of chunks. Where a
-- seat found no chunk left, the word is past the last one.
pub record IsTicketSeat (chunks word : ℕ) (v : TicketView) : Type 0 where
  pub bare : v.share ≡ 0 → v.drawn ≡ []
  pub knows : 0 < v.share → v.chunks ≡ chunks
  pub past : v.done ≡ true → chunks ≤ word

-- The word is the number of draws. Each number below it and below the number of chunks stands once among what the seats
-- have drawn, and no other does. The draws past the end are at most the shares of the seats that found no chunk left.
pub record Dealt (chunks : ℕ) (s : State (Unit {0}) TicketView) : Type 0 where
  pub reached : ℕ
  pub wide : length s.words ≡ 1
  pub within : (reached ≤ chunks) × (reached ≤ slice_index s.words 0)
  pub before_end : slice_index s.words 0 ≤ chunks → reached ≡ slice_index s.words 0
  pub at_end : chunks ≤ slice_index s.words 0 → reached ≡ chunks
  pub small : chunks < 2 ^ 32
  pub shares : total (λ v. v.share) s.views ≤ MAX_WORKERS
  pub over : slice_index s.words 0 ≤ chunks + total done_share s.views
  pub each : (i : ℕ) (v : TicketView) → IsSeat s.views i v
      → IsTicketSeat chunks (slice_index s.words 0) v
  pub numbers : (weight : ℕ → ℕ)
      → total (λ v. total weight v.drawn) s.views ≡ sum_below weight reached

-- ---- what the weights mean

-- how often a number stands in the list
abbrev pub times : ℕ → List ℕ → ℕ
times n list = count_by (λ k. k == n) list
