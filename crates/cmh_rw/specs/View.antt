-- What a seat knows, and how the calls change it.
use Rattle.std.specs.Prelude.{◌≡◌, ℕ, ◌+◌, ◌-◌, ◌<◌, ◌≤◌, nat_lt, Bool, true, false, if◌then◌else◌, IsTrue, None, [], ◌∷◌, ◌++◌, map, length, slice_index}
use Rattle.cmh_graph.specs.declared.TheConstants.{MAX_PROCESSES}
use Rattle.cmh_graph.specs.declared.verdict.Verdict.{Verdict}
use Rattle.cmh_graph.specs.Graph.{Graph, is_idle}
use Rattle.cmh_graph.specs.Verdict.{verdict}
use Rattle.cmh_rw.specs.declared.TheConstants.{MAX_SEATS, ROW_COUNT, FIRST_ROW, FIRST_VERDICT}
use Rattle.cmh_rw.specs.declared.machine.SeatState.{SeatState}
use Rattle.cmh_rw.specs.declared.machine.SeatState.TheVariants.{Away, Reading, Spent}
use Rattle.cmh_rw.specs.declared.row.Row.{Row}
use Rattle.cmh_rw.specs.declared.view.LockView.{LockView}
use Rattle.cmh_rw.specs.declared.view.View.{View}
use Rattle.cmh_rw.specs.Machine.{writes, reads}
use Rattle.cmh_rw.specs.History.{row_code, verdict_code, fold_at, IsHistory, IsOpen, IsTrueOf, StartsWith}

-- the seat reads or writes
abbrev pub IsHeld : SeatState → Type 0
IsHeld state = writes state + reads state ≡ 1

-- what the first seat knows: it is away, has the whole share, and has seen and added nothing
abbrev pub opening_view : Graph → View
opening_view g = record {
  lock = record { graph = g; state = Away; share = MAX_SEATS; tries = 0; found = 0 };
  loaded = false;
  seen = [];
  other = [];
  staged = [];
  told = [];
  mine = [];
  loads = 0;
}

-- the view of a seat after a try to get the lock, which found this word and left the seat in this state
abbrev pub view_after_try : View → SeatState → ℕ → View
view_after_try v state found =
    record v { lock = record v.lock { state = state; tries = v.lock.tries + 1; found = found } }

-- the seat holds nothing any more, and forgets what it loaded and which verdicts it stored in the hold
abbrev pub view_after_end : View → View
view_after_end v = record v { lock = record v.lock { state = Away }; loaded = false; told = [] }

-- The view after a load. The seat sees the whole history: it begins with all that the seat had seen, and is the same as
-- at an earlier load of the hold.
pub record AfterLoad (v : View) (word found : ℕ) (w : View) : Type 0 where
  pub view : w ≡ record v { loaded = true; seen = w.seen; loads = v.loads + 1 }
  pub begins : StartsWith w.seen v.seen
  pub same : v.loaded ≡ true → w.seen ≡ v.seen
  pub whole : IsHistory w.seen
  pub true_of : IsTrueOf v.lock.graph w.seen
  pub few : length w.seen ≤ MAX_PROCESSES
  pub staged_true : IsTrueOf v.lock.graph (w.seen ++ v.staged)
  pub bare : v.lock.state ≡ Reading → (v.staged ≡ []) × (v.told ≡ [])
  pub count : word ≡ ROW_COUNT → found ≡ length w.seen
  pub row : (n : ℕ) → word ≡ FIRST_ROW + n → n < length w.seen →
      found ≡ slice_index (map row_code w.seen) n
  pub verdict : (p : ℕ) → word ≡ FIRST_VERDICT + p → p < MAX_PROCESSES →
      found ≡ verdict_code (fold_at (w.seen ++ v.told) p)

-- What a writer needs for its next row. No staged row has `last`, the process is idle and has no row yet, and the
-- verdict is that of the process.
pub record CanStage (v : View) (r : Row) : Type 0 where
  pub unended : IsOpen v.staged
  pub idle : IsTrue (is_idle v.lock.graph r.process)
  pub fresh : fold_at (v.seen ++ v.staged) r.process ≡ None
  pub true_verdict : r.verdict ≡ verdict v.lock.graph r.process

-- a row by its parts
abbrev pub row : ℕ → Verdict → Bool → Row
row p verdict last = record { process = p; verdict = verdict; last = last }

-- the view once one more row is staged
abbrev pub with_row : View → Row → View
with_row v r = record v { staged = v.staged ++ r ∷ [] }

-- a stored verdict, as a row
abbrev pub mark : ℕ → Verdict → Row
mark p verdict = row p verdict false

-- the view once one more verdict is stored
abbrev pub with_told : View → Row → View
with_told v r = record v { told = v.told ++ r ∷ [] }

-- the staged rows are the next posting of the history, and this seat's
abbrev pub view_after_posting : View → View
view_after_posting v = record v {
  seen = v.seen ++ v.staged;
  staged = [];
  told = [];
  mine = v.mine ++ v.staged ∷ [];
}

-- what a seat knows of the lock once it has given one share away
abbrev pub lock_less_one : LockView → LockView
lock_less_one l = record l { share = l.share - 1 }

-- the view of a seat that has given one share away
abbrev pub view_less_one : View → View
view_less_one v = record v { lock = lock_less_one v.lock }

-- what a new seat knows of the lock: it has got one share
abbrev pub newcomer_lock : LockView → LockView
newcomer_lock l = record { graph = l.graph; state = Away; share = 1; tries = 0; found = 0 }

-- the view of a new seat, which has seen what the given one has
abbrev pub newcomer_view : View → View
newcomer_view v = record (opening_view v.lock.graph) { lock = newcomer_lock v.lock; seen = v.seen }

-- what a seat knows of the lock once it has the shares of two
abbrev pub lock_of_both : LockView → LockView → LockView
lock_of_both l m = record l { share = l.share + m.share }

-- the shares and the postings of both, before the two compare what they have seen
abbrev pub view_before_compare : View → View → View
view_before_compare v w = record v {
  lock = lock_of_both v.lock w.lock;
  other = w.seen;
  mine = v.mine ++ w.mine;
}

-- of two prefixes of one history the longer is kept, and the first where they are equally long
abbrev pub view_after_compare : View → View
view_after_compare v = record v {
  seen = if nat_lt (length v.seen) (length v.other) then v.other else v.seen;
  other = [];
}

-- the view of two seats made one
abbrev pub joined_view : View → View → View
joined_view v w = view_after_compare (view_before_compare v w)

-- the view of a seat that was joined into another: it has no share, and knows nothing any more
abbrev pub spent_view : View
spent_view =
    let v = opening_view record { processes = []; in_transit = [] } in
    record v { lock = record v.lock { state = Spent; share = 0 } }
