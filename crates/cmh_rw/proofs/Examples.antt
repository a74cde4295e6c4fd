-- Worked rows, histories and events, computed from the definitions. A dump is written short here: `p@a: q r` is idle p
-- on site a with dependents q and r, and `r@a!` is active.
use Rattle.std.proofs.Common.{◌≡◌, ℕ, true, false, Some, None, List, [], ◌∷◌, map, refl, arith}
use Rattle.std.specs.Prelude.{codes}
use Rattle.cmh_graph.specs.declared.part.State.TheVariants.{Idle}
use Rattle.cmh_graph.specs.declared.verdict.Verdict.TheVariants.{Deadlocked, Free}
use Rattle.cmh_graph.specs.Graph.{Graph, Process}
use Rattle.cmh_graph.specs.Path.{reaches}
use Rattle.cmh_graph.specs.Verdict.{is_deadlocked}
use Rattle.cmh_rw.specs.declared.machine.SeatState.TheVariants.{Retreating, Reading, Writing}
use Rattle.cmh_rw.specs.declared.machine.Event.{Event}
use Rattle.cmh_rw.specs.declared.machine.Event.TheVariants.{Admit, Leave, TryWrite, EndWrite}
use Rattle.cmh_rw.specs.declared.row.Row.{Row}
use Rattle.cmh_rw.specs.declared.TheConstants.{FIRST_ROW, FIRST_VERDICT, BOARD_WORDS}
use Rattle.cmh_rw.specs.Machine.{world, new_world, run_from, IsLawful}
use Rattle.cmh_rw.specs.History.{row_code, row_of, verdict_code, fold_at, rows_in, ArePostings, IsPosting, IsTrueOf}
use Rattle.cmh_rw.specs.View.{row, opening_view, view_after_compare, view_after_posting, with_row}

-- ---- words

-- where rows and verdicts begin, and how many words there are
places : FIRST_ROW ∷ FIRST_VERDICT ∷ BOARD_WORDS ∷ [] ≡ 2 ∷ 4098 ∷ 8194 ∷ []
places = refl

-- process 0 deadlocked, not last; 1 deadlocked, last; 2 deadlocked, last; 0 free, alone; 511 free, alone; 4095 free,
-- alone
row_codes : map row_code
    (row 0 Deadlocked false ∷ row 1 Deadlocked true ∷ row 2 Deadlocked true ∷ row 0 Free true ∷ row 511 Free true
    ∷ row 4095 Free true ∷ []) ≡ 0 ∷ 6 ∷ 10 ∷ 3 ∷ 2047 ∷ 16383 ∷ []
row_codes = refl

-- rows are read back from their words
rows_of_codes : map row_of (0 ∷ 6 ∷ 16383 ∷ [])
    ≡ row 0 Deadlocked false ∷ row 1 Deadlocked true ∷ row 4095 Free true ∷ []
rows_of_codes = refl

-- no verdict is stored as 0, deadlocked as 1, and free as 2
verdict_codes : map verdict_code (None ∷ Some Deadlocked ∷ Some Free ∷ []) ≡ 0 ∷ 1 ∷ 2 ∷ []
verdict_codes = refl

-- ---- a history of a cycle and one that waits for it: p@a: q; q@a: p; r@b: p

-- an idle process on the site with the dependents
abbrev idle : List ℕ → ℕ → List ℕ → Process
idle name site dependents =
    record { name = name; site = site; state = Idle; dependents = dependents }

-- the graph of p and q, which wait for each other, and r, which waits for p
abbrev cycle_and_follower : Graph
cycle_and_follower = record {
  processes = idle (codes "p") 0 (1 ∷ []) ∷ idle (codes "q") 0 (0 ∷ []) ∷ idle (codes "r") 1 (0 ∷ []) ∷ [];
  in_transit = [];
}

-- p and q are posted together, then r alone
abbrev postings : List (List Row)
postings = (row 0 Deadlocked false ∷ row 1 Deadlocked true ∷ []) ∷ (row 2 Deadlocked true ∷ []) ∷ []

-- the words of the rows of both postings
codes_of_postings : map row_code (rows_in postings) ≡ 0 ∷ 6 ∷ 10 ∷ []
codes_of_postings = refl

-- the rows of p and q are a posting, and the row of r is one
are_postings : ArePostings postings
are_postings = (
  (row 0 Deadlocked false ∷ [], row 1 Deadlocked true, refl, (refl, tt), refl),
  (([], row 2 Deadlocked true, refl, tt, refl), tt),
)

-- the rows of p, q and r are true for the graph
true_postings : IsTrueOf cycle_and_follower (rows_in postings)
unfolding reaches is_deadlocked
true_postings = (refl, refl, refl, (refl, refl, refl, (refl, refl, refl, tt)))

-- rows without a last one are no posting
no_posting : IsPosting (row 0 Deadlocked false ∷ []) → ⊥
no_posting ([], r, e, is_open, last) = cc
no_posting (x ∷ [], r, e, is_open, last) = cc
no_posting (x ∷ y ∷ zs, r, e, is_open, last) = cc

-- a row that calls r free isn't true
false_row : IsTrueOf cycle_and_follower (row 2 Free true ∷ []) → ⊥
unfolding reaches is_deadlocked
false_row h = let e = h.1 in cc

-- rows in which the row of r stands twice aren't true
repeated_row : IsTrueOf cycle_and_follower (row 2 Deadlocked true ∷ row 2 Deadlocked true ∷ []) → ⊥
unfolding reaches is_deadlocked
repeated_row h = let e = h.2 in cc

-- the rows of p, q and r say that q is deadlocked
says_of_q : fold_at (rows_in postings) 1 ≡ Some Deadlocked
says_of_q = refl

-- the rows say nothing of a process without a row
says_of_nobody : fold_at (rows_in postings) 3 ≡ None
says_of_nobody = refl

-- a writer that has staged the rows of p and q and counted them has seen both
posting_p_and_q :
    (view_after_posting
    (with_row (with_row (opening_view cycle_and_follower) (row 0 Deadlocked false)) (row 1 Deadlocked true))).seen
    ≡ row 0 Deadlocked false ∷ row 1 Deadlocked true ∷ []
posting_p_and_q = refl

-- of two prefixes the longer is kept
longer_of_two :
    (view_after_compare (record (opening_view cycle_and_follower) {
      seen = row 0 Deadlocked true ∷ [];
      other = row 0 Deadlocked true ∷ row 1 Free true ∷ [];
    })).seen
    ≡ row 0 Deadlocked true ∷ row 1 Free true ∷ []
longer_of_two = refl

-- ---- events on a lock with two seats: a writer waits for a reader, which comes again and retreats from the writer

-- seat 0 comes, seat 1 tries to write, seat 0 leaves, seat 1 tries again, and seat 0 comes again
abbrev lock_events : List Event
lock_events = Admit 0 ∷ TryWrite 1 ∷ Leave 0 ∷ TryWrite 1 ∷ Admit 0 ∷ []

-- after the events seat 0 retreats and seat 1 writes
after_lock_events : run_from (new_world 2) lock_events ≡ world 4294967297 (Retreating ∷ Writing ∷ [])
after_lock_events = refl

-- events on no seat, or on one in another state, change nothing
idle_events : run_from (new_world 1) (Admit 1 ∷ Leave 0 ∷ EndWrite 0 ∷ []) ≡ new_world 1
idle_events = refl

-- a reader beside a writer isn't lawful
not_lawful : IsLawful (world 4294967297 (Reading ∷ Writing ∷ [])) → ⊥
not_lawful h = let e = h.alone (omega arith) in cc
