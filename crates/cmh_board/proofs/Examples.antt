-- Worked rows of the definitions, by computation: the cycle of p and q with the follower r.
use Rattle.std.proofs.Common.{◌≡◌, true, false, List, [], ◌∷◌, map, refl, Some, None}
use Rattle.cmh_graph.specs.declared.verdict.Verdict.TheVariants.{Deadlocked, Free}
use Rattle.cmh_run.specs.declared.delivery.Ending.{Ending}
use Rattle.cmh_run.specs.declared.delivery.Ending.TheVariants.{Declared, AtRest, CutFree}
use Rattle.cmh_rw.specs.declared.row.Row.{Row}
use Rattle.cmh_rw.specs.History.{fold_at, row_code}
use Rattle.cmh_rw.specs.View.{row}
use Rattle.cmh_board.specs.Board.{unposted_in, rows_of, with_posting, row_times}
use Rattle.cmh_board.specs.Posting.{PostingValue, posting_of}
use Rattle.cmh_board.specs.Snap.{verdict_at}

-- the rows of p and q, posted together
abbrev p_and_q : List Row
p_and_q = row 0 Deadlocked false ∷ row 1 Deadlocked true ∷ []

posted_together : rows_of Deadlocked (0 ∷ 1 ∷ []) ≡ p_and_q
posted_together = refl

stored_as : map row_code p_and_q ≡ 0 ∷ 6 ∷ []
stored_as = refl

-- where p and q stand in rows, a posting of r, p and q adds the row of r alone
added_alone : rows_of Deadlocked (unposted_in p_and_q (2 ∷ 0 ∷ 1 ∷ [])) ≡ row 2 Deadlocked true ∷ []
added_alone = refl

added_stored_as : map row_code (row 2 Deadlocked true ∷ []) ≡ 10 ∷ []
added_stored_as = refl

-- where p and q stand in rows, a posting of both adds no rows
added_again : rows_of Deadlocked (unposted_in p_and_q (0 ∷ 1 ∷ [])) ≡ []
added_again = refl

own_postings : with_posting (p_and_q ∷ []) (row 2 Deadlocked true ∷ []) ≡ p_and_q ∷ (row 2 Deadlocked true ∷ []) ∷ []
own_postings = refl

no_new_posting : with_posting (p_and_q ∷ []) [] ≡ p_and_q ∷ []
no_new_posting = refl

-- the rows of p and q say that q is deadlocked
known_of_q : fold_at p_and_q 1 ≡ Some Deadlocked
known_of_q = refl

unknown_of_r : fold_at p_and_q 2 ≡ None
unknown_of_r = refl

stands_once : row_times 1 p_and_q ≡ 1
stands_once = refl

stands_nowhere : row_times 2 p_and_q ≡ 0
stands_nowhere = refl

-- the row of process 0 alone, which is free, is stored as 3
free_stored_as : map row_code (rows_of Free (0 ∷ [])) ≡ 3 ∷ []
free_stored_as = refl

-- ---- what runs post

-- what a run of p that engaged q posts, by how it ended
abbrev run_that : Ending → PostingValue
run_that ending = posting_of record { initiator = 0; log = []; ending = ending; engaged = 0 ∷ 1 ∷ []; restarted = 0 }

declared_tells : run_that Declared ≡ record { processes = 0 ∷ 1 ∷ []; verdict = Deadlocked }
declared_tells = refl

at_rest_tells : run_that AtRest ≡ record { processes = 0 ∷ []; verdict = Free }
at_rest_tells = refl

cut_free_tells : run_that (CutFree 1) ≡ record { processes = 0 ∷ []; verdict = Free }
cut_free_tells = refl

-- past its end a snapshot says nothing
snap_past_end : verdict_at (Some Deadlocked ∷ []) 1 ≡ None
snap_past_end = refl
