-- What workers give back, put together.
use Rattle.std.proofs.Common.{◌≡◌, ℕ, ◌+◌, ◌||◌, List, [], ◌++◌, length, map, slice_index_or, sym, ap, ◌∙◌, subst, Result, Ok, Err, IfOk}
use Rattle.std.specs.Prelude.{IsOkAnd}
use Rattle.std.specs.Global.{Vec}
use Rattle.std.proofs.lemmas.List.{map-append}
use Rattle.std.specs.declared.alloc.AllocError.{AllocError}
use Rattle.cmh_run.specs.Run.{Run}
use Rattle.cmh_plan.specs.declared.TheConstants.{MAX_WORKERS}
use Rattle.cmh_plan.specs.Plan.{PlanValue}
use Rattle.cmh_plan.specs.declared.tickets.TicketSeat.{TicketSeat}
use Rattle.cmh_plan.specs.Tickets.{sum_below, joined_views, with_drawn}
use Rattle.cmh_plan.specs.TicketSeats.{ticket_view, IsTicketSeatOf}
use Rattle.cmh_work.specs.declared.finding.Finding.{Finding}
use Rattle.cmh_graph.specs.Graph.{Graph}
use Rattle.cmh_work.specs.declared.job.Shared.{Shared}
use Rattle.cmh_work.specs.declared.job.Seats.{Seats}
use Rattle.cmh_rw.specs.History.{StartsWith}
use Rattle.cmh_rw.specs.View.{joined_view}
use Rattle.cmh_board.specs.Board.{board_view}
use Rattle.cmh_rw.specs.Machine.{total}
use Rattle.cmh_work.specs.Cutting.{chunks_of, concat_chunks}
use Rattle.cmh_work.specs.Finding.{finding_initiator}
use Rattle.cmh_work.specs.Working.{IsMadeFor, IsWorked}
use Rattle.cmh_work.proofs.AccountsLemmas.{accounts_joined}
use Rattle.cmh_work.proofs.CuttingLemmas.{concat_chunks-append, gathered_snoc, gathered_once}

-- what a worker gives back
abbrev Found : Type 0 → Type 0
Found L = Result (Vec (Finding Run L)) AllocError

-- where what two workers gave back is put together, what follows from both holds of the whole
pub collected : {L : Type 0} (r first second : Found L) (P Q : Vec (Finding Run L) → Type 0)
    (S : List (Finding Run L) → Type 0) → IfOk first P → IfOk second Q
    → IfOk r (λ v. IsOkAnd first (λ a. IsOkAnd second (λ b. v.items ≡ a.items ++ b.items)))
    → ((a b : Vec (Finding Run L)) → P a → Q b → S (a.items ++ b.items)) → IfOk r (λ v. S v.items)
collected (Err e) first second P Q S p q c f = tt
collected (Ok v) (Ok a) (Ok b) P Q S p q c f = subst S (sym c) (f a b p q)
collected (Ok v) (Ok a) (Err e) P Q S p q c f = absurd c
collected (Ok v) (Err e) second P Q S p q c f = absurd c

-- once the seats of two workers are joined, the findings of both are what the joined seats found
pub joined_worked : {L : Type 0} (listed : L → List ℕ) (g : Graph) (plan : PlanValue) (j : Shared) (s t u : Seats)
    (a b : List (Finding Run L)) → ticket_view u.tickets ≡ joined_views (ticket_view s.tickets) (ticket_view t.tickets)
    → board_view u.board ≡ joined_view (board_view s.board) (board_view t.board)
    → StartsWith (board_view u.board).seen (board_view s.board).seen
    → StartsWith (board_view u.board).seen (board_view t.board).seen
    → IsWorked listed g plan j s a → IsWorked listed g plan j t b → IsWorked listed g plan j u (a ++ b)
joined_worked listed g plan j s t u a b is jo first second w x = record {
  accounts =
      accounts_joined listed g plan.choices (board_view s.board) (board_view t.board)
      (board_view u.board) a b first second
      (ap (λ v. v.mine) jo) w.accounts x.accounts;
  order = map-append finding_initiator a b ∙ (λ k. w.order k ++ x.order k)
      ∙ sym (concat_chunks-append (chunks_of plan.cuts j.idle.items) (ticket_view s.tickets).drawn
      (ticket_view t.tickets).drawn)
      ∙ ap (λ v. concat_chunks (chunks_of plan.cuts j.idle.items) v.drawn) (sym is);
  done = ap (λ v. v.done) is ∙ ap (λ d. d || (ticket_view t.tickets).done) w.done;
}

-- with one chunk more drawn and its findings added, the findings are of the chunks drawn, in order
pub drawn_more : {L : Type 0} (plan : PlanValue) (j : Shared) (s u : TicketSeat) (n : ℕ) (a b : List (Finding Run L))
    → ticket_view u ≡ with_drawn (ticket_view s) n
    → map finding_initiator a ≡ concat_chunks (chunks_of plan.cuts j.idle.items) (ticket_view s).drawn
    → map finding_initiator b ≡ map finding_initiator a ++ slice_index_or (chunks_of plan.cuts j.idle.items) n []
    → map finding_initiator b ≡ concat_chunks (chunks_of plan.cuts j.idle.items) (ticket_view u).drawn
drawn_more plan j s u n a b is was more =
    more ∙ ap (λ l. l ++ slice_index_or (chunks_of plan.cuts j.idle.items) n []) was
    ∙ sym (gathered_snoc (chunks_of plan.cuts j.idle.items) (ticket_view s).drawn n)
    ∙ ap (λ v. concat_chunks (chunks_of plan.cuts j.idle.items) v.drawn) (sym is)

-- with the whole share, the findings weigh what the idle processes do
pub all_worked : {L : Type 0} (listed : L → List ℕ) (g : Graph) (plan : PlanValue) (j : Shared) (s : Seats)
    (found : List (Finding Run L)) → IsMadeFor g plan j → IsTicketSeatOf j.tickets s.tickets
    → (ticket_view s.tickets).share ≡ MAX_WORKERS
    → IsWorked listed g plan j s found
    → (weight : ℕ → ℕ) → total weight (map finding_initiator found) ≡ total weight j.idle.items
all_worked listed g plan j s found made own whole w weight =
    let all = s.tickets.knows w.done whole in
    let n : (ticket_view s.tickets).chunks ≡ length plan.cuts + 1 = own.1 ∙ made.tickets in
    ap (total weight) w.order
    ∙ gathered_once weight plan.cuts j.idle.items (ticket_view s.tickets).drawn (λ f. all f ∙ ap (sum_below f) n)
