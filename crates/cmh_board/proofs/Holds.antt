-- What stays so from one reading to the next, in one hold.
use Rattle.std.proofs.Common.{◌≡◌, ℕ, ◌+◌, ◌∙◌, ap, arith}
use Rattle.cmh_rw.specs.declared.view.View.{View}
use Rattle.cmh_board.specs.declared.board.Board.{Board}
use Rattle.cmh_board.specs.declared.board.BoardSeat.{BoardSeat}
use Rattle.cmh_board.specs.Board.{board_view, SitsAt, IsHolding, SeesMore, ReadsHistory}
use Rattle.cmh_board.specs.HintProofs.{sees_on}

-- one more load of the history
reads_on : (count more : ℕ) (u v w : View) → more ≡ count + 1 → ReadsHistory count u v → ReadsHistory 1 v w
    → ReadsHistory more u w
reads_on count more u v w e a b = record {
  lock = b.lock ∙ a.lock;
  loaded = b.loaded;
  same = λ l. b.same a.loaded ∙ a.same l;
  loads = (let p = a.loads in let q = b.loads in omega arith);
}

-- the seat still holds the board, and has loaded this number of words of the history
pub record Held (count : ℕ) (b : Board) (s t : BoardSeat) : Type 0 where
  pub sits : SitsAt b t
  pub holding : IsHolding t
  pub sees : SeesMore (board_view s) (board_view t)
  pub reads : ReadsHistory count (board_view s) (board_view t)

-- a seat that still holds the board, and has read, does so after one more reading
pub held_on : (count more : ℕ) (b : Board) (s t u : BoardSeat) → more ≡ count + 1 → Held count b s t → SitsAt b u
    → SeesMore (board_view t) (board_view u)
    → ReadsHistory 1 (board_view t) (board_view u)
    → Held more b s u
held_on count more b s t u e h sits sees reads = record {
  sits = sits;
  holding = (ap (λ l. l.state) reads.lock ∙ h.holding);
  sees = sees_on (board_view s) (board_view t) (board_view u) h.sees sees;
  reads = reads_on count more (board_view s) (board_view t) (board_view u) e h.reads reads;
}
