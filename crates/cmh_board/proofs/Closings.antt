-- What closed words show, and which seat added the postings.
use Rattle.std.proofs.Common.{◌≡◌, ℕ, ◌≤◌, List, sym, refl, arith}
use Rattle.cmh_graph.specs.declared.TheConstants.{MAX_PROCESSES}
use Rattle.cmh_graph.specs.Graph.{Graph, process_count}
use Rattle.cmh_rw.specs.declared.TheConstants.{MAX_SEATS}
use Rattle.cmh_rw.specs.declared.view.View.{View}
use Rattle.cmh_rw.specs.History.{rows_in}
use Rattle.cmh_rw.specs.Seats.{ClosedHistory}
use Rattle.cmh_board.specs.Board.{IsMadeOf}
use Rattle.cmh_board.specs.Closing.{ShowsRows}
use Rattle.cmh_board.proofs.RowWords.{codes_small}
use Rattle.cmh_board.proofs.Weights.{same_members}

-- closed words show the rows of the history
pub shows_history : (key : Graph) (v : View) (words : List ℕ) (h : ClosedHistory key v words)
    → process_count key ≤ MAX_PROCESSES → ShowsRows words (rows_in h.postings)
shows_history key v words h few = record {
  count = h.count;
  few = (let l = h.few in omega arith);
  row = h.row;
  small = λ n l. codes_small key (rows_in h.postings) n few h.true_of l;
}

-- where a seat with the whole share closed the words, the postings of the history are its own
pub made_of : (key : Graph) (v : View) (words : List ℕ) (h : ClosedHistory key v words)
    → v.lock.share ≡ MAX_SEATS → IsMadeOf v.mine (rows_in h.postings)
made_of key v words h whole =
    let own = (h.with_each_share whole).mine in record {
      postings = h.postings;
      is_laid = refl;
      whole = h.whole;
      weights = own;
      same = λ x. (
        same_members h.postings v.mine (λ f. sym (own f)) x,
        same_members v.mine h.postings own x,
      );
    }
