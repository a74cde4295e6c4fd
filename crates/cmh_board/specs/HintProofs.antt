-- What hints keep is kept where nothing changes, and from one change to the next, and looks go on. These proofs stand
-- among the definitions, since code can cite no others of its own crate.
use Rattle.std.proofs.Common.{List, [], ◌∷◌, ◌++◌, refl, subst, sym, ap, ◌∙◌, append-nil, append_assoc}
use Rattle.cmh_run.specs.Asks.{Ask}
use Rattle.cmh_rw.specs.declared.view.View.{View}
use Rattle.cmh_board.specs.declared.hints.BoardHints.{BoardHints}
use Rattle.cmh_board.specs.Board.{board_view, SeesMore}
use Rattle.cmh_board.specs.Hints.{Keeps, Looks}

-- where nothing has changed, a seat has seen all that it had seen
sees_itself : (v : View) → SeesMore v v
sees_itself v = record {
  seen = ([], sym (append-nil v.seen));
  mine = refl;
  share = refl;
  graph = refl;
}

-- a seat that has seen more after one change, and more after the next, has seen more after both
pub sees_on : (u v w : View) → SeesMore u v → SeesMore v w → SeesMore u w
sees_on u v w a b = record {
  seen = (
    a.seen.0 ++ b.seen.0,
    b.seen.1 ∙ ap (λ l. l ++ b.seen.0) a.seen.1 ∙ append_assoc u.seen a.seen.0 b.seen.0,
  );
  mine = b.mine ∙ a.mine;
  share = b.share ∙ a.share;
  graph = b.graph ∙ a.graph;
}

-- where nothing changes, hints keep what they are
pub keeps_itself : (h : BoardHints) → Keeps h h
keeps_itself h = record {
  board = refl;
  seat = refl;
  sees = sees_itself (board_view h.seat.now);
  state = refl;
  speaks = λ g. (λ s. s, λ s. s);
}

-- hints that keep what they are in one change, and in the next, keep it in both
pub keeps_on : (a b c : BoardHints) → Keeps a b → Keeps b c → Keeps a c
keeps_on a b c x y = record {
  board = x.board ∙ y.board;
  seat = x.seat ∙ y.seat;
  sees = sees_on (board_view a.seat.now) (board_view b.seat.now) (board_view c.seat.now) x.sees y.sees;
  state = x.state ∙ y.state;
  speaks = λ g. (λ s. (y.speaks g).0 ((x.speaks g).0 s), λ s. (x.speaks g).1 ((y.speaks g).1 s));
}

-- looks one after another, and others after these, are looks one after another
pub looks_on : (u v w : View) (first second : List Ask) → Looks u v first → Looks v w second
    → Looks u w (first ++ second)
looks_on u v w [] second x y = subst (λ (t : View). Looks t w second) (sym x) y
looks_on u v w (ask ∷ first) second x y = (x.0, x.1, looks_on x.0 v w first second x.2 y)
