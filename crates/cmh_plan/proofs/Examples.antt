-- Two tickets, drawn by two seats: what the rule allows, and what it doesn't.
use Rattle.std.proofs.Common.{◌≡◌, ℕ, zero, suc, ◌<◌, List, [], ◌∷◌, refl, sym, subst, arith}
use mathlib.Core.Option.{some, some-injective, some-ne-none}
use lib.ListN.{get_elem?}
use Rattle.atomic_table.specs.Table.{State}
use Rattle.cmh_plan.specs.declared.ticket_rule.TicketView.{TicketView}
use Rattle.cmh_plan.specs.Tickets.{IsTicketSeat, Dealt, ticket_opening_view, ticket_less_one, ticket_newcomer, with_drawn}
use Rattle.cmh_plan.proofs.DrawnNumbers.{drawn_once}

-- x drew 0, and y, which was split from it, drew 1
abbrev x_seat : TicketView
x_seat = with_drawn (ticket_less_one (ticket_opening_view 2)) 0

abbrev y_seat : TicketView
y_seat = with_drawn (ticket_newcomer (ticket_opening_view 2)) 1

-- the table after `word` draws
abbrev table : ℕ → List TicketView → State (Unit {0}) TicketView
table word views = record { words = word ∷ []; homes = []; views = views }

-- the rule of the tickets holds where x drew 0 and y drew 1
dealt : Dealt 2 (table 2 (x_seat ∷ y_seat ∷ []))
dealt = record {
  reached = 2;
  wide = refl;
  within = (omega arith, omega arith);
  before_end = λ le. refl;
  at_end = λ le. refl;
  small = omega arith;
  shares = omega arith;
  over = omega arith;
  each = each;
  numbers = λ weight. omega arith;
}
  where
    each : (i : ℕ) (v : TicketView) → get_elem? (x_seat ∷ y_seat ∷ []) i ≡ some v → IsTicketSeat 2 2 v
    each zero v at =
        subst (IsTicketSeat 2 2) (some-injective x_seat v at) record
        { bare = λ z. absurd (omega arith); knows = λ some. refl; past = λ done. omega arith }
    each (suc zero) v at =
        subst (IsTicketSeat 2 2) (some-injective y_seat v at) record
        { bare = λ z. absurd (omega arith); knows = λ some. refl; past = λ done. omega arith }
    each (suc (suc i)) v at = absurd (some-ne-none v (sym at))

-- the rule of the tickets doesn't hold where both seats drew 0
drawn_twice : Dealt 2 (table 2 (x_seat ∷ with_drawn (ticket_newcomer (ticket_opening_view 2)) 0 ∷ [])) → ⊥
drawn_twice h =
    no 2 (omega arith)
    ((drawn_once 2 (table 2 (x_seat ∷ with_drawn (ticket_newcomer (ticket_opening_view 2)) 0 ∷ [])) h 0).0 (omega arith)
    (omega arith))
  where
    no : (n : ℕ) → 1 < n → n ≡ 1 → ⊥
    no n more is = absurd (omega arith)
