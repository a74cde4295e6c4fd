-- What the weights of drawn numbers mean: how often each number stands among them.
use Rattle.atomic_table.specs.Table.{State}
use Rattle.std.specs.Prelude.{◌⊎◌}
use Rattle.std.proofs.Common.{◌≡◌, ℕ, zero, suc, ◌<◌, ◌≤◌, ⊎_elim, true, false, eqb, leb, slice_index, cond, List, [], ◌∷◌, refl, sym, ap, ◌∙◌, arith}
use Rattle.std.proofs.lemmas.Bool.{ne_eqb}
use Rattle.std.proofs.lemmas.Bool.Decides.{eqb_tells, leb_tells}
use Rattle.std.specs.List.{sum_by}
use Rattle.std.proofs.lemmas.List.Sums.{sum_by-cons}
use Rattle.cmh_run.proofs.Tally.{one_if}
use Rattle.cmh_rw.specs.Machine.{total}
use Rattle.cmh_plan.specs.declared.ticket_rule.TicketView.{TicketView}
use Rattle.cmh_plan.specs.Tickets.{sum_below, times, DrewAll, Dealt}

-- the weight of that number is 1, and that of each other 0
abbrev hit : ℕ → ℕ → ℕ
hit n k = cond (eqb k n) 1 0

-- a number isn't among those below a bound that it reaches
none_below : (n b : ℕ) → b ≤ n → sum_below (hit n) b ≡ 0
none_below n zero le = refl
none_below n (suc b) le = let r = none_below n b (omega arith) in let m =
    ap one_if (ne_eqb b n (λ e. omega arith)) in omega arith

-- a number is once among those below a bound that is above it
once_below : (n b : ℕ) → n < b → sum_below (hit n) b ≡ 1
once_below n zero low = absurd (omega arith)
once_below n (suc b) low = ⊎_elim
    (λ (t : (eqb b n ≡ true) × (b ≡ n)). let e = t.1 in let r = none_below n b (omega arith) in
    let m = ap one_if t.0 in omega arith)
    (λ (t : (eqb b n ≡ false) × (b ≡ n → ⊥)). let ne = t.1 in let r = once_below n b (omega arith) in
    let m = ap one_if t.0 in omega arith)
    (eqb_tells b n)

-- two weights that agree give one total
total-same : {A : Type 0} (f g : A → ℕ) → ((a : A) → f a ≡ g a) → (l : List A) → total f l ≡ total g l
total-same f g same [] = refl
total-same f g same (x ∷ xs) = omega (arith, same x, total-same f g same xs)

-- a total is a sum
pub total-sum_by : {A : Type 0} (f : A → ℕ) (l : List A) → total f l ≡ sum_by f l
total-sum_by f [] = refl
total-sum_by f (x ∷ xs) = omega (arith, total-sum_by f xs, sum_by-cons f x xs)

-- how often a number stands in a list is its weight there
times-total : (n : ℕ) (l : List ℕ) → times n l ≡ total (hit n) l
times-total n l = sym (total-sum_by (hit n) l)

-- a seat that drew all drew each number once
pub drew_each_once : (v : TicketView) → DrewAll v → (n : ℕ)
    → (n < v.chunks → times n v.drawn ≡ 1) × (v.chunks ≤ n → times n v.drawn ≡ 0)
drew_each_once v all n = (
  λ low. times-total n v.drawn ∙ all (hit n) ∙ once_below n v.chunks low,
  λ high. times-total n v.drawn ∙ all (hit n)
      ∙ none_below n v.chunks high,
)

-- a number below both bounds is below the one that is reached
is_reached : (n reached chunks word : ℕ) → (word ≤ chunks → reached ≡ word) → (chunks ≤ word → reached ≡ chunks)
    → n < chunks → n < word → n < reached
is_reached n reached chunks word before after low found = ⊎_elim
    (λ (t : (leb word chunks ≡ true) × (word ≤ chunks)). let e = before t.1 in omega arith)
    (λ (t : (leb word chunks ≡ false) × (chunks < word)). let past = t.1 in let e = after (omega arith) in omega arith)
    (leb_tells word chunks)

-- among all seats each number that is drawn stands once
pub drawn_once : (chunks : ℕ) (s : State (Unit {0}) TicketView) → Dealt chunks s → (n : ℕ)
    → (n < chunks → n < slice_index s.words 0 → total (λ v. times n v.drawn) s.views ≡ 1)
    × (chunks ≤ n ⊎ slice_index s.words 0 ≤ n → total (λ v. times n v.drawn) s.views ≡ 0)
drawn_once chunks s d n =
    let all =
    total-same (λ (v : TicketView). times n v.drawn) (λ v. total (hit n) v.drawn)
    (λ v. times-total n v.drawn) s.views ∙ d.numbers (hit n) in
    let before = d.before_end in let after = d.at_end in let within = d.within in (
      λ low found. all
          ∙ once_below n d.reached (is_reached n d.reached chunks (slice_index s.words 0) before after low found),
      λ out. all ∙ none_below n d.reached (⊎_elim (λ a. omega arith) (λ b. omega arith) out),
    )
