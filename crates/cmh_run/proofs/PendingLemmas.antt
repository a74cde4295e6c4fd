-- What is taken of undelivered messages, and what a queue of what was sent keeps as one leaves it.
use Rattle.cmh_run.proofs.Common.{◌≡◌, ℕ, ◌<◌, ◌++◌, List, [], ◌∷◌, length, suc, ap, subst, sym, ◌∙◌, Bool, false, true≢false, arith, Message, refl, remove, slice_get, slice_get-get_or, Option, Some, None, none-some, IfSome, ◌↔◌}
use Rattle.std.proofs.lemmas.List.{append_assoc}
use Rattle.std.proofs.lemmas.List.Concat.{flat_map-cons}
use Rattle.std.specs.Prelude.{drop, flat_map, nat_eq, IfNone, IsNone}
use Rattle.cmh_run.specs.Pending.{EachSends, messages_sent, queries_of}
use Rattle.cmh_run.specs.declared.pending.Sent.{Sent}
use Rattle.cmh_run.specs.declared.send.Sender.{Sender}

-- without the first each of the others still does
pub each_but_first : (old new : List Sent) → new ≡ drop 1 old → EachSends old → EachSends new
each_but_first [] new e each = subst (λ (xs : List Sent). EachSends xs) (sym e) each
each_but_first (s ∷ old) new e each =
    subst (λ (xs : List Sent). EachSends xs) (sym e) (λ k d below. each (suc k) d (omega (arith, below)))

-- where there are receivers there is a query
pub some_queries : (sender : Sender) (receivers : List ℕ) (none : Bool) → none ≡ nat_eq (length receivers) 0
    → none ≡ false → 0 < length (queries_of sender receivers)
some_queries sender [] none is e = absurd (true≢false (sym is ∙ e))
some_queries sender (r ∷ rest) none is e = omega arith

-- the messages are the same once those that were sent first are moved to the end of the bag
pub moved : (bag next start : List Message) (s : Sent) (old new : List Sent) → next ≡ bag ++ messages_sent s
    → old ≡ s ∷ new → bag ++ flat_map messages_sent old ≡ start → next ++ flat_map messages_sent new ≡ start
moved bag next start s old new is first same =
    rw is (append_assoc bag (messages_sent s) (flat_map messages_sent new)
    ∙ ap (λ (ms : List Message). bag ++ ms) (sym (flat_map-cons messages_sent s new))
    ∙ ap (λ (xs : List Sent). bag ++ flat_map messages_sent xs) (sym first) ∙ same)

-- without a choice the first message stands before the others
pub first_first : (xs : List Message) (x : ℕ) (m : Message) → (0 < length xs → x ≡ 0) → slice_get xs x ≡ Some m
    → xs ≡ m ∷ remove xs x
first_first [] x m at_zero there = absurd (none-some _ there)
first_first (o ∷ os) x m at_zero there =
    let at = at_zero (omega arith) in
    let same : Some o ≡ Some m = rw at at there in rw at (cc)

-- what is taken of a list as the first message, once the one at a place was brought before the others, and what is left
pub taken_first : (old mid new : List Message) (x : ℕ) (r : Option Message) → (old ≡ [] → mid ≡ [])
    → ((m : Message) → slice_get old x ≡ Some m → mid ≡ m ∷ remove old x) → (0 < length old → x < length old)
    → (IsNone r ↔ (mid ≡ [])) → IfSome r (λ m. mid ≡ m ∷ new) → IfNone r (new ≡ mid)
    → (IsNone r ↔ (old ≡ [])) × IfSome r (λ m. slice_get old x ≡ Some m) × IfSome r (λ m. new ≡ remove old x)
    × IfNone r (new ≡ old)
taken_first [] mid new x None empty first within none some same =
    ((λ q. refl, λ q. refl), tt, tt, same ∙ empty refl)
taken_first [] mid new x (Some m) empty first within none some same = absurd (let e = empty refl in cc)
taken_first (o ∷ os) mid new x None empty first within none some same =
    let brought = first _ (slice_get-get_or (o ∷ os) x o (within (omega arith))) in
    let e = none.0 refl in absurd (cc)
taken_first (o ∷ os) mid new x (Some m) empty first within none some same =
    let there = slice_get-get_or (o ∷ os) x o (within (omega arith)) in
    let brought = first _ there in
    ((λ q. absurd (cc), λ q. absurd (cc)), cc, cc, tt)
