use Rattle.cmh_run.proofs.Common.{◌≡◌, ◌↔◌, ℕ, ◌%◌, ◌<◌, List, [], ◌∷◌, ◌++◌, length, remove, slice_get, Option, Some, None, refl, sym, ◌∙◌, arith, slice_get-get_or, Message, IfSome}
use Rattle.std.specs.Prelude.{IsNone, IsSome, IfNone, option_to_list}
use Rattle.cmh_run.proofs.PendingLemmas.{first_first}
use Rattle.cmh_run.proofs.bag.Bag.take.Goals as goal
use Rattle.cmh_run.proofs.bag.Bag.take.Goals.{then-choice-ne0, else-choice-ne0}

-- what is taken of a list in which the message at a place was brought before the others, and what is left
took : (old mid new : List Message) (x : ℕ) (r : Option Message) → (old ≡ [] → mid ≡ [])
    → ((m : Message) → slice_get old x ≡ Some m → mid ≡ m ∷ remove old x) → (0 < length old → x < length old)
    → mid ≡ option_to_list r ++ new → (0 < length mid → IsSome r)
    → (IsNone r ↔ (old ≡ [])) × IfSome r (λ m. slice_get old x ≡ Some m) × IfSome r (λ m. new ≡ remove old x)
    × IfNone r (new ≡ old)
took [] mid new x None none first within items some = ((λ q. refl, λ q. refl), tt, tt, sym items ∙ none refl)
took [] mid new x (Some m) none first within items some = absurd (let e = none refl in cc)
took (o ∷ os) mid new x None none first within items some =
    let brought = first _ (slice_get-get_or (o ∷ os) x o (within (omega arith))) in
    let z = some (rw brought (omega arith)) in absurd (cc)
took (o ∷ os) mid new x (Some m) none first within items some =
    let there = slice_get-get_or (o ∷ os) x o (within (omega arith)) in
    let brought = first _ there in
    ((λ q. absurd (cc), λ q. absurd (cc)), cc, cc, tt)

-- what is taken is what the choice names, whether it was brought to the front or stood there
pub returns : goal.returns
returns c =
    let old = c.args.self.now in
    let x = c.args.choice % length old in
    let front : (old ≡ [] → c.if-choice-ne0.self ≡ [])
    × ((m : Message) → slice_get old x ≡ Some m → c.if-choice-ne0.self ≡ m ∷ remove old x) =
    elim c.if-choice-ne0.branch [
      | then-choice-ne0 w ↦ (
        λ e. w.self-is ∙ w.bring_to_front.ensures.none e,
        λ m e. w.self-is ∙ w.bring_to_front.ensures.first m e,
      )
      | else-choice-ne0 w ↦ (
        λ e. w.self-is ∙ e,
        λ m e. w.self-is ∙ first_first old x m (λ n. omega (arith, w.if-choice-ne0.false)) e,
      )
    ] in
    let all = took old c.self.inside.messages.items c.pop_front.new.self.items x c.pop_front.result
    (λ e. c.self.view_is ∙ front.0 e) (λ m e. c.self.view_is ∙ front.1 m e) (λ n. omega arith)
    c.pop_front.ensures.items (λ n. c.pop_front.ensures.variant.1 (omega (arith, c.self.inside.messages.ok.0))) in
    record { none = all.0; taken = all.1; rest = all.2; unchanged = all.3 }
