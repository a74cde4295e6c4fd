use Rattle.cmh_run.proofs.Common.{◌≡◌, ◌%◌, [], ◌∷◌, length, remove, slice_get, Some, ◌∙◌, arith, Message}
use Rattle.cmh_run.proofs.PendingLemmas.{first_first, taken_first}
use Rattle.cmh_run.proofs.pending.Pending.take.Goals as goal
use Rattle.cmh_run.proofs.pending.Pending.take.Goals.{then-choice-ne0+in_ok-bring_to_front, else-choice-ne0}

-- what is taken is what the choice names, whether it was brought to the front or stood there
pub returns : goal.returns
returns c =
    let old = c.args.self.now in
    let x = c.args.choice % length old in
    let front : (old ≡ [] → c.if-choice-ne0.self ≡ [])
    × ((m : Message) → slice_get old x ≡ Some m → c.if-choice-ne0.self ≡ m ∷ remove old x) =
    elim c.if-choice-ne0.branch [
      | then-choice-ne0+in_ok-bring_to_front w ↦ (
        λ e. w.self-is ∙ w.in_ok-bring_to_front.ensures.none e,
        λ m e. w.self-is ∙ w.in_ok-bring_to_front.ensures.first m e,
      )
      | else-choice-ne0 w ↦ (
        λ e. w.self-is ∙ e,
        λ m e. w.self-is ∙ first_first old x m (λ n. omega (arith, w.if-choice-ne0.false)) e,
      )
    ] in
    let all = taken_first old c.if-choice-ne0.self c.take_first.new.self x c.take_first.result front.0 front.1
    (λ n. omega arith) c.take_first.ensures.none c.take_first.ensures.taken c.take_first.ensures.unchanged in
    record { none = all.0; taken = all.1; rest = all.2; unchanged = all.3 }
