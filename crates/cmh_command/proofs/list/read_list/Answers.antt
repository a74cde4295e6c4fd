use Rattle.std.proofs.Common.{◌≡◌, ◌∙◌, Bor, List, [], ℕ, get_or, length, map, sym, ap, arith, below_more, inr, None, Some}
use Rattle.std.proofs.lemmas.List.{length-map}
use Rattle.cmh_command.specs.List.{items_of, number_of}
use Rattle.cmh_command.proofs.Lists.{item_is, no_number_is, number_is, out_of_memory, written_more}
use Rattle.cmh_command.proofs.list.read_list.Goals as goal

pub loop-i-preserved : goal.loop-i-preserved
loop-i-preserved c =
    let text = c.args.text.now in
    let i = c.loop-i.i in
    let list = c.deref-item-items.result.now in
    let cut : map (λ item. item.now) list ≡ items_of text =
    rw (c.deref-item-items.ensures.value) c.in_ok-items.ensures in
    let count : length list ≡ length (items_of text) =
    sym (length-map list (λ (item : Bor (List ℕ)). item.now)) ∙ ap length cut in
    let writes : number_of (get_or (items_of text) i []) ≡ Some c.in-Some.number =
    ap number_of (sym (item_is list text i _ cut c.loop-i-test.true)) ∙ sym c.in-Some.ensures in
    record {
      few = omega arith;
      written =
          rw (c.in_ok-push.ensures.items)
          (written_more (items_of text) c.loop-i.numbers.items i c.in-Some.number (omega arith)
          c.loop-i.invariant.written writes);
      before =
          below_more _ _ c.loop-i.invariant.before
          (number_is (get_or (items_of text) i []) c.in-Some.number writes);
    }

pub returns-in_default : goal.returns-in_default
returns-in_default c =
    let text = c.args.text.now in
    let i = c.loop-i.i in
    let list = c.deref-item-items.result.now in
    let cut : map (λ item. item.now) list ≡ items_of text =
    rw (c.deref-item-items.ensures.value) c.in_ok-items.ensures in
    let count : length list ≡ length (items_of text) =
    sym (length-map list (λ (item : Bor (List ℕ)). item.now)) ∙ ap length cut in
    let none : number_of (get_or (items_of text) i []) ≡ None =
    ap number_of (sym (item_is list text i _ cut c.loop-i-test.true)) ∙ sym c.in_default.ensures in
    record {
      ok = tt;
      few = tt;
      fault =
          inr (
            omega arith,
            omega arith,
            no_number_is (get_or (items_of text) i []) none,
            c.loop-i.invariant.before,
          );
    }

pub returns-in_err-push : goal.returns-in_err-push
returns-in_err-push c =
    let fault =
    out_of_memory c.args.text.now c.from_residual-in_err-push.result c.from_residual-in_err-push.ensures.1 in
    record { ok = fault.0; few = fault.1; fault = fault.2 }
