use Rattle.std.proofs.Common.{◌≡◌, ◌∙◌, ◌++◌, ◌+◌, ◌<◌, ◌≤◌, ◌∷◌, [], ap, arith, length, length-append, map, sym}
use Rattle.std.specs.List.{range_with_len}
use Rattle.std.proofs.lemmas.List.FromFn.{map-range_with_len_more}
use Rattle.std.proofs.lemmas.List.{length-map}
use Rattle.cmh_graph.specs.Core.{group_leader}
use Rattle.cmh_graph.specs.Graph.{process_count}
use Rattle.cmh_graph.proofs.Groups.{leads_itself}
use Rattle.cmh_graph.proofs.IndexLists.{filter_indices_kept, filter_indices_passed, length-by_index}
use Rattle.cmh_text.specs.Group.{leaders_up_to}
use Rattle.cmh_text.specs.Summary.{leader_in, leaders_in}
use Rattle.cmh_text.proofs.Numbers.{leaders_below, leaders_few, led_test, up_to_is}
use Rattle.cmh_text.proofs.groups.numbers_and_leaders.Goals as goal
use Rattle.cmh_text.proofs.groups.numbers_and_leaders.Goals.{then-is_led_by+in_ok-push, else-is_led_by}

pub is_led_by-requires : goal.is_led_by-requires
is_led_by-requires c =
    omega (
      arith,
      sym (length-map c.args.summaries.now leader_in) ∙ ap length c.requires,
      length-by_index c.args.graph.now (group_leader c.args.graph.now),
      c.loop-p-test.true,
      c.len-p-end.ensures.count,
    )

-- there are no more leaders than processes
pub overflow_cast-len : goal.overflow_cast-len
overflow_cast-len c =
    let old = c.loop-p.leaders.items in
    let few : length c.if-is_led_by.leaders.items ≤ length old + 1 =
    elim c.if-is_led_by.branch [
      | then-is_led_by+in_ok-push w ↦
          omega (
            arith,
            ap length (ap (λ v. v.items) w.leaders-is ∙ w.in_ok-push.ensures.items),
            length-append old (c.loop-p.p ∷ []),
          )
      | else-is_led_by w ↦ omega (arith, ap length (ap (λ v. v.items) w.leaders-is))
    ] in
    omega (
      arith,
      few,
      ap length c.loop-p.invariant.leaders,
      leaders_few c.args.graph.now c.loop-p.p,
      c.loop-p-test.true,
      c.len-p-end.type_inv,
      c.len.ensures,
      c.if-is_led_by.leaders.ok.0,
    )

pub loop-p-preserved : goal.loop-p-preserved
loop-p-preserved c =
    let g = c.args.graph.now in
    let p = c.loop-p.p in
    let i : p < process_count g = omega (arith, c.loop-p-test.true, c.len-p-end.ensures.count) in
    let table = sym (led_test g (leaders_in c.args.summaries.now) p p c.requires i) ∙ sym c.is_led_by.ensures in
    let leaders : c.if-is_led_by.leaders.items ≡ leaders_below g (p + 1) =
    elim c.if-is_led_by.branch [
      | then-is_led_by+in_ok-push w ↦
          ap (λ v. v.items) w.leaders-is
          ∙ w.in_ok-push.ensures.items
          ∙ ap (λ xs. xs ++ p ∷ []) c.loop-p.invariant.leaders
          ∙ sym (filter_indices_kept (leads_itself g) p (table ∙ w.if-is_led_by.true))
      | else-is_led_by w ↦
          ap (λ v. v.items) w.leaders-is
          ∙ c.loop-p.invariant.leaders
          ∙ sym (filter_indices_passed (leads_itself g) p (table ∙ w.if-is_led_by.false))
    ] in
    let count : c.len.result ≡ leaders_up_to g p =
    c.len.ensures ∙ c.if-is_led_by.leaders.ok.0 ∙ ap length leaders ∙ sym (up_to_is g p i) in
    record {
      numbers =
          c.in_ok-push-2.ensures.items
          ∙ (λ i'. c.loop-p.invariant.numbers i' ++ count i' ∷ [])
          ∙ sym (map-range_with_len_more (leaders_up_to g) 0 p p (omega arith));
      leaders = leaders;
    }

pub returns : goal.returns
returns c =
    let g = c.args.graph.now in
    let end : c.loop-p.p ≡ process_count g =
    omega (arith, c.loop-p-test.false, c.len-p-end.ensures.count, c.loop-p.auto.p-end) in
    record {
      numbers = c.loop-p.invariant.numbers ∙ ap (λ n. map (leaders_up_to g) (range_with_len 0 n)) end;
      leaders = c.loop-p.invariant.leaders ∙ ap (leaders_below g) end;
    }
