use Rattle.std.proofs.Common.{◌≤◌, ℕ, [], arith, inr, length, subst}
use Rattle.std.specs.Prelude.{IfNone, IfSome}
use Rattle.cmh_graph.specs.declared.TheConstants.{MAX_DEPENDENCIES, MAX_PROCESSES}
use Rattle.cmh_graph.specs.declared.fault.GraphFault.TheVariants.{RepeatedDependent}
use Rattle.cmh_graph.specs.Build.{dependent_count, parts_graph, HasGraphFault}
use Rattle.cmh_graph.specs.Judge.{IsFirstDependent}
use Rattle.cmh_graph.proofs.BuildLemmas.{first_active, first_in_transit, first_repeat, first_transit, well_formed_then}
use Rattle.cmh_graph.proofs.PartLemmas.{as_many, few_dependents, transit_first, transit_within}
use Rattle.cmh_graph.proofs.judge.judge.Goals as goal

pub returns-in-Some-2-clause-fault : goal.returns-in-Some-2-clause-fault
returns-in-Some-2-clause-fault c =
    let parts = c.args.parts.now in
    let g = parts_graph parts c.args.in_transit.now in
    let few : length parts ≤ MAX_PROCESSES = c.if-parts-gt-MAX_PROCESSES.false in
    let found =
    subst (λ o. IfSome o (λ at. IsFirstDependent (λ i j. HasGraphFault (parts_graph parts []) (RepeatedDependent i j))
    at.0 at.1))
    c.in-Some-2.is c.in_ok-i.ensures.some in
    inr (first_repeat g _ _ (omega (arith, few, as_many parts))
    (few_dependents (dependent_count g) MAX_DEPENDENCIES c.if-has_too_many_dependents.ensures) c.in_default.ensures.none
    found)

pub returns-in-Some-first_active_with_dependents-clause-fault :
    goal.returns-in-Some-first_active_with_dependents-clause-fault
returns-in-Some-first_active_with_dependents-clause-fault c =
    let parts = c.args.parts.now in
    let g = parts_graph parts c.args.in_transit.now in
    let few : length parts ≤ MAX_PROCESSES = c.if-parts-gt-MAX_PROCESSES.false in
    let distinct =
    subst (λ o. IfNone o ((i j : ℕ) → HasGraphFault (parts_graph parts []) (RepeatedDependent i j) → ⊥))
    c.in_default-2.is
    c.in_ok-i.ensures.none in
    inr (first_active g _ (omega (arith, few, as_many parts))
    (few_dependents (dependent_count g) MAX_DEPENDENCIES c.if-has_too_many_dependents.ensures) c.in_default.ensures.none
    distinct c.in-Some-first_active_with_dependents.ensures.some)

pub returns-then-in_transit-gt-MAX_IN_TRANSIT-clause-fault :
    goal.returns-then-in_transit-gt-MAX_IN_TRANSIT-clause-fault
returns-then-in_transit-gt-MAX_IN_TRANSIT-clause-fault c =
    let parts = c.args.parts.now in
    let g = parts_graph parts c.args.in_transit.now in
    let few : length parts ≤ MAX_PROCESSES = c.if-parts-gt-MAX_PROCESSES.false in
    let distinct =
    subst (λ o. IfNone o ((i j : ℕ) → HasGraphFault (parts_graph parts []) (RepeatedDependent i j) → ⊥))
    c.in_default-2.is
    c.in_ok-i.ensures.none in
    inr (first_in_transit g (omega (arith, few, as_many parts))
    (few_dependents (dependent_count g) MAX_DEPENDENCIES c.if-has_too_many_dependents.ensures) c.in_default.ensures.none
    distinct c.in_default-first_active_with_dependents.ensures.none c.if-in_transit-gt-MAX_IN_TRANSIT.true)

pub returns-in-Some-first_transit_out_of_range-clause-fault :
    goal.returns-in-Some-first_transit_out_of_range-clause-fault
returns-in-Some-first_transit_out_of_range-clause-fault c =
    let parts = c.args.parts.now in
    let g = parts_graph parts c.args.in_transit.now in
    let few : length parts ≤ MAX_PROCESSES = c.if-parts-gt-MAX_PROCESSES.false in
    let distinct =
    subst (λ o. IfNone o ((i j : ℕ) → HasGraphFault (parts_graph parts []) (RepeatedDependent i j) → ⊥))
    c.in_default-2.is
    c.in_ok-i.ensures.none in
    inr (first_transit g _ (omega (arith, few, as_many parts))
    (few_dependents (dependent_count g) MAX_DEPENDENCIES c.if-has_too_many_dependents.ensures) c.in_default.ensures.none
    distinct c.in_default-first_active_with_dependents.ensures.none c.if-in_transit-gt-MAX_IN_TRANSIT.false
    (transit_first parts _ _ c.in-Some-first_transit_out_of_range.ensures.some))

pub returns-in-None-clause-ok : goal.returns-in-None-clause-ok
returns-in-None-clause-ok c =
    let parts = c.args.parts.now in
    let g = parts_graph parts c.args.in_transit.now in
    let few : length parts ≤ MAX_PROCESSES = c.if-parts-gt-MAX_PROCESSES.false in
    let distinct =
    subst (λ o. IfNone o ((i j : ℕ) → HasGraphFault (parts_graph parts []) (RepeatedDependent i j) → ⊥))
    c.in_default-2.is
    c.in_ok-i.ensures.none in
    well_formed_then g (omega (arith, few, as_many parts))
    (few_dependents (dependent_count g) MAX_DEPENDENCIES c.if-has_too_many_dependents.ensures) c.in_default.ensures.none
    distinct c.in_default-first_active_with_dependents.ensures.none c.if-in_transit-gt-MAX_IN_TRANSIT.false
    (transit_within parts _ c.in-None.ensures.none)
