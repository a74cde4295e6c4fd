use Rattle.std.proofs.Common.{true, false}
use Rattle.std.proofs.lemmas.Result.{err_from_is_err_and}
use Rattle.cmh_dump.specs.Texts.{texts}
use Rattle.cmh_dump.proofs.FirstFault.Entries.{unknown_first}
use Rattle.cmh_dump.proofs.FirstFault.Linked.{linked_within, repeat_judged, active_judged, total_judged}
use Rattle.cmh_dump.proofs.judge.link_entries.Goals as goal

pub first_repeated_dependent-requires : goal.first_repeated_dependent-requires
first_repeated_dependent-requires c =
    let read = c.requires.read in
    let found = c.in_ok-parts.ensures in
    linked_within read.0 c.args.entries.now read.1 (texts c.args.sites.now.keys) (texts c.args.names.now.keys) read.2
    read.3 found.sites found.known c.in_ok-parts.parts.items found.made c.deref.result.now c.deref.ensures.value

pub returns-in_err-parts-clause-judges : goal.returns-in_err-parts-clause-judges
returns-in_err-parts-clause-judges c =
    let p = err_from_is_err_and c.from_residual.result c.from_residual.ensures.1 in
    λ d seen are_sites are_names. rw (p.1, p.2)
    (λ m. unknown_first d c.args.entries.now seen (texts c.args.sites.now.keys) (texts c.args.names.now.keys) are_sites
    are_names _ (c.in_err-parts.ensures.unknown m))

pub returns-in-Some-clause-judges : goal.returns-in-Some-clause-judges
returns-in-Some-clause-judges c =
    let found = c.in_ok-parts.ensures in
    λ d seen are_sites are_names _. repeat_judged d c.args.entries.now seen (texts c.args.sites.now.keys)
    (texts c.args.names.now.keys) are_sites are_names found.sites found.known c.in_ok-parts.parts.items found.made
    c.deref.result.now c.deref.ensures.value _ (c.in-Some.i, c.in-Some.j) c.in-Some.is c.in_ok-i.ensures.some
    c.in_ok-i.ensures.none

pub returns-in-Some-first_active_with_dependents-clause-judges :
    goal.returns-in-Some-first_active_with_dependents-clause-judges
returns-in-Some-first_active_with_dependents-clause-judges c =
    let found = c.in_ok-parts.ensures in
    λ d seen are_sites are_names _. active_judged d c.args.entries.now seen (texts c.args.sites.now.keys)
    (texts c.args.names.now.keys) are_sites are_names found.sites found.known c.in_ok-parts.parts.items found.made
    c.deref.result.now c.deref.ensures.value _ c.in_default.is c.in_ok-i.ensures.some c.in_ok-i.ensures.none
    c.deref-2.result.now c.deref-2.ensures.value c.in-Some-first_active_with_dependents.i
    c.in-Some-first_active_with_dependents.ensures.some

pub returns-then-has_too_many_dependents-clause-judges : goal.returns-then-has_too_many_dependents-clause-judges
returns-then-has_too_many_dependents-clause-judges c =
    let found = c.in_ok-parts.ensures in
    λ d seen are_sites are_names _. total_judged d c.args.entries.now seen (texts c.args.sites.now.keys)
    (texts c.args.names.now.keys) are_sites are_names found.sites found.known c.in_ok-parts.parts.items found.made
    c.deref.result.now c.deref.ensures.value _ c.in_default.is c.in_ok-i.ensures.some c.in_ok-i.ensures.none
    c.deref-2.result.now c.deref-2.ensures.value c.in_default-first_active_with_dependents.ensures.none
    c.deref-3.result.now c.deref-3.ensures.value true c.if-has_too_many_dependents.ensures

pub returns-clause-judges : goal.returns-clause-judges
returns-clause-judges c =
    let found = c.in_ok-parts.ensures in
    λ d seen are_sites are_names. total_judged d c.args.entries.now seen (texts c.args.sites.now.keys)
    (texts c.args.names.now.keys) are_sites are_names found.sites found.known c.in_ok-parts.parts.items found.made
    c.deref.result.now c.deref.ensures.value _ c.in_default.is c.in_ok-i.ensures.some c.in_ok-i.ensures.none
    c.deref-2.result.now c.deref-2.ensures.value c.in_default-first_active_with_dependents.ensures.none
    c.deref-3.result.now c.deref-3.ensures.value false c.if-has_too_many_dependents.ensures
