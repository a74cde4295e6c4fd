use Rattle.std.proofs.Common.{nat_le, sym, ◌∙◌}
use Rattle.std.specs.Prelude.{option_map, position}
use Rattle.std.specs.Option.{option_or}
use Rattle.cmh_dump.specs.declared.fault.DumpFault.TheVariants.{UnknownSite, UnknownDependent}
use Rattle.cmh_dump.specs.Places.{unknown_dependent}
use Rattle.cmh_dump.specs.Texts.{texts}
use Rattle.cmh_dump.proofs.FirstFault.Entries.{site_or_dependent}
use Rattle.cmh_dump.proofs.IndexLemmas.{length-texts}
use Rattle.cmh_dump.proofs.Places.{past_sites}
use Rattle.cmh_dump.proofs.judge.known_parts.Goals as goal

pub returns-in-Err-clause-unknown : goal.returns-in-Err-clause-unknown
returns-in-Err-clause-unknown c =
    rw c.first_site_fault.ensures (site_or_dependent _ _ c.in-Err.fault c.in-Err.ensures.unknown)

pub returns-in-Some-clause-unknown : goal.returns-in-Some-clause-unknown
returns-in-Some-clause-unknown c =
    let count = c.len.ensures.len ∙ sym (length-texts c.args.sites.now.keys) in
    let alike =
    past_sites (texts c.args.sites.now.keys) (texts c.args.names.now.keys) c.args.entries.now c.in-Ok.parts.items
    c.in-Ok.ensures.made in
    let found = sym alike
    ∙ (λ i. position (λ part. nat_le (sym count i) part.site) (sym c.deref.ensures.value i))
    ∙ sym c.first_past_sites.ensures ∙ c.in-Some.is in
    λ _ i. option_or (option_map UnknownSite (found i))
    (option_map (λ p. UnknownDependent p.0 p.1)
    (unknown_dependent (texts c.args.names.now.keys) c.args.entries.now))

pub returns-in-None-clause-sites : goal.returns-in-None-clause-sites
returns-in-None-clause-sites c =
    let count = c.len.ensures.len ∙ sym (length-texts c.args.sites.now.keys) in
    let alike =
    past_sites (texts c.args.sites.now.keys) (texts c.args.names.now.keys) c.args.entries.now c.in-Ok.parts.items
    c.in-Ok.ensures.made in
    sym alike
    ∙ (λ i. position (λ part. nat_le (sym count i) part.site) (sym c.deref.ensures.value i))
    ∙ sym c.first_past_sites.ensures ∙ c.in-None.is
