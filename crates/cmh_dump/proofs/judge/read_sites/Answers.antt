use Rattle.std.proofs.Common.{◌≤◌, ◌<◌, not, length, ap, sym, ◌∙◌, arith}
use Rattle.std.specs.Prelude.{position}
use Rattle.serde_json.specs.View.{view}
use Rattle.cmh_dump.specs.declared.TheConstants.{MAX_SITES}
use Rattle.cmh_dump.specs.Index.{first_repeat}
use Rattle.cmh_dump.specs.Name.{is_name}
use Rattle.cmh_dump.specs.Texts.{texts}
use Rattle.cmh_dump.proofs.IndexLemmas.{length-texts}
use Rattle.cmh_dump.proofs.FirstFault.Sites.{site_bad, site_repeated, sites_many, sites_judged}
use Rattle.cmh_dump.proofs.judge.read_sites.Goals as goal

pub returns-in-Some-clause-judges : goal.returns-in-Some-clause-judges
returns-in-Some-clause-judges c =
    let found =
    sym (ap (position (λ t. not (is_name t.now))) c.deref.ensures.value) ∙ sym c.first_bad_name.ensures
    ∙ c.in-Some.is in
    λ _. site_bad (view c.args.tree.now) c.in_ok-sites.sites.items c.in_ok-sites.ensures c.in-Some.i found

pub returns-in-Err-Repeated-clause-judges : goal.returns-in-Err-Repeated-clause-judges
returns-in-Err-Repeated-clause-judges c =
    let none =
    sym (ap (position (λ t. not (is_name t.now))) c.deref.ensures.value) ∙ sym c.first_bad_name.ensures
    ∙ c.in_default.is in
    let repeat = c.in-Err-Repeated.ensures.repeated c.in-Err-Repeated.i c.in-Err-Repeated.field-0-is in
    let same = ap texts c.deref-2.ensures.value in
    λ _. site_repeated (view c.args.tree.now) c.in_ok-sites.sites.items c.in_ok-sites.ensures c.in-Err-Repeated.i none
    (ap first_repeat (sym same) ∙ repeat)

pub returns-then-len-gt-MAX_SITES-clause-judges : goal.returns-then-len-gt-MAX_SITES-clause-judges
returns-then-len-gt-MAX_SITES-clause-judges c =
    let none =
    sym (ap (position (λ t. not (is_name t.now))) c.deref.ensures.value) ∙ sym c.first_bad_name.ensures
    ∙ c.in_default.is in
    let many : MAX_SITES < length c.in_ok-sites.sites.items = omega arith in
    λ _. sites_many (view c.args.tree.now) c.in_ok-sites.sites.items c.in_ok-sites.ensures none
    (ap first_repeat (ap texts (sym c.deref-2.ensures.value)) ∙ c.in-Ok.ensures.distinct) many

pub returns-clause-judges : goal.returns-clause-judges
returns-clause-judges c =
    let none =
    sym (ap (position (λ t. not (is_name t.now))) c.deref.ensures.value) ∙ sym c.first_bad_name.ensures
    ∙ c.in_default.is in
    let few : length c.in_ok-sites.sites.items ≤ MAX_SITES = omega arith in
    sites_judged (view c.args.tree.now) c.in_ok-sites.sites.items c.in_ok-sites.ensures none
    (ap first_repeat (ap texts (sym c.deref-2.ensures.value)) ∙ c.in-Ok.ensures.distinct) few

pub returns-clause-few : goal.returns-clause-few
returns-clause-few c =
    let size =
    ap length (c.in-Ok.ensures.names ∙ ap texts c.deref-2.ensures.value) ∙ length-texts c.in_ok-sites.sites.items in
    omega (arith, size)
