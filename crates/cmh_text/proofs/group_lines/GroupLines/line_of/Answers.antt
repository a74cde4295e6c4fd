use Rattle.std.proofs.Common.{◌∙◌, ◌++◌, ◌∷◌, [], ap, arith, eqb-true, length, refl, subst, sym}
use Rattle.std.specs.Prelude.{All, Contains, ◌<◌, codes, decimal, string_bytes}
use Rattle.std.proofs.lemmas.List.{nil_from_length}
use Rattle.cmh_graph.specs.Core.{leaders}
use Rattle.cmh_graph.specs.Graph.{dependents_of, name_of, process_count}
use Rattle.cmh_graph.proofs.Groups.{members_within}
use Rattle.cmh_graph.proofs.IndexLists.{length-by_index}
use Rattle.cmh_text.specs.Group.{leaders_up_to, AreGroupsOf}
use Rattle.cmh_text.specs.Report.{group_line, line, names_of, names_or_dash}
use Rattle.cmh_text.proofs.AloneLeaders.{alone_words}
use Rattle.cmh_text.proofs.Members.{rest_within}
use Rattle.cmh_text.proofs.LineLemmas.{group_words}
use Rattle.cmh_text.proofs.Numbers.{leader_within, number_at}
use Rattle.cmh_text.proofs.group_lines.GroupLines.line_of.Goals as goal

pub dependents-requires : goal.dependents-requires
dependents-requires c =
    leader_within c.self.inside.graph.now c.args.leader
    (subst (λ g. Contains (leaders g) c.args.leader) (sym c.self.view_is) c.requires)

pub name-requires : goal.name-requires
name-requires c =
    leader_within c.self.inside.graph.now c.args.leader
    (subst (λ g. Contains (leaders g) c.args.leader) (sym c.self.view_is) c.requires)

-- a leader has a number
pub index-number-requires : goal.index-number-requires
index-number-requires c =
    let groups = subst (λ g. AreGroupsOf g c.self.inside.groups.now) c.self.view_is c.self.invariant.groups in
    omega (
      arith,
      leader_within c.args.self.now c.args.leader c.requires,
      ap length groups.numbers,
      length-by_index c.args.self.now (leaders_up_to c.args.self.now),
      c.self.inside.groups.now.numbers.ok.0,
    )

pub returns-then-is_empty-clause-text : goal.returns-then-is_empty-clause-text
returns-then-is_empty-clause-text c =
    let g = c.args.self.now in
    let p = c.args.leader in
    let groups = subst (λ g. AreGroupsOf g c.self.inside.groups.now) c.self.view_is c.self.invariant.groups in
    let list = c.dependents.ensures ∙ ap (λ g. dependents_of g p) c.self.view_is in
    let none = nil_from_length _ (eqb-true (length c.dependents.result.now) 0
    (sym c.is_empty.ensures ∙ c.if-is_empty.true)) in
    let name = c.name.ensures ∙ ap (λ g. name_of g p) c.self.view_is in
    let number = c.index-number.ensures ∙ number_at g _ p _ groups.numbers c.requires in
    c.in_ok-push_alone.ensures
    ∙ ap (λ words. string_bytes c.new-text.result ++ line words)
    (alone_words g p _ _ groups.well_formed.within (leader_within g p c.requires) (sym list ∙ none) name
    number)
    ∙ ap (λ xs. xs ++ line (group_line g p)) c.new-text.ensures.bytes

pub push_group-requires : goal.push_group-requires
push_group-requires c =
    let shown = c.self.invariant.last_names ∙ c.self.view_is in
    let g = c.args.self.now in
    let group = c.in_ok-group.group in (
      subst (λ g. All (λ p. p < process_count g) group.core.items) (sym shown)
          (members_within g c.args.leader (process_count g) _ c.in_ok-group.ensures.core refl),
      subst (λ g. All (λ p. p < process_count g) group.rest.items) (sym shown)
          (rest_within g c.args.leader _ c.in_ok-group.ensures.rest),
    )

pub returns-clause-text : goal.returns-clause-text
returns-clause-text c =
    let g = c.args.self.now in
    let p = c.args.leader in
    let groups = subst (λ g. AreGroupsOf g c.self.inside.groups.now) c.self.view_is c.self.invariant.groups in
    let same = c.in_ok-group.ensures in
    let number = c.index-number.ensures ∙ number_at g _ p _ groups.numbers c.requires in
    let shown = c.self.invariant.last_names ∙ c.self.view_is in
    let group = c.in_ok-group.group in
    c.in_ok-push_group.ensures.text
    ∙ ap (λ h. string_bytes c.new-text.result
    ++ line (codes "group" ∷ decimal c.index-number.result.now
    ∷ codes "|" ∷ names_of h group.core.items
    ++ codes "|" ∷ names_or_dash h group.rest.items
    ++ codes "|" ∷ codes "sites" ∷ decimal group.site_count ∷ [])) shown
    ∙ ap (λ words. string_bytes c.new-text.result ++ line words)
    (group_words g p _ _ _ _ number same.core same.rest same.sites)
    ∙ ap (λ xs. xs ++ line (group_line g p)) c.new-text.ensures.bytes
