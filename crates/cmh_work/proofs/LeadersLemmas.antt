-- Leaders that a worker has found.
use Rattle.std.proofs.Common.{◌≡◌, ◌∙◌, ◌+◌, ◌<◌, ℕ, inl, inr, List, [], length, take, get_or, set, refl, sym, ap, subst, arith}
use Rattle.std.specs.Prelude.{Contains, Option, Some, None, unwrap_or}
use Rattle.std.proofs.lemmas.Bool.{cases_eq}
use Rattle.std.proofs.lemmas.List.{get_or-set_same, get_or-set_other, get_or_default, length-set}
use Rattle.cmh_graph.specs.Graph.{Graph, process_count, IsWithinGraph}
use Rattle.cmh_graph.specs.Core.{core_of, leader_of}
use Rattle.cmh_graph.proofs.Groups.{in_own_core, same_leader}
use Rattle.cmh_graph.proofs.PositionLemmas.{taken_last, taken_more, taken_stays}
use Rattle.cmh_work.specs.Leaders.{leader_at, KnowsLeaders, LeadsEach}

-- ---- a leader for each member

-- to lead no member changes nothing
pub leads_none : (leader : ℕ) (list : List (Option ℕ)) → LeadsEach leader [] list list
leads_none leader list = record {
  size = refl;
  led = λ p c. absurd (omega (arith, c.1));
  only = λ p l e. inl e;
}

-- where the members before one are led, and then that one, the members up to it are led
pub leads_more : (leader i : ℕ) (members : List ℕ) (old list : List (Option ℕ)) → i < length members
    → get_or members i 0 < length list → LeadsEach leader (take i members) old list
    → LeadsEach leader (take (i + 1) members) old (set list (get_or members i 0) (Some leader))
leads_more leader i members old list l k h = record {
  size = length-set list (get_or members i 0) (Some leader) ∙ h.size;
  led = λ p c. elim (cases_eq p (get_or members i 0)) [
    | inl same ↦ ap (leader_at (set list (get_or members i 0) (Some leader))) same
        ∙ get_or-set_same list (get_or members i 0) (Some leader) None k
    | inr other ↦
        get_or-set_other list (get_or members i 0) p (Some leader) None other
        ∙ elim (taken_more members i p l c) [
          | inl d ↦ h.led p d
          | inr e ↦ absurd (other e)
        ]
  ];
  only = λ p m e. elim (cases_eq p (get_or members i 0)) [
    | inl same ↦
        let there = sym e ∙ ap (leader_at (set list (get_or members i 0) (Some leader))) same
        ∙ get_or-set_same list (get_or members i 0) (Some leader) None k in
        inr (ap (λ o. unwrap_or o 0) there, taken_last members i p l same)
    | inr other ↦
        elim (h.only p m (sym (get_or-set_other list (get_or members i 0) p (Some leader) None other) ∙ e)) [
          | inl before ↦ inl before
          | inr both ↦ inr (both.0, taken_stays members i p l both.1)
        ]
  ];
}

-- ---- what a table knows

-- once the core of p is led by its leader, the table knows only what is so
pub knows_more : (g : Graph) (p leader : ℕ) (core : List ℕ) (old new : List (Option ℕ)) → IsWithinGraph g
    → p < process_count g → core ≡ core_of g p → leader ≡ leader_of g p → LeadsEach leader core old new
    → KnowsLeaders g old → KnowsLeaders g new
knows_more g p leader core old new w i is least each h = record {
  size = each.size ∙ h.size;
  leads = λ q l e. elim (each.only q l e) [
    | inl before ↦ h.leads q l before
    | inr both ↦ both.0 ∙ least ∙ same_leader g p q w i (subst (λ xs. Contains xs q) is both.1)
  ];
}

-- the least of a core is the leader
pub leader_first : (g : Graph) (p d : ℕ) (core : List ℕ) → core ≡ core_of g p → 0 < length core
    → get_or core 0 d ≡ leader_of g p
leader_first g p d core is some = get_or_default core 0 d 0 some ∙ ap (λ xs. get_or xs 0 0) is

-- a core isn't empty
pub core_some : (g : Graph) (p : ℕ) (core : List ℕ) → IsWithinGraph g → p < process_count g → core ≡ core_of g p
    → 0 < length core
core_some g p core w i is =
    let own = subst (λ xs. Contains xs p) (sym is) (in_own_core g p w i) in
    omega (arith, own.1)
