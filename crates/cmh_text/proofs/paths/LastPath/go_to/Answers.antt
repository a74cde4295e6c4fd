use Rattle.std.proofs.Common.{◌≡◌, ◌∙◌, ◌<◌, ℕ, ap, eqb-true, subst, sym, true}
use Rattle.std.specs.Prelude.{slice_get, All, None, Option, Some, nat_eq}
use Rattle.std.specs.Option.{option_eq}
use Rattle.cmh_graph.specs.ChosenPath.{chosen_path}
use Rattle.cmh_graph.specs.Graph.{process_count}
use Rattle.cmh_graph.proofs.Verdicts.{idle_within}
use Rattle.cmh_text.specs.Processes.{Processes}
use Rattle.cmh_text.specs.Summary.{summary_of}
use Rattle.cmh_text.specs.declared.summary.Summary.TheVariants.{Free}
use Rattle.cmh_text.proofs.ChosenPaths.{path_within}
use Rattle.cmh_text.proofs.Summaries.{free_then, path_before, path_by_first}
use Rattle.cmh_text.proofs.paths.LastPath.go_to.Goals as goal

-- a first entry that equals q is q
is_first : (o : Option ℕ) (q : ℕ) → option_eq nat_eq o (Some q) ≡ true → o ≡ Some q
is_first None q e = absurd cc
is_first (Some x) q e = ap Some (eqb-true x q e)

pub put_before-requires : goal.put_before-requires
put_before-requires c =
    let g = c.self.inside.graph.now in
    let free = ap (λ (w : Processes). summary_of w.graph c.args.p) c.self.view_is ∙ c.requires in
    subst (λ h. c.args.p < process_count h) (sym c.self.invariant.names)
    (idle_within g c.args.p (free_then g c.args.p c.args.next c.args.count free).idle)

-- the names are those of the path of the next process, with the process before them
pub invariant_of-self-then-begins_with : goal.invariant_of-self-then-begins_with
invariant_of-self-then-begins_with c =
    let g = c.self.inside.graph.now in
    let free = ap (λ (w : Processes). summary_of w.graph c.args.p) c.self.view_is ∙ c.requires in
    let within = idle_within g c.args.p (free_then g c.args.p c.args.next c.args.count free).idle in
    let first = is_first (slice_get c.self.inside.names.list 0) c.in-Some.q
    (sym c.begins_with.ensures ∙ c.if-begins_with.true) in
    let path = path_before g c.args.p c.in-Some.q c.args.count c.self.inside.names.list
    c.law_built_graph.ensures.within (free ∙ ap (λ o. Free o c.args.count) c.in-Some.is)
    (c.self.invariant.path c.in-Some.q first) ∙ ap Some (sym c.in_ok-put_before.ensures.list) in
    record {
      names = c.in_ok-put_before.ensures.graph ∙ c.self.invariant.names;
      summaries = c.self.invariant.summaries;
      path = λ q at.
          path_by_first g c.args.p q c.put_before.new.self.list c.law_built_graph.ensures.within within path at;
    }

pub returns-then-begins_with-clause-path : goal.returns-then-begins_with-clause-path
returns-then-begins_with-clause-path c =
    let g = c.self.inside.graph.now in
    let free = ap (λ (w : Processes). summary_of w.graph c.args.p) c.self.view_is ∙ c.requires in
    let first = is_first (slice_get c.self.inside.names.list 0) c.in-Some.q
    (sym c.begins_with.ensures ∙ c.if-begins_with.true) in
    ap (λ (w : Processes). chosen_path w.graph c.args.p) (sym c.self.view_is)
    ∙ path_before g c.args.p c.in-Some.q c.args.count c.self.inside.names.list
    c.law_built_graph.ensures.within (free ∙ ap (λ o. Free o c.args.count) c.in-Some.is)
    (c.self.invariant.path c.in-Some.q first)
    ∙ ap Some (sym c.in_ok-put_before.ensures.list)

-- the path goes along processes of the graph
pub renew-requires : goal.renew-requires
renew-requires c =
    let g = c.self.inside.graph.now in
    let free = ap (λ (w : Processes). summary_of w.graph c.args.p) c.self.view_is ∙ c.requires in
    let within = idle_within g c.args.p (free_then g c.args.p c.args.next c.args.count free).idle in
    subst (λ h. All (λ q. q < process_count h) c.deref.result.now) (sym c.self.invariant.names)
    (path_within g c.args.p _ c.law_built_graph.ensures.within within
    (ap (λ (w : Processes). chosen_path w.graph c.args.p) c.self.view_is
    ∙ c.in_ok-path.ensures ∙ ap Some (sym c.deref.ensures.value)))

pub invariant_of-self-2 : goal.invariant_of-self-2
invariant_of-self-2 c =
    let g = c.self.inside.graph.now in
    let free = ap (λ (w : Processes). summary_of w.graph c.args.p) c.self.view_is ∙ c.requires in
    let within = idle_within g c.args.p (free_then g c.args.p c.args.next c.args.count free).idle in
    let list = c.in_ok-renew.ensures.list ∙ c.deref.ensures.value in
    let path = ap (λ (w : Processes). chosen_path w.graph c.args.p) c.self.view_is
    ∙ c.in_ok-path.ensures ∙ ap Some (sym list) in
    record {
      names = c.in_ok-renew.ensures.graph ∙ c.self.invariant.names;
      summaries = c.self.invariant.summaries;
      path = λ q at. path_by_first g c.args.p q c.renew.new.self.list c.law_built_graph.ensures.within within path at;
    }
