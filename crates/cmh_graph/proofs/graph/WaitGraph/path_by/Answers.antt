use Rattle.std.proofs.Common.{◌∙◌, ◌++◌, ◌-◌, ◌<◌, ◌∷◌, [], Some, ap, arith, length, rules, refl, subst, sym}
use Rattle.std.proofs.lemmas.List.{get_or_default}
use Rattle.cmh_graph.specs.ChosenPath.{distance_of}
use Rattle.cmh_graph.proofs.ChosenPathLemmas.{LeadsOn, chosen_none, distance_within, leads_end, leads_on, leads_start}
use Rattle.cmh_graph.proofs.IndexLists.{length-by_index}
use Rattle.cmh_graph.proofs.graph.WaitGraph.path_by.Goals as goal

pub bounds : goal.bounds
bounds c =
    let g = c.args.self.now in
    omega (arith, ap length c.requires.known, length-by_index g (distance_of g), c.requires.within)

pub returns-in_default : goal.returns-in_default
returns-in_default c =
    let g = c.args.self.now in
    let within : c.args.p < length c.args.distances.now =
    omega (arith, ap length c.requires.known, length-by_index g (distance_of g), c.requires.within) in
    chosen_none g c.args.p _ _ c.requires.within c.requires.known
    (get_or_default c.args.distances.now c.args.p _ _ within) c.in_default.is

pub room-requires : goal.room-requires
room-requires c =
    let g = c.args.self.now in
    let within : c.args.p < length c.args.distances.now =
    omega (arith, ap length c.requires.known, length-by_index g (distance_of g), c.requires.within) in
    omega (
      arith,
      distance_within g c.args.p _ _ _ c.requires.within c.requires.known
          (get_or_default c.args.distances.now c.args.p _ _ within) c.in-Some.is,
    )

pub loop-nearer-init : goal.loop-nearer-init
loop-nearer-init c =
    let g = c.args.self.now in
    let within : c.args.p < length c.args.distances.now =
    omega (arith, ap length c.requires.known, length-by_index g (distance_of g), c.requires.within) in
    record {
      leads = leads_start g c.args.p _ _ _ _ c.requires.within c.requires.known
          (get_or_default c.args.distances.now c.args.p _ _ within) c.in-Some.is
          (c.push_reserved.ensures.items ∙ ap (λ xs. xs ++ c.args.p ∷ []) c.in_ok-path.ensures.items);
      room = search rules;
    }

pub next_at-last-requires-clause-further : goal.next_at-last-requires-clause-further
next_at-last-requires-clause-further c =
    c.loop-nearer.invariant.leads.distance ∙ ap (λ n. Some n) (omega arith)

pub loop-nearer-preserved : goal.loop-nearer-preserved
loop-nearer-preserved c = record {
  leads = subst (λ xs. LeadsOn c.args.self.now c.args.p (c.loop-nearer.nearer - 1) xs c.next_at-last.result)
      (sym c.push_reserved-in-loop-nearer.ensures.items)
      (leads_on c.args.self.now c.args.p _ _ _ _ _ _ _ c.has_no_fault.ensures c.loop-nearer.invariant.leads
      (omega arith) refl c.requires.known c.next_at-last.ensures);
  room = search rules;
}

pub returns : goal.returns
returns c =
    leads_end c.args.self.now c.args.p _ _ _ c.has_no_fault.ensures.within c.requires.within
    c.loop-nearer.invariant.leads (omega arith)
