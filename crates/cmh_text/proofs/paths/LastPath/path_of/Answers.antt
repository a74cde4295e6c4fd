use Rattle.std.proofs.Common.{◌∙◌, ◌++◌, ◌∷◌, [], ap, arith, length, length-append, subst, sym}
use Rattle.cmh_graph.specs.Graph.{IsWithinGraph}
use Rattle.cmh_text.specs.Processes.{Processes}
use Rattle.cmh_text.specs.Summary.{AreSummariesOf}
use Rattle.cmh_text.proofs.Summaries.{free_then, summaries_size, walk_end, walk_more, walk_next, walk_on, walk_start, IsWalked}
use Rattle.cmh_text.proofs.paths.LastPath.path_of.Goals as goal

pub loop-self-init : goal.loop-self-init
loop-self-init c =
    let within = subst (λ (w : Processes). IsWithinGraph w.graph) c.self.view_is c.law_built_graph.ensures.within in
    walk_start c.args.self.now.graph c.args.p c.args.next c.args.count _ within c.requires
    (c.in_ok-push.ensures.items ∙ ap (λ xs. xs ++ c.args.p ∷ []) c.in_ok-path.ensures.items)

pub unwrap-q-requires : goal.unwrap-q-requires
unwrap-q-requires c =
    let by = free_then c.args.self.now.graph c.args.p c.args.next c.args.count c.requires in
    walk_on c.args.self.now.graph c.args.p c.loop-self.path.items c.loop-self.next c.loop-self.invariant
    (omega (arith, by.size, c.loop-self-test.true, c.len.ensures, c.loop-self.path.ok.0))

pub bounds-self-inside-q : goal.bounds-self-inside-q
bounds-self-inside-q c =
    let g = c.args.self.now.graph in
    let within = subst (λ (w : Processes). IsWithinGraph w.graph) c.self.view_is c.law_built_graph.ensures.within in
    let are = subst (λ (w : Processes). AreSummariesOf w.graph c.self.inside.summaries.now) c.self.view_is
    c.self.invariant.summaries in
    let by = free_then g c.args.p c.args.next c.args.count c.requires in
    let next = walk_next g c.args.p c.unwrap-q.result c.loop-self.path.items c.loop-self.next within
    c.loop-self.invariant (omega (arith, by.size, c.loop-self-test.true, c.len.ensures, c.loop-self.path.ok.0))
    c.unwrap-q.ensures in
    omega (arith, next.1, summaries_size g _ are)

pub loop-self-smaller : goal.loop-self-smaller
loop-self-smaller c =
    omega (
      arith,
      ap length c.in_ok-push-2.ensures.items,
      length-append c.loop-self.path.items (c.unwrap-q.result ∷ []),
      c.loop-self-test.true,
      c.len.ensures,
      c.loop-self.path.ok.0,
    )

pub loop-self-preserved : goal.loop-self-preserved
loop-self-preserved c =
    let g = c.args.self.now.graph in
    let within = subst (λ (w : Processes). IsWithinGraph w.graph) c.self.view_is c.law_built_graph.ensures.within in
    let are = subst (λ (w : Processes). AreSummariesOf w.graph c.self.inside.summaries.now) c.self.view_is
    c.self.invariant.summaries in
    let by = free_then g c.args.p c.args.next c.args.count c.requires in
    subst (λ xs. IsWalked g c.args.p xs c.next-next.result) (sym c.in_ok-push-2.ensures.items)
    (subst (IsWalked g c.args.p (c.loop-self.path.items ++ c.unwrap-q.result ∷ [])) (sym c.next-next.ensures)
    (walk_more g c.args.p c.unwrap-q.result c.loop-self.path.items c.loop-self.next _ _
    within are c.loop-self.invariant
    (omega (arith, by.size, c.loop-self-test.true, c.len.ensures, c.loop-self.path.ok.0)) c.unwrap-q.ensures))

pub returns : goal.returns
returns c =
    let by = free_then c.args.self.now.graph c.args.p c.args.next c.args.count c.requires in
    walk_end c.args.self.now.graph c.args.p c.loop-self.path.items c.loop-self.next c.loop-self.invariant
    (omega (arith, by.size, c.loop-self-test.false, c.len.ensures, c.loop-self.path.ok.0))
