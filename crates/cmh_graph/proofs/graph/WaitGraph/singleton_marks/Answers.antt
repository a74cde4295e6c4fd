use Rattle.std.proofs.Common.{◌≡◌, ◌∙◌, ◌<◌, ap, get_or, length, refl, replicate, rules, subst, sym}
use Rattle.std.proofs.lemmas.List.{length-replicate}
use Rattle.std.proofs.lemmas.List.Elements.{All-pop}
use Rattle.cmh_graph.specs.Alone.{AreAlone}
use Rattle.cmh_graph.specs.Graph.{process_count}
use Rattle.cmh_graph.proofs.LevelSearch.{listed_within}
use Rattle.cmh_graph.proofs.AloneLemmas.{alone_start, passed_start, zeros_at}
use Rattle.cmh_graph.proofs.graph.WaitGraph.singleton_marks.Goals as goal

pub trim_all-requires : goal.trim_all-requires
trim_all-requires c =
    let g = c.args.self.now in
    let zeros : c.deref_mut-2.result.now ≡ replicate c.len.result 0 =
    c.deref_mut-2.ensures.value ∙ c.in_ok-passed.ensures.items_if_clones_equal (λ y h. search rules) in
    record {
      trimming = (
        subst (AreAlone g) (sym c.deref_mut.ensures.value)
            (alone_start g _ _ c.has_no_fault.ensures.within c.requires.known c.in_ok-marks.ensures),
        passed_start g _ _ (ap length zeros ∙ length-replicate c.len.result 0 ∙ c.len.ensures.count)
            (λ p. ap (λ xs. get_or xs p 0) zeros ∙ zeros_at c.len.result p),
      );
    }

pub trim_each-requires-clause-listed : goal.trim_each-requires-clause-listed
trim_each-requires-clause-listed c = listed_within c.args.self.now _ c.in-Some.q _ _ c.requires.known c.at.ensures refl

pub trim_each-requires-clause-pending : goal.trim_each-requires-clause-pending
trim_each-requires-clause-pending c =
    (All-pop (λ p. p < process_count c.args.self.now) _ _ _ c.pop.ensures.items c.loop.invariant.pending).0
