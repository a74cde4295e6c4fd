use Rattle.std.proofs.Common.{◌∷◌, [], ap, arith, length, set, subst, sym, true}
use Rattle.cmh_graph.specs.Path.{reaches}
use Rattle.cmh_graph.specs.Search.{SpreadsFrom}
use Rattle.cmh_graph.proofs.IndexLists.{length-by_index}
use Rattle.cmh_graph.proofs.ForwardSearch.{spreads_known}
use Rattle.cmh_graph.proofs.graph.WaitGraph.reach_marks_by.Goals as goal

pub index_mut-requires : goal.index_mut-requires
index_mut-requires c =
    omega (
      arith,
      c.requires.within,
      c.in_ok-marks.marks.ok.0,
      ap length c.in_ok-marks.ensures.items,
      ap length c.requires.known,
      length-by_index c.args.self.now (reaches c.args.self.now c.args.q),
    )

pub spread-requires-clause-spreads : goal.spread-requires-clause-spreads
spread-requires-clause-spreads c =
    let g = c.args.self.now in
    let p = c.args.p in
    subst (λ marks. SpreadsFrom g p (set marks p true) (p ∷ [])) (sym c.in_ok-marks.ensures.items)
    (spreads_known g p c.args.q c.args.known.now c.has_no_fault.ensures.within c.requires.within c.requires.beyond
    c.requires.known)
