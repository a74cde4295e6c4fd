use Rattle.std.proofs.Common.{◌≡◌, ◌≤◌, ap, arith, get_or, length, set, subst, true}
use Rattle.std.proofs.lemmas.List.{get_or-set_same}
use Rattle.cmh_graph.specs.Graph.{dependents_of}
use Rattle.cmh_graph.specs.Search.{is_marked}
use Rattle.cmh_graph.proofs.AloneLemmas.{alone_marked, passed_more, passed_stays}
use Rattle.cmh_graph.proofs.graph.WaitGraph.trim.Goals as goal

pub returns : goal.returns
returns c =
    let g = c.args.self.now in
    let p = c.args.p in
    let marks = c.args.marks.now in
    let passed = c.args.passed.now in
    let count = c.first_unmarked-count.result in
    let now = passed_more g marks passed p count c.requires.trimming.1 c.requires.within
    (λ k a b. subst (λ row. is_marked marks (get_or row k 0) ≡ true) c.dependents-row.ensures
    (c.first_unmarked-count.ensures k a b)) in
    let all : length (dependents_of g p) ≤ get_or (set passed p count) p 0 =
    omega (
      arith,
      c.if-count-row.false,
      ap length c.dependents-row.ensures,
      get_or-set_same passed p count 0 (omega (arith, c.requires.within, c.requires.trimming.1.size)),
    ) in
    record {
      trimming = (
        alone_marked g marks
            (set passed p count) p c.has_no_fault.ensures.within c.requires.within c.requires.trimming.0 now all,
        passed_stays g marks (set passed p count) p (omega (arith, c.requires.within, c.requires.trimming.0.size)) now,
      );
    }
