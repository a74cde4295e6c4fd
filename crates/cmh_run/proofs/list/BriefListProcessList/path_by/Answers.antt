use Rattle.cmh_run.proofs.Common.{◌≡◌, ◌∙◌, [], ap, arith, length, sym, Some, chosen_path, distance_of, length-by_index}
use Rattle.cmh_run.proofs.NextProcesses.{distance_at, path_far, some_of}
use Rattle.cmh_run.proofs.list.BriefListProcessList.path_by.Goals as goal

pub bounds-distances-p : goal.bounds-distances-p
bounds-distances-p c =
    omega (arith, ap length c.requires.known, length-by_index c.args.graph.now (distance_of c.args.graph.now))

pub unwrap-distance-requires : goal.unwrap-distance-requires
unwrap-distance-requires c =
    (path_far c.args.graph.now c.args.p _ _ _ c.requires.known c.requires.within
    (some_of (chosen_path c.args.graph.now c.args.p) [] c.requires.some)).0

pub next_by-requires-clause-distance : goal.next_by-requires-clause-distance
next_by-requires-clause-distance c =
    distance_at c.args.graph.now c.args.p _ _ _ c.requires.known c.requires.within c.unwrap-distance.ensures

pub invariant_of-result : goal.invariant_of-result
invariant_of-result c =
    let is : chosen_path c.args.graph.now c.args.p ≡ Some c.chosen_path.result.items =
    some_of (chosen_path c.args.graph.now c.args.p) [] c.requires.some ∙ ap Some (sym c.chosen_path.ensures) in
    let far = path_far c.args.graph.now c.args.p _ _ _ c.requires.known c.requires.within is in
    record { second = c.next_by.ensures _ is; size = far.1 c.unwrap-distance.result c.unwrap-distance.ensures }
