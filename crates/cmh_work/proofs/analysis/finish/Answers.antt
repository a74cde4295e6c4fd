use Rattle.std.proofs.Common.{◌≡◌, ◌<◌, ◌≤◌, ◌∙◌, All, IfOk, Some, ap, arith, length, rules, subst, sym}
use Rattle.std.specs.List.Sorted.{IsNonDecreasingBy}
use Rattle.std.proofs.lemmas.List.Sorted.{IsNonDecreasingBy-from_sort, answers_always}
use Rattle.cmh_graph.specs.Graph.{process_count}
use Rattle.cmh_graph.proofs.Faults.{given}
use Rattle.cmh_rw.specs.declared.row.Row.{Row}
use Rattle.cmh_rw.specs.History.{IsTrueOf, fold_at}
use Rattle.cmh_rw.proofs.Folds.{true-few}
use Rattle.cmh_board.specs.Board.{board_view, IsMadeOf}
use Rattle.cmh_work.specs.Finding.{finding_initiator}
use Rattle.cmh_work.specs.Numbering.{AreNumbered}
use Rattle.cmh_work.specs.Working.{IsWorked}
use Rattle.cmh_work.proofs.AnalysisLemmas.{all_stand, analysed}
use Rattle.cmh_work.proofs.RecordLemmas.{rows_within}
use Rattle.cmh_work.proofs.analysis.finish.Goals as goal

pub number_all-requires-clause-stand : goal.number_all-requires-clause-stand
number_all-requires-clause-stand g c =
    let gr = c.args.graph.now in
    let plan = c.args.plan.now in
    let seats = c.workers-seats.result.0 in
    let rows = c.in_ok-history.history.items in
    let sorted = c.sort_unstable_by_key.new.self.items in
    let w : IsWorked g.P.ProcessList.processes gr plan c.args.shared seats c.in_ok-found.found.items =
    subst (λ r. IfOk r (λ f. IsWorked g.P.ProcessList.processes gr plan c.args.shared seats f.items)) c.in_ok-found.was
    c.workers-seats.ensures.worked in
    let sound =
    all_stand g.P.ProcessList.processes gr plan.choices rows
    (board_view seats.board).seen c.in_ok-found.found.items sorted c.sort_unstable_by_key.ensures.permutation
    (given c.close.result c.map_err.result c.in_ok-history.history _ _ c.map_err.ensures.cases
    c.in_ok-history.was c.close.ensures.begins) w.accounts.sound in
    subst (λ l. All (λ f. fold_at l f.initiator ≡ Some f.verdict) sorted) (sym c.deref.ensures.value)
    (λ k d low. (sound k d low).stands)

pub number_all-requires-clause-within : goal.number_all-requires-clause-within
number_all-requires-clause-within g c =
    let gr = c.args.graph.now in
    let rows = c.in_ok-history.history.items in
    let true_of : IsTrueOf gr rows =
    subst (λ x. IsTrueOf x rows) c.requires.made.board
    (given c.close.result c.map_err.result c.in_ok-history.history _ _ c.map_err.ensures.cases
    c.in_ok-history.was c.close.ensures.true_of) in
    subst (All (λ (r : Row). r.process < process_count gr)) (sym c.deref.ensures.value) (rows_within gr rows true_of)

pub number_all-requires-clause-few : goal.number_all-requires-clause-few
number_all-requires-clause-few g c =
    let gr = c.args.graph.now in
    let true_of : IsTrueOf gr c.in_ok-history.history.items =
    subst (λ x. IsTrueOf x c.in_ok-history.history.items) c.requires.made.board
    (given c.close.result c.map_err.result c.in_ok-history.history _ _ c.map_err.ensures.cases
    c.in_ok-history.was c.close.ensures.true_of) in
    let few : length c.in_ok-history.history.items ≤ process_count gr =
    true-few gr c.in_ok-history.history.items true_of in
    let small = c.law_built_graph.ensures.processes in
    omega (arith, ap length c.deref.ensures.value)

pub returns : goal.returns
returns g c =
    let gr = c.args.graph.now in
    let plan = c.args.plan.now in
    let seats = c.workers-seats.result.0 in
    let rows = c.in_ok-history.history.items in
    let sorted = c.sort_unstable_by_key.new.self.items in
    let back = c.workers-seats.ensures.back in
    let w : IsWorked g.P.ProcessList.processes gr plan c.args.shared seats c.in_ok-found.found.items =
    subst (λ r. IfOk r (λ f. IsWorked g.P.ProcessList.processes gr plan c.args.shared seats f.items)) c.in_ok-found.was
    c.workers-seats.ensures.worked in
    let up : IsNonDecreasingBy finding_initiator sorted =
    IsNonDecreasingBy-from_sort finding_initiator _
    (c.sort_unstable_by_key.ensures.sorted finding_initiator (answers_always _ _ _ (λ f a r x h. search rules))) in
    let true_of : IsTrueOf gr rows =
    subst (λ x. IsTrueOf x rows) c.requires.made.board
    (given c.close.result c.map_err.result c.in_ok-history.history _ _ c.map_err.ensures.cases
    c.in_ok-history.was c.close.ensures.true_of) in
    let made : IsMadeOf (board_view seats.board).mine rows =
    given c.close.result c.map_err.result c.in_ok-history.history _ _ c.map_err.ensures.cases c.in_ok-history.was
    c.close.ensures.own (back.board ∙ c.requires.board) in
    let numbered : AreNumbered rows sorted c.in_ok-records.records.items =
    subst (λ l. AreNumbered l sorted c.in_ok-records.records.items) c.deref.ensures.value c.in_ok-records.ensures in
    analysed g.P.ProcessList.processes gr plan c.args.shared seats c.in_ok-found.found.items sorted record
    { records = c.in_ok-records.records; history = c.in_ok-history.history }
    c.law_built_graph.ensures c.requires.made c.sort_unstable_by_key.ensures.permutation up back.sit
    (back.tickets ∙ c.requires.tickets) w
    (given c.close.result c.map_err.result c.in_ok-history.history _ _ c.map_err.ensures.cases c.in_ok-history.was
    c.close.ensures.begins) true_of made numbered
