use Rattle.std.proofs.Common.{◌∙◌, ◌++◌, [], ℕ, ap, map, subst, sym}
use Rattle.std.specs.Prelude.{All, IsTrue, slice_index_or}
use Rattle.cmh_graph.specs.Graph.{is_idle, idle_list}
use Rattle.cmh_board.specs.Board.{board_view}
use Rattle.cmh_plan.specs.TicketSeats.{IsTicketSeatOf, ticket_view}
use Rattle.cmh_plan.specs.Tickets.{with_drawn}
use Rattle.cmh_work.specs.Cutting.{chunks_of}
use Rattle.cmh_work.specs.Finding.{finding_initiator, Accounts}
use Rattle.cmh_work.specs.Work.{ComesBack, Work}
use Rattle.cmh_work.proofs.FindingLemmas.{drawn_more}
use Rattle.cmh_work.proofs.CuttingLemmas.{all_chunk, all_idle}
use Rattle.cmh_work.proofs.WorkerLemmas.{back_by}
use Rattle.cmh_work.proofs.worker.Worker.draw_all.Goals as goal

pub invariant_of-self : goal.invariant_of-self
invariant_of-self g c =
    let known = c.self-in-loop-number.invariant in
    let here = ap (λ (w : Work). w.job) c.self-in-loop-number.view_is in
    let same = ap (λ (w : Work). w.job) c.self.view_is ∙ sym (here ∙ c.loop-number.invariant.back.job) in
    record {
      shapes = known.shapes;
      runner = known.runner;
      leaders = known.leaders;
      seats = record {
        board = known.seats.board;
        tickets = subst (λ k. IsTicketSeatOf k.shared.now.tickets c.draw.new.seat) same c.in-Some.ensures.own;
      };
    }

pub find_each-requires-clause-idle : goal.find_each-requires-clause-idle
find_each-requires-clause-idle g c =
    let j = c.self.inside.job.now in
    let here = ap (λ (w : Work). w.job) c.self-in-loop-number.view_is in
    let same = ap (λ (w : Work). w.job) c.self.view_is ∙ sym (here ∙ c.loop-number.invariant.back.job) in
    let P = λ (p : ℕ). IsTrue (is_idle j.graph.now p) in
    let all : All P j.shared.now.idle.items =
    subst (All P) {x = idle_list j.graph.now} (sym j.initiators) (all_idle j.graph.now) in
    λ κs m.
    subst (λ k. All (λ p. IsTrue (is_idle k.graph.now p)) c.chunk_at.result.now) same
    (subst (All P) (sym c.chunk_at.ensures)
    (all_chunk P j.plan.now.cuts j.shared.now.idle.items c.in-Some.number all))

pub loop-number-preserved : goal.loop-number-preserved
loop-number-preserved g c =
    let first = c.args.self.now in
    let j = c.self.inside.job.now in
    let old = c.loop-number.invariant in
    let new = c.find_each.new.self in
    let was = c.self-in-loop-number.view_is in
    let on = c.in_ok-find_each.ensures.on in
    let number = c.in-Some.number in
    let drawn = ap ticket_view on.tickets ∙ c.in-Some.ensures.some
    ∙ ap (λ (w : Work). with_drawn (ticket_view w.seats.tickets) number) was in
    let begun = ap (λ (w : Work). w.job) c.self.view_is in
    record {
      back = back_by first _ c.draw.new.seat new number (subst (ComesBack first) (sym was) old.back) on
          c.in-Some.ensures.some;
      accounts = subst
          (λ k. Accounts g.P.ProcessList.processes k.graph.now k.plan.now.choices
          (board_view new.seats.board) c.find_each.new.found.items)
          (ap (λ (w : Work). w.job) was ∙ old.back.job) c.in_ok-find_each.ensures.accounts;
      order = drawn_more first.job.plan.now first.job.shared.now c.loop-number.self.seats.tickets new.seats.tickets
          number c.loop-number.found.items c.find_each.new.found.items drawn old.order
          (c.in_ok-find_each.ensures.order
          ∙ ap (λ xs. map finding_initiator c.loop-number.found.items ++ xs) c.chunk_at.ensures
          ∙ ap (λ k. map finding_initiator c.loop-number.found.items
          ++ slice_index_or (chunks_of k.plan.now.cuts k.shared.now.idle.items) number []) begun);
    }

pub returns-in_err-find_each-clause-back : goal.returns-in_err-find_each-clause-back
returns-in_err-find_each-clause-back g c =
    back_by c.args.self.now _ c.draw.new.seat c.find_each.new.self c.in-Some.number
    (subst (ComesBack c.args.self.now) (sym c.self-in-loop-number.view_is) c.loop-number.invariant.back)
    c.find_each.ensures.on c.in-Some.ensures.some

pub invariant_of-self-in_default : goal.invariant_of-self-in_default
invariant_of-self-in_default g c =
    let known = c.self-in-loop-number.invariant in
    let here = ap (λ (w : Work). w.job) c.self-in-loop-number.view_is in
    let same = ap (λ (w : Work). w.job) c.self.view_is ∙ sym (here ∙ c.loop-number.invariant.back.job) in
    record {
      shapes = known.shapes;
      runner = known.runner;
      leaders = known.leaders;
      seats = record {
        board = known.seats.board;
        tickets = subst (λ k. IsTicketSeatOf k.shared.now.tickets c.draw.new.seat) same c.in_default.ensures.own;
      };
    }
