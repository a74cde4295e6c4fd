use Rattle.std.proofs.Common.{◌≡◌, ◌+◌, ap, arith}
use Rattle.cmh_board.specs.Board.{board_view}
use Rattle.cmh_plan.specs.TicketSeats.{ticket_view}
use Rattle.cmh_work.specs.Working.{AreBack, IsWorked}
use Rattle.cmh_work.proofs.FindingLemmas.{collected, joined_worked}
use Rattle.cmh_work.proofs.workers.+fn-workers-join+arg3+workers.Goals as goal

pub take_back-requires : goal.take_back-requires
take_back-requires g t c =
    let first : AreBack c.args.shared.now c.in-Some.next c.join-next.result.0.0 = (c.join-next.ensures.first).0 in
    let second : AreBack c.args.shared.now c.split_off.new.seats c.join-next.result.1.0 =
    (c.join-next.ensures.second).0 in
    record { sit = (second.sit, first.sit) }

pub returns-clause-back : goal.returns-clause-back
returns-clause-back g t c =
    let first : AreBack c.args.shared.now c.in-Some.next c.join-next.result.0.0 = (c.join-next.ensures.first).0 in
    let second : AreBack c.args.shared.now c.split_off.new.seats c.join-next.result.1.0 =
    (c.join-next.ensures.second).0 in
    let tickets : (ticket_view c.take_back.new.seats.tickets).share
    ≡ (ticket_view c.join-next.result.1.0.tickets).share + (ticket_view c.join-next.result.0.0.tickets).share =
    ap (λ v. v.share) c.take_back.ensures.tickets in
    let board : (board_view c.take_back.new.seats.board).lock.share
    ≡ (board_view c.join-next.result.1.0.board).lock.share + (board_view c.join-next.result.0.0.board).lock.share =
    ap (λ v. v.lock.share) c.take_back.ensures.board in
    let t1 = first.tickets in
    let t2 = second.tickets in
    let b1 = first.board in
    let b2 = second.board in
    let n = c.in-Some.ensures.new in
    let l = c.in-Some.ensures.less in
    let s = c.split_off.ensures.share in
    let same = c.requires.same in record {
      sit = c.take_back.ensures.sit;
      tickets = omega arith;
      board = omega arith;
    }

pub returns-clause-worked : goal.returns-clause-worked
returns-clause-worked g t c =
    let r = c.join-next.result in
    collected c.concat_findings.result r.1.1 r.0.1
    (λ v. IsWorked g.P.ProcessList.processes c.args.graph.now c.args.plan.now c.args.shared.now r.1.0 v.items)
    (λ v. IsWorked g.P.ProcessList.processes c.args.graph.now c.args.plan.now c.args.shared.now r.0.0 v.items)
    (λ l. IsWorked g.P.ProcessList.processes c.args.graph.now c.args.plan.now c.args.shared.now
    c.take_back.new.seats l)
    (c.join-next.ensures.second).1 (c.join-next.ensures.first).1 c.concat_findings.ensures
    (λ a b p q. joined_worked g.P.ProcessList.processes c.args.graph.now c.args.plan.now c.args.shared.now r.1.0 r.0.0
    c.take_back.new.seats a.items b.items c.take_back.ensures.tickets c.take_back.ensures.board
    c.take_back.ensures.begins.0 c.take_back.ensures.begins.1 p q)
