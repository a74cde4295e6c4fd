use Rattle.std.proofs.Common.{◌≡◌, [], ◌∷◌, ◌++◌, append-nil, arith, get_or, refl, rules, subst, sym}
use Rattle.std.proofs.lemmas.Grind.{common_steps}
use Rattle.cmh_board.specs.Board.{board_view}
use Rattle.cmh_work.specs.Finding.{Accounts, IsFound}
use Rattle.cmh_work.proofs.AccountsLemmas.{accounts_more}
use Rattle.cmh_work.proofs.WorkerLemmas.{goes_on-twice}
use Rattle.cmh_work.proofs.worker.Worker.find_each.Goals as goal

pub loop-initiator-init : goal.loop-initiator-init
loop-initiator-init g c = record {
  on = record { job = refl; tickets = refl; share = refl };
  accounts = c.requires.accounts;
  order = sym (append-nil _);
}

pub loop-initiator-preserved : goal.loop-initiator-preserved
loop-initiator-preserved g c =
    let gr = c.args.self.now.job.graph.now in
    let choices = c.args.self.now.job.plan.now.choices in
    let v = board_view c.loop-initiator.self.seats.board in
    let w = board_view c.find_one.new.self.seats.board in
    let finding = c.in_ok-finding.finding in
    let found =
    subst (λ j. IsFound g.P.ProcessList.processes j.graph.now j.plan.now.choices
    (get_or c.args.chunk.now c.loop-initiator.initiator-index 0) v w finding)
    c.loop-initiator.invariant.on.job c.in_ok-finding.ensures.found in
    let pushed : c.push.new.self.items ≡ c.loop-initiator.found.items ++ finding ∷ [] =
    search rules in record {
      on = goes_on-twice c.args.self.now c.loop-initiator.self c.find_one.new.self c.loop-initiator.invariant.on
          c.in_ok-finding.ensures.on;
      accounts = subst (Accounts g.P.ProcessList.processes gr choices w) (sym pushed)
          (accounts_more g.P.ProcessList.processes gr choices v w c.loop-initiator.found.items finding
          c.loop-initiator.invariant.accounts found.sees found.sound found.mine);
      order = grind (arith, common_steps, found.initiator);
    }
