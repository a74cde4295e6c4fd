use Rattle.std.proofs.Common.{rules, arith}
use Rattle.cmh_plan.proofs.TicketsLemmas.{draws}
use Rattle.cmh_plan.proofs.tickets.Tickets.draw.Goals as goal

pub fetch_add-found-requires : goal.fetch_add-found-requires
fetch_add-found-requires c = let wide =
    c.args.self.now.wide in (search rules, omega arith, draws _ _ _ _ (search rules) (search rules) (search rules))
