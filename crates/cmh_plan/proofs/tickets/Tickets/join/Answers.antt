use Rattle.std.proofs.Common.{rules, arith}
use Rattle.cmh_plan.proofs.TicketsLemmas.{joins, measures}
use Rattle.cmh_plan.proofs.tickets.Tickets.join.Goals as goal

pub join_seat-requires : goal.join_seat-requires
join_seat-requires c = let wide =
    c.args.self.now.wide in (search rules, search rules, search rules, omega arith, joins _ _ _ _ _ (search rules))

pub load-requires : goal.load-requires
load-requires c = let wide = c.args.self.now.wide in (search rules, omega arith, measures _ _ _ _)
