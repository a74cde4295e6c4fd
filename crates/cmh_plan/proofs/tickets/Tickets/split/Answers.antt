use Rattle.std.proofs.Common.{rules, arith}
use Rattle.cmh_plan.proofs.TicketsLemmas.{splits}
use Rattle.cmh_plan.proofs.tickets.Tickets.split.Goals as goal

pub split_seat-other-requires : goal.split_seat-other-requires
split_seat-other-requires c = let wide =
    c.args.self.now.wide in (search rules, omega arith, splits _ _ _ (search rules))
