use Rattle.cmh_plan.proofs.TicketsLemmas.{opens}
use Rattle.std.proofs.Common.{arith}
use Rattle.cmh_plan.proofs.tickets.Tickets.open.Goals as goal

pub of_words-requires : goal.of_words-requires
of_words-requires c = opens c.args.chunks (omega arith)
