-- Worked traces, by computation.
use Rattle.std.proofs.Common.{◌≡◌, List, [], ◌∷◌, ◌++◌, None, refl, map}
use Rattle.std.specs.Prelude.{codes}
use Rattle.cmh_graph.specs.Graph.{Process}
use Rattle.cmh_process.specs.declared.message.Message.{Message}
use Rattle.cmh_run.specs.Config.{query, reply}
use Rattle.cmh_run.specs.declared.delivery.Delivery.{Delivery}
use Rattle.cmh_run.specs.declared.delivery.Ending.{Ending}
use Rattle.cmh_run.specs.declared.delivery.Ending.TheVariants.{Declared, AtRest}
use Rattle.cmh_run.specs.Run.{Run}
use Rattle.cmh_text.proofs.Examples.{idle, active, lf, two_in_a_cycle, waits_for_nobody}
use Rattle.cmh_report.specs.Trace.{trace_text, message_line}

-- the run of process 0 with these messages
abbrev run_of : List Message → Ending → Run
run_of messages ending = record {
  initiator = 0;
  log = map (λ m. let d : Delivery = record { message = m; hint = None } in d) messages;
  ending = ending;
  engaged = [];
  restarted = 0;
}

-- p has no dependents: nothing is delivered
waits_for_nobody_trace : trace_text (record { processes = waits_for_nobody; in_transit = [] }) (run_of [] Declared)
    ≡ codes "declared p" ++ lf
unfolding trace_text message_line
waits_for_nobody_trace = refl

-- the trace of p, where p and q wait for each other: two queries, two replies, and p is declared
two_in_a_cycle_trace : trace_text (record { processes = two_in_a_cycle; in_transit = [] })
    (run_of (query 0 1 0 1 ∷ query 0 1 1 0 ∷ reply 0 1 0 1 ∷ reply 0 1 1 0 ∷ []) Declared)
    ≡ codes "query p q" ++ lf
    ++ codes "query q p" ++ lf
    ++ codes "reply p q" ++ lf
    ++ codes "reply q p" ++ lf
    ++ codes "declared p" ++ lf
unfolding trace_text message_line
two_in_a_cycle_trace = refl

-- p waits for q, which waits for itself, and for r, which is active and discards the query
abbrev one_free_one_stuck : List Process
one_free_one_stuck =
    idle (codes "p") 0 (1 ∷ 2 ∷ []) ∷
    idle (codes "q") 0 (1 ∷ []) ∷
    active (codes "r") 0 ∷ []

one_free_one_stuck_trace : trace_text (record { processes = one_free_one_stuck; in_transit = [] })
    (run_of (query 0 1 0 1 ∷ query 0 1 0 2 ∷ query 0 1 1 1 ∷ reply 0 1 1 1 ∷ reply 0 1 1 0 ∷ []) AtRest)
    ≡ codes "query p q" ++ lf
    ++ codes "query p r" ++ lf
    ++ codes "query q q" ++ lf
    ++ codes "reply q q" ++ lf
    ++ codes "reply q p" ++ lf
    ++ codes "at rest p" ++ lf
unfolding trace_text message_line
one_free_one_stuck_trace = refl
