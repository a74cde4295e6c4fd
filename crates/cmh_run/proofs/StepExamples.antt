-- Steps by the rules, worked by hand: what each message does, and what is no step.
use Rattle.cmh_run.proofs.Common.{ℕ, zero, suc, true, false, List, [], ◌∷◌, Option, Some, None, refl, sym, ap, arith, true≢false, none-some, same_Some, Idle, Verdict, Deadlocked, Free, Graph, Process, IsWithinGraph, IsDeadlocked, Message, Proc, Delivery, Declared, CutFree, Config, query, reply, nothing_yet, Going, any_place, IsStart, engage, engage_with_nothing, cut_free, reply_at_once, ignore_query, count_down, reply_to_engager, declare, ignore_reply, discard, IsStep, BecomesReady, go_on, start_again, IsRunOfSteps}
use Rattle.cmh_graph.specs.declared.part.State.TheVariants.{Active}
use Rattle.cmh_graph.specs.Path.{reaches}
use Rattle.cmh_graph.specs.Verdict.{is_deadlocked}
use Rattle.cmh_graph.proofs.Verdicts.{deadlocked_from_test}
use Rattle.cmh_run.proofs.Examples.{plain, two_in_a_cycle, deliveries}
use Rattle.cmh_run.proofs.StepLemmas.{step_computed}

-- an idle process without a name
abbrev idle : List ℕ → Process
idle dependents = record { name = []; site = 0; state = Idle; dependents = dependents }

-- an active process without a name
abbrev active : Process
active = record { name = []; site = 0; state = Active; dependents = [] }

-- a process with these values
abbrev proc : ℕ → Option ℕ → ℕ → Proc
proc latest engager num = record { latest = latest; engager = engager; num = num; wait = true }

-- a process that has heard of nothing
abbrev fresh : Proc
fresh = record { latest = 0; engager = None; num = 0; wait = false }

-- a run of process 0 on its way, by what is undelivered, the processes, the number and the engaged
abbrev going : List Message → List Proc → ℕ → List ℕ → Config
going bag procs number engaged =
    record { bag = bag; procs = procs; number = number; engaged = engaged; ended = None }

-- ---- two processes that wait for each other

-- process 0 has started
abbrev started : Config
started = going (query 0 1 0 1 ∷ []) (proc 1 None 1 ∷ fresh ∷ []) 1 (0 ∷ [])

-- process 1 has engaged
abbrev engaged : Config
engaged = going (query 0 1 1 0 ∷ []) (proc 1 None 1 ∷ proc 1 (Some 0) 1 ∷ []) 1 (0 ∷ 1 ∷ [])

-- process 0 has replied at once
abbrev answered : Config
answered = going (reply 0 1 0 1 ∷ []) (proc 1 None 1 ∷ proc 1 (Some 0) 1 ∷ []) 1 (0 ∷ 1 ∷ [])

-- process 1 has replied to its engager
abbrev replied : Config
replied = going (reply 0 1 1 0 ∷ []) (proc 1 None 1 ∷ proc 1 (Some 0) 0 ∷ []) 1 (0 ∷ 1 ∷ [])

-- process 0 has declared itself deadlocked
abbrev declared : Config
declared = record {
  bag = [];
  procs = proc 1 None 0 ∷ proc 1 (Some 0) 0 ∷ [];
  number = 1;
  engaged = 0 ∷ 1 ∷ [];
  ended = Some Declared;
}

-- process 0 starts
starts : IsStart two_in_a_cycle 0 (nothing_yet two_in_a_cycle) started
starts = record {
  asleep = refl;
  going = refl;
  number = refl;
  procs = refl;
  asks = refl;
  engaged = refl;
  goes_on = λ some. refl;
  declares = λ none. absurd cc;
}

-- the first query engages process 1, which asks process 0
engages : IsStep two_in_a_cycle 0 started 0 (plain (query 0 1 0 1)) engaged
engages = record {
  going = refl;
  there = refl;
  effect = engage engaged (refl, refl) (omega arith) (record {
    procs = refl;
    asks = λ some. refl;
    replies = λ none. absurd cc;
    joins = λ same. refl;
    joins_not = λ other. absurd (other refl);
    number = refl;
    goes_on = refl;
  });
}

-- process 0 waits in this computation, so it replies at once
replies : IsStep two_in_a_cycle 0 engaged 0 (plain (query 0 1 1 0)) answered
replies = record { going = refl; there = refl; effect = reply_at_once (refl, refl) (refl, refl) }

-- it is the only reply that process 1 waits for, so it replies to its engager
passes_on : IsStep two_in_a_cycle 0 answered 0 (plain (reply 0 1 0 1)) replied
passes_on = record { going = refl; there = refl; effect = reply_to_engager 0 (refl, refl) (refl, refl) refl refl }

-- process 0 has its only reply, and no engager
declares : IsStep two_in_a_cycle 0 replied 0 (plain (reply 0 1 1 0)) declared
declares = record { going = refl; there = refl; effect = declare (refl, refl) (refl, refl) refl refl }

-- the four deliveries are a legal run, which is declared
whole_run : (end : Going) × IsRunOfSteps any_place two_in_a_cycle 0 [] deliveries Declared end
whole_run = (
  _,
  record {
    asleep = λ asleep. (
      started,
      starts,
      (
        _,
        go_on (λ due. absurd cc),
        0,
        refl,
        engaged,
        engages,
        (
          _,
          go_on (λ due. absurd cc),
          0,
          refl,
          answered,
          replies,
          (
            _,
            go_on (λ due. absurd cc),
            0,
            refl,
            replied,
            passes_on,
            (_, go_on (λ due. absurd cc), 0, refl, declared, declares, go_on (λ due. absurd cc)),
          ),
        ),
      ),
      refl,
    );
    awake = λ awake. absurd cc;
  },
)

-- ---- hints

-- the query to process 1 with a hint
abbrev hinted : Verdict → Delivery
hinted hint = record { message = query 0 1 0 1; hint = Some hint }

-- the dependents of two processes that wait for each other are these two
within : IsWithinGraph two_in_a_cycle
within zero zero h = omega arith
within zero (suc j) h = absurd (omega (arith, h.1))
within (suc zero) zero h = omega arith
within (suc zero) (suc j) h = absurd (omega (arith, h.1))
within (suc (suc i)) j h = absurd (omega (arith, h.0))

-- process 1 of two that wait for each other is deadlocked
stuck : IsDeadlocked two_in_a_cycle 1
unfolding reaches is_deadlocked
stuck = deadlocked_from_test two_in_a_cycle 1 within refl

-- with the hint that it is deadlocked process 1 asks none, and replies
engages_with_nothing : IsStep two_in_a_cycle 0 started 0 (hinted Deadlocked) replied
engages_with_nothing = record {
  going = refl;
  there = refl;
  effect = engage_with_nothing replied (refl, refl) (omega arith) stuck (record {
    procs = refl;
    asks = λ some. absurd (some refl);
    replies = λ none. refl;
    joins = λ same. refl;
    joins_not = λ other. absurd (other refl);
    number = refl;
    goes_on = refl;
  });
}

-- process 0 waits for process 1, which waits for process 2, which is active
abbrev chain : Graph
chain = record { processes = idle (1 ∷ []) ∷ idle (2 ∷ []) ∷ active ∷ []; in_transit = [] }

-- process 0 of the chain has started
abbrev chain_started : Config
chain_started = going (query 0 1 0 1 ∷ []) (proc 1 None 1 ∷ fresh ∷ fresh ∷ []) 1 (0 ∷ [])

-- process 1 of the chain reaches process 2, which is awake, so that it is free
free : IsDeadlocked chain 1 → ⊥
free dead = true≢false (dead.1 2 (1 ∷ 2 ∷ [], (refl, ((refl, (0, omega arith, refl)), refl))))

-- with the hint that process 1 is free the run is cut free there
cuts : IsStep chain 0 chain_started 0 (hinted Free) (record {
  bag = [];
  procs = proc 1 None 1 ∷ fresh ∷ fresh ∷ [];
  number = 1;
  engaged = 0 ∷ [];
  ended = Some (CutFree 1);
})
cuts = record { going = refl; there = refl; effect = cut_free (refl, refl) (omega arith) free }

-- a false hint is no step
no_false_hint : (after : Config) → IsStep chain 0 chain_started 0 (hinted Deadlocked) after → ⊥
no_false_hint after step = free (step_computed chain 0 chain_started 0 (hinted Deadlocked) after step).0.hint.1

-- a hint where a process replies at once, so that none is asked, is no step
no_hint_unasked : (after : Config)
    → IsStep two_in_a_cycle 0 engaged 0 (record { message = query 0 1 1 0; hint = Some Deadlocked }) after → ⊥
no_hint_unasked after step =
    true≢false (sym (step_computed two_in_a_cycle 0 engaged 0
    (record { message = query 0 1 1 0; hint = Some Deadlocked }) after step).0.hint.0)

-- ---- the other rules

-- process 2 of the chain is awake, and discards the query of process 1
discards : IsStep chain 0
    (going (query 0 1 1 2 ∷ []) (proc 1 None 1 ∷ proc 1 (Some 0) 1 ∷ fresh ∷ []) 1 (0 ∷ 1 ∷ [])) 0
    (plain (query 0 1 1 2))
    (going [] (proc 1 None 1 ∷ proc 1 (Some 0) 1 ∷ fresh ∷ []) 1 (0 ∷ 1 ∷ []))
discards = record { going = refl; there = refl; effect = discard refl }

-- a reply of an awake process is no step
no_reply_of_awake : IsStep chain 0
    (going (query 0 1 1 2 ∷ []) (proc 1 None 1 ∷ proc 1 (Some 0) 1 ∷ fresh ∷ []) 1 (0 ∷ 1 ∷ [])) 0
    (plain (query 0 1 1 2))
    (going (reply 0 1 2 1 ∷ []) (proc 1 None 1 ∷ proc 1 (Some 0) 1 ∷ fresh ∷ []) 1 (0 ∷ 1 ∷ [])) → ⊥
no_reply_of_awake step = absurd (let e = ap (λ (c : Config). c.bag) (step_computed _ _ _ _ _ _ step).1 in cc)

-- processes 1 and 2 have no dependents, and process 0 has both
abbrev fork : Graph
fork = record { processes = idle (1 ∷ 2 ∷ []) ∷ idle [] ∷ idle [] ∷ []; in_transit = [] }

-- with none to ask process 2 engages and replies at once: what it sends stands last
engages_and_replies : IsStep fork 0
    (going (query 0 1 0 2 ∷ reply 0 1 1 0 ∷ []) (proc 1 None 2 ∷ proc 1 (Some 0) 0 ∷ fresh ∷ []) 1 (0 ∷ 1 ∷ [])) 0
    (plain (query 0 1 0 2))
    (going (reply 0 1 1 0 ∷ reply 0 1 2 0 ∷ []) (proc 1 None 2 ∷ proc 1 (Some 0) 0 ∷ proc 1 (Some 0) 0 ∷ []) 1
    (0 ∷ 1 ∷ 2 ∷ []))
engages_and_replies = record {
  going = refl;
  there = refl;
  effect = engage _ (refl, refl) (omega arith) (record {
    procs = refl;
    asks = λ some. absurd (some refl);
    replies = λ none. refl;
    joins = λ same. refl;
    joins_not = λ other. absurd (other refl);
    number = refl;
    goes_on = refl;
  });
}

-- process 0 waits for two replies, and the first leaves one: the second of two messages is delivered
counts_down : IsStep fork 0
    (going (query 0 1 0 2 ∷ reply 0 1 1 0 ∷ []) (proc 1 None 2 ∷ proc 1 (Some 0) 0 ∷ fresh ∷ []) 1 (0 ∷ 1 ∷ [])) 1
    (plain (reply 0 1 1 0))
    (going (query 0 1 0 2 ∷ []) (proc 1 None 1 ∷ proc 1 (Some 0) 0 ∷ fresh ∷ []) 1 (0 ∷ 1 ∷ []))
counts_down = record {
  going = refl;
  there = refl;
  effect = count_down 1 (refl, refl) (refl, refl) refl (omega arith);
}

-- process 1 of the fork has no dependents, so it declares itself deadlocked at its start
starts_alone : IsStart fork 1 (nothing_yet fork) (record {
  bag = [];
  procs = fresh ∷ proc 1 None 0 ∷ fresh ∷ [];
  number = 1;
  engaged = 1 ∷ [];
  ended = Some Declared;
})
starts_alone = record {
  asleep = refl;
  going = refl;
  number = refl;
  procs = refl;
  asks = refl;
  engaged = refl;
  goes_on = λ some. absurd (some refl);
  declares = λ none. refl;
}

-- a start of an awake process is none
no_start_of_awake : (after : Config) → IsStart chain 2 (nothing_yet chain) after → ⊥
no_start_of_awake after start = true≢false start.asleep

-- process 0 has started again, with the number 2, and these are undelivered
abbrev again : List Message → Config
again bag = going bag (proc 2 None 1 ∷ proc 1 (Some 0) 1 ∷ []) 2 (0 ∷ [])

-- the run of process 0 after two deliveries, which is to start again then
abbrev due : Going
due = record { config = answered; done = 2; restarts = 2 ∷ []; restarted = 0 }

-- process 0 starts again where that is due, while an old reply is under way
starts_again : BecomesReady two_in_a_cycle 0 due (record {
  config = again (reply 0 1 0 1 ∷ query 0 2 0 1 ∷ []);
  done = 2;
  restarts = [];
  restarted = 1;
})
starts_again = start_again [] (again (reply 0 1 0 1 ∷ query 0 2 0 1 ∷ [])) refl (record {
  asleep = refl;
  going = refl;
  number = refl;
  procs = refl;
  asks = refl;
  engaged = refl;
  goes_on = λ some. refl;
  declares = λ none. absurd cc;
})

-- after two deliveries no restart is due that is to come after three
not_due : BecomesReady two_in_a_cycle 0 (record due { restarts = 3 ∷ [] }) (record due { restarts = 3 ∷ [] })
not_due = go_on (λ now. absurd (let e = now.2 in cc))

-- an old query changes nothing
ignores_query : IsStep two_in_a_cycle 0 (again (query 0 1 1 0 ∷ query 0 2 0 1 ∷ [])) 0 (plain (query 0 1 1 0))
    (again (query 0 2 0 1 ∷ []))
ignores_query = record {
  going = refl;
  there = refl;
  effect = ignore_query (refl, refl) (omega arith) (λ waits. absurd (omega (arith, waits.1)));
}

-- an old reply changes nothing
ignores_reply : IsStep two_in_a_cycle 0 (again (reply 0 1 1 0 ∷ query 0 2 0 1 ∷ [])) 0 (plain (reply 0 1 1 0))
    (again (query 0 2 0 1 ∷ []))
ignores_reply = record {
  going = refl;
  there = refl;
  effect = ignore_reply (refl, refl) (λ waits. absurd (omega (arith, waits.0.1)));
}

-- an old query that engages a process doesn't make it one of the engaged
engages_late : IsStep two_in_a_cycle 0
    (going (query 0 1 0 1 ∷ query 0 2 0 1 ∷ []) (proc 2 None 1 ∷ fresh ∷ []) 2 (0 ∷ [])) 0 (plain (query 0 1 0 1))
    (going (query 0 2 0 1 ∷ query 0 1 1 0 ∷ []) (proc 2 None 1 ∷ proc 1 (Some 0) 1 ∷ []) 2 (0 ∷ []))
engages_late = record {
  going = refl;
  there = refl;
  effect = engage _ (refl, refl) (omega arith) (record {
    procs = refl;
    asks = λ some. refl;
    replies = λ none. absurd cc;
    joins = λ same. absurd (omega (arith, same));
    joins_not = λ other. refl;
    number = refl;
    goes_on = refl;
  });
}

-- what isn't undelivered isn't delivered
no_stray : (after : Config) → IsStep two_in_a_cycle 0 started 0 (plain (query 0 1 1 0)) after → ⊥
no_stray after step =
    absurd (omega (arith, ap (λ (m : Message). m.from) (same_Some (query 0 1 0 1) (query 0 1 1 0) step.there)))

-- after the end nothing is delivered
nothing_after_end : (d : Delivery) (after : Config) → IsStep two_in_a_cycle 0 declared 0 d after → ⊥
nothing_after_end d after step = none-some _ (sym step.going)
