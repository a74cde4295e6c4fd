-- The names that most proofs cite. All of proofs takes them from here. Declares nothing.
pub use Rattle.std.proofs.Common.{◌≡◌, ℕ, ◌<◌, true, false, cond, List, [], ◌∷◌, Some, None, Bool, not, ◌&&◌, ◌++◌, length, get_or, slice_get, Option, refl, sym, ◌∙◌, ap, subst, ◌⊎◌, inr, ⊎_elim, ◌+◌, ◌||◌, eqb, map, remove, replicate, inl, append-nil, zero, suc, ◌-◌, ◌≤◌, ltb, slice_set, Contains, is_none, arith, sum_by, mul-le-mul_left, ◌*◌, ◌%◌, take, length-append, ◌≢◌, ◌^◌, rules}
pub use Rattle.std.proofs.Math.Bool.{and-false}
pub use Rattle.std.proofs.lemmas.Bool.{true≢false, cases_Bool, eqb-true, eq-eqb, cases_eq, and_parts, and_from, eqb-false, ne_eqb, lt-ltb, ltb-true, le-ltb}
pub use Rattle.std.proofs.lemmas.List.{length-replicate, set-get_or, get_or-set_same, get_or-set_other, length-set}
pub use Rattle.std.proofs.lemmas.List.Sums.{get_or-le-sum_by, sum_by-remove, sum_by-append, sum_by-cons}
pub use Rattle.std.proofs.lemmas.Option.{none-some, same_Some, slice_get_within, get_or_from_slice_get, slice_get-get_or}
pub use Rattle.std.specs.Prelude.{IsTrue, IfSome, IfOk, IfErr, ◌↔◌, unwrap_or, slice_set}
pub use Rattle.cmh_graph.proofs.IndexLists.{by_index, length-by_index}
pub use Rattle.cmh_graph.proofs.Verdicts.{idle_within, by_test, one_verdict, verdict_true, asleep_is_idle, reaches_more}
pub use Rattle.cmh_graph.specs.Build.{IsWellFormed}
pub use Rattle.cmh_graph.specs.ChosenPath.{chosen_path, distance_of}
pub use Rattle.cmh_graph.specs.Graph.{Graph, process_count, is_awake, is_idle, IsWithinGraph, dependents_of, Depends, dependency_count, Process, nobody}
pub use Rattle.cmh_graph.specs.Path.{Reaches, Leads}
pub use Rattle.cmh_graph.specs.Verdict.{verdict, verdicts, IsDeadlocked, IsVerdict}
pub use Rattle.cmh_graph.specs.contracts.verdict.Verdict.{the_type}
pub use Rattle.cmh_graph.specs.declared.part.State.TheVariants.{Idle}
pub use Rattle.cmh_graph.specs.declared.verdict.Verdict.{Verdict}
pub use Rattle.cmh_graph.specs.declared.verdict.Verdict.TheVariants.{Deadlocked, Free}
pub use Rattle.cmh_process.specs.Process.{new_proc, start_action, engages, query_action, reply_action, proc_started, proc_engaged, engage_action, last_action, proc_queried, counts_reply, proc_replied, repeat_action}
pub use Rattle.cmh_process.specs.declared.message.Kind.{Kind}
pub use Rattle.cmh_process.specs.declared.message.Kind.TheVariants.{Query, Reply}
pub use Rattle.cmh_process.specs.declared.message.Message.{Message}
pub use Rattle.cmh_process.specs.declared.process.Action.{Action}
pub use Rattle.cmh_process.specs.declared.process.Action.TheVariants.{Nothing, Engage, ReplyTo, Declare}
pub use Rattle.cmh_process.specs.declared.process.Proc.{Proc}
pub use Rattle.cmh_run.specs.Check.{LeadTo, IsUndelivered, IsLegalRun, IsFlaw, IsFirstCheckFault}
pub use Rattle.cmh_run.specs.CheckState.{is_waiting, goes_like, UndeliveredState, CheckState, with_bag, Agrees, IsSettled, IsChecked, is_same_kind}
pub use Rattle.cmh_run.specs.Choices.{chosen_place, HasNoHints}
pub use Rattle.cmh_run.specs.Config.{proc_at, nothing_yet, start, Config, asks_hint, after_message, messages_of, after_hint, after_answer, without_message, after_delivery, reply, ending_after, after_step, after_engagement, query}
pub use Rattle.cmh_run.specs.Engaged.{AreEngaged}
pub use Rattle.cmh_run.specs.Last.{computation_log, renumber}
pub use Rattle.cmh_run.specs.Legal.{Going, Rule, going_at_start, going_from, after_due_restart, going_after, DeliveriesLead, IsRun, HintIsFit, any_place, EndsAs, MayCome, after_first_restart, after_restart, IsRight}
pub use Rattle.cmh_run.specs.Procs.{AreTouched}
pub use Rattle.cmh_run.specs.Progress.{RunState, IsUnderWay}
pub use Rattle.cmh_run.specs.Run.{Run, IsRunOf, IsRunAnswer}
pub use Rattle.cmh_run.specs.Script.{ScriptLine, AreTrueOf}
pub use Rattle.cmh_run.specs.Step.{IsStart, engage, engage_with_nothing, cut_free, reply_at_once, ignore_query, count_down, reply_to_engager, declare, ignore_reply, discard, IsStep, BecomesReady, go_on, start_again, IsRunOfSteps}
pub use Rattle.cmh_run.specs.declared.TheConstants.{MAX_RESTARTS}
pub use Rattle.cmh_run.specs.declared.delivery.Delivery.{Delivery}
pub use Rattle.cmh_run.specs.declared.delivery.Ending.{Ending}
pub use Rattle.cmh_run.specs.declared.delivery.Ending.TheVariants.{Declared, AtRest, CutFree}
pub use Rattle.cmh_run.specs.declared.fault.CheckFault.{CheckFault}
pub use Rattle.cmh_run.specs.declared.fault.CheckFault.TheVariants.{NotIdle, NotUndelivered, FalseHint, AfterEnd, NotEnded, Memory}
