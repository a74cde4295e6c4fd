-- Words that many contracts of runs cite. All of src takes them from here. Declares nothing.
pub use Rattle.std.specs.List.Sorted.{IsStrictlyIncreasing}
pub use Rattle.cmh_graph.specs.Build.{IsWellFormed}
pub use Rattle.cmh_graph.specs.Graph.{Graph, process_count, is_idle, is_awake, dependency_count}
pub use Rattle.cmh_graph.specs.Verdict.{IsDeadlocked, verdicts}
pub use Rattle.cmh_graph.specs.declared.verdict.Verdict.{Verdict}
pub use Rattle.cmh_process.specs.declared.message.Message.{Message}
pub use Rattle.cmh_run.specs.Asking.{asks_at, AskedAt, AsksOn, AsksOnInPart}
pub use Rattle.cmh_run.specs.Asks.{Ask, asks_of, AskedInPart}
pub use Rattle.cmh_run.specs.Check.{IsLegalRun, IsFirstCheckFault, HasEnded, IsFlaw}
pub use Rattle.cmh_run.specs.CheckState.{CheckState, is_waiting, goes_like, Agrees, IsChecked, IsSettled}
pub use Rattle.cmh_run.specs.Choices.{HasNoHints, chosen_place}
pub use Rattle.cmh_run.specs.Config.{Config, start, after_delivery, without_message, asks_hint, proc_at, blank_config, nothing_yet, after_action, after_engagement, after_hint, after_message, query}
pub use Rattle.cmh_run.specs.Engaged.{AreEngaged, IsEmptyRun}
pub use Rattle.cmh_run.specs.Last.{LastIsRun}
pub use Rattle.cmh_run.specs.Legal.{Going, HintIsFit, EndsAs, IsRun, OfEveryRun, Rule, IsRight, IsBetween, MayCome, going_at_start}
pub use Rattle.cmh_run.specs.Progress.{MayAct, MayReceive, MayStart, RunState, IsUnderWay, IsAtEnd, IsNextChoice, IsRunState}
pub use Rattle.cmh_run.specs.Run.{IsRunOf, Run, IsAccepted, IsFirstRunFault, IsRunFault, IsRunAnswer}
pub use Rattle.cmh_run.specs.Step.{IsStart, IsStep, IsRunOfSteps}
pub use Rattle.cmh_run.specs.declared.delivery.Delivery.{Delivery}
pub use Rattle.cmh_run.specs.declared.delivery.Ending.{Ending}
pub use Rattle.cmh_run.specs.declared.delivery.Ending.TheVariants.{Declared}
pub use Rattle.cmh_run.specs.declared.fault.CheckFault.{CheckFault}
