-- What a comparison by hand cites. All of src takes it from here. Declares nothing.
pub use Rattle.std.specs.Cmp.Lexicographic.{pointwise}
pub use Rattle.std.specs.Cmp.Rules.{comparing}
pub use Rattle.std.specs.Ordering.{on, eq_of_both}
pub use Rattle.std.proofs.Common.{rules}
pub use Rattle.cmh_graph.specs.contracts.verdict.VerdictEq.TheImpl.Laws.{laws-law as laws_of_verdict}
pub use Rattle.cmh_graph.specs.contracts.verdict.VerdictPartialEq.TheImpl.{ghosts as of_verdict}
pub use Rattle.cmh_process.specs.contracts.message.MessageEq.TheImpl.Laws.{laws-law as laws_of_message}
pub use Rattle.cmh_process.specs.contracts.message.MessagePartialEq.TheImpl.{ghosts as of_message}
pub use Rattle.cmh_run.specs.contracts.delivery.DeliveryEq.TheImpl.Laws.{laws-law as laws_of_delivery}
pub use Rattle.cmh_run.specs.contracts.delivery.DeliveryPartialEq.TheImpl.{ghosts as of_delivery}
pub use Rattle.cmh_run.specs.contracts.delivery.EndingEq.TheImpl.Laws.{laws-law as laws_of_ending}
pub use Rattle.cmh_run.specs.contracts.delivery.EndingPartialEq.TheImpl.{ghosts as of_ending}
