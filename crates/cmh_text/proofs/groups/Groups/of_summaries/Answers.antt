use Rattle.std.proofs.Common.{◌∙◌, ap}
use Rattle.cmh_text.specs.Summary.{leaders_in}
use Rattle.cmh_text.proofs.Summaries.{leaders_told}
use Rattle.cmh_text.proofs.groups.Groups.of_summaries.Goals as goal

pub numbers_and_leaders-requires : goal.numbers_and_leaders-requires
numbers_and_leaders-requires c = ap leaders_in c.deref.ensures.value ∙ leaders_told c.args.graph.now _ c.requires

pub returns : goal.returns
returns c = record {
  well_formed = c.law_built_graph.ensures;
  summaries = c.requires;
  leaders = leaders_told c.args.graph.now _ c.requires;
  numbers = c.in_ok-numbers.ensures.numbers;
  list = c.in_ok-numbers.ensures.leaders;
}
