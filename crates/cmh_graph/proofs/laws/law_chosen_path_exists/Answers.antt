use Rattle.cmh_graph.proofs.ChosenPathLemmas.{chosen_path_exists_law}
use Rattle.cmh_graph.proofs.laws.law_chosen_path_exists.Goals as goal

pub returns : goal.returns
returns c = chosen_path_exists_law
