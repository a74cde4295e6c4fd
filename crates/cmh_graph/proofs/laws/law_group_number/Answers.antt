use Rattle.cmh_graph.proofs.Groups.{number_from_one, number_to_last, number_of_some, numbers_by_core, numbers_by_leader}
use Rattle.cmh_graph.proofs.laws.law_group_number.Goals as goal

pub returns-clause-from_one : goal.returns-clause-from_one
returns-clause-from_one c = number_from_one

pub returns-clause-to_last : goal.returns-clause-to_last
returns-clause-to_last c = number_to_last

pub returns-clause-none_left_out : goal.returns-clause-none_left_out
returns-clause-none_left_out c = number_of_some

pub returns-clause-one_core : goal.returns-clause-one_core
returns-clause-one_core c = numbers_by_core

pub returns-clause-in_order : goal.returns-clause-in_order
returns-clause-in_order c = numbers_by_leader
