-- The texts of faults.
use Rattle.std.specs.Prelude.{ℕ, List, ◌++◌, codes}
use Rattle.std.specs.Fmt.{decimal}
use Rattle.cmh_graph.specs.declared.fault.GraphFault.{GraphFault}
use Rattle.cmh_graph.specs.declared.fault.GraphFault.TheVariants.{TooManyProcesses, TooManyDependencies, DependentOutOfRange, RepeatedDependent, ActiveWithDependents, TooManyInTransit, TransitOutOfRange, Memory}

-- what is printed of a fault
abbrev pub graph_fault_text : GraphFault → List ℕ
graph_fault_text TooManyProcesses = codes "too many processes"
graph_fault_text TooManyDependencies = codes "too many dependencies"
graph_fault_text (DependentOutOfRange i j) =
    codes "dependent out of range " ++ decimal i ++ codes " " ++ decimal j
graph_fault_text (RepeatedDependent i j) =
    codes "repeated dependent " ++ decimal i ++ codes " " ++ decimal j
graph_fault_text (ActiveWithDependents i) = codes "active with dependents " ++ decimal i
graph_fault_text Memory = codes "out of memory"
graph_fault_text TooManyInTransit = codes "too many in transit"
graph_fault_text (TransitOutOfRange i) = codes "in transit out of range " ++ decimal i
