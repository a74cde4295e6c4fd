-- The texts of faults.
use Rattle.std.specs.Prelude.{ℕ, List, ◌++◌, codes}
use Rattle.std.specs.Fmt.{decimal}
use Rattle.cmh_board.specs.declared.fault.BoardFault.{BoardFault}
use Rattle.cmh_board.specs.declared.fault.BoardFault.TheVariants.{Busy, Memory}

-- what is printed of a fault
abbrev pub board_fault_text : BoardFault → List ℕ
board_fault_text (Busy found) = codes "busy at lock word " ++ decimal found
board_fault_text Memory = codes "out of memory"
