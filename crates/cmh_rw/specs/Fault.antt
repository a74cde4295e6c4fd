-- The texts of faults.
use Rattle.std.specs.Prelude.{ℕ, List, codes}
use Rattle.cmh_rw.specs.declared.fault.RwFault.{RwFault}
use Rattle.cmh_rw.specs.declared.fault.RwFault.TheVariants.{BadSeats, Memory}

-- what is printed of a fault
abbrev pub rw_fault_text : RwFault → List ℕ
rw_fault_text BadSeats = codes "bad number of seats"
rw_fault_text Memory = codes "out of memory"
