-- Which faults a dump has, and which of them is the first. Their order is that of the table.
use Rattle.std.specs.Prelude.{◌≡◌, ℕ, ◌<◌, ◌⊎◌, List, [], ◌∷◌, flat_map, length, Some, None, IsTrue}
use Rattle.std.specs.Option.{option_map_or}
use Rattle.serde_json.specs.Data.{Data}
use Rattle.cmh_dump.specs.declared.TheConstants.{MAX_BYTES}
use Rattle.cmh_dump.specs.declared.fault.DumpFault.{DumpFault}
use Rattle.cmh_dump.specs.declared.fault.DumpFault.TheVariants.{TooLong, NotJson}
use Rattle.cmh_dump.specs.Dump.{holds, in_order, tree_of}

-- x is the first of the list that is one of these
abbrev pub IsFirstIn : {X : Type 0} → List X → (X → Type 0) → X → Type 0
IsFirstIn [] These x = ⊥
IsFirstIn (y ∷ ys) These x = (These y × (x ≡ y)) ⊎ ((¬ (These y)) × IsFirstIn ys These x)

-- ---- a tree

-- the faults that a tree can have, in the order of the table
abbrev pub tree_faults : Data → List DumpFault
tree_faults d = flat_map (λ kind. kind) (in_order d)

-- the tree has the fault
abbrev pub TreeHas : Data → DumpFault → Type 0
TreeHas d fault = IsTrue (holds d fault)

-- ---- bytes

-- the faults that bytes can have, in order: those of their tree come last
abbrev pub bytes_faults : List ℕ → List DumpFault
bytes_faults bytes = TooLong ∷ NotJson ∷ option_map_or tree_faults (tree_of bytes) []

-- the bytes have the fault: they are too many, they are no tree, or their tree has it
abbrev pub BytesHave : List ℕ → DumpFault → Type 0
BytesHave bytes TooLong = MAX_BYTES < length bytes
BytesHave bytes NotJson = tree_of bytes ≡ None
BytesHave bytes fault = (d : Data) × (tree_of bytes ≡ Some d) × TreeHas d fault
