-- A dump, from its length, its tree and what the tree stands for.
use Rattle.std.proofs.Common.{◌≡◌, ◌≢◌, ℕ, ◌<◌, ◌≤◌, List, length, cond, Option, Some, None, Result, Ok, Err, ap, ◌∙◌}
use Rattle.std.specs.Prelude.{IfErr}
use Rattle.std.specs.Option.{option_map_or}
use Rattle.std.proofs.lemmas.Bool.{lt-ltb, le-ltb}
use Rattle.serde_json.specs.Data.{Data}
use Rattle.cmh_dump.specs.declared.fault.DumpFault.{DumpFault}
use Rattle.cmh_dump.specs.declared.fault.DumpFault.TheVariants.{Memory, TooLong, NotJson}
use Rattle.cmh_graph.specs.Graph.{Graph}
use Rattle.cmh_dump.specs.declared.TheConstants.{MAX_BYTES}
use Rattle.cmh_dump.specs.Dump.{dump, dump_of_tree, tree_of}

-- what a tree means, where there is one
abbrev pub of_tree : Option Data → Result Graph DumpFault
of_tree tree = option_map_or dump_of_tree tree (Err NotJson)

-- too many bytes are refused as too long, whatever they are
pub too_long : (bytes : List ℕ) → MAX_BYTES < length bytes → dump bytes ≡ Err TooLong
unfolding dump
too_long bytes h = ap (λ b. cond b (Err TooLong) (of_tree (tree_of bytes))) (lt-ltb MAX_BYTES (length bytes) h)

-- the tree of bytes that are not too many decides what they mean
short : (bytes : List ℕ) → length bytes ≤ MAX_BYTES → dump bytes ≡ of_tree (tree_of bytes)
unfolding dump
short bytes h = ap (λ b. cond b (Err TooLong) (of_tree (tree_of bytes))) (le-ltb MAX_BYTES (length bytes) h)

-- bytes that are not too many and have no tree are no JSON
pub no_json : (bytes : List ℕ) → length bytes ≤ MAX_BYTES → tree_of bytes ≡ None → dump bytes ≡ Err NotJson
no_json bytes h e = short bytes h ∙ ap of_tree e

-- bytes that are not too many and have a tree mean what it means
pub of_the_tree : (bytes : List ℕ) (d : Data) (r : Result Graph DumpFault) → length bytes ≤ MAX_BYTES
    → tree_of bytes ≡ Some d → dump_of_tree d ≡ r → dump bytes ≡ r
of_the_tree bytes d r h e t = short bytes h ∙ ap of_tree e ∙ t

-- bytes that are not too many and have a tree are refused as it is, out of memory apart
pub err_of_the_tree : (bytes : List ℕ) (d : Data) (r : Result Graph DumpFault) → length bytes ≤ MAX_BYTES
    → tree_of bytes ≡ Some d → IfErr r (λ e. e ≢ Memory → dump_of_tree d ≡ Err e)
    → IfErr r (λ e. e ≢ Memory → dump bytes ≡ Err e)
err_of_the_tree bytes d (Ok g) h e t = tt
err_of_the_tree bytes d (Err f) h e t = λ not_memory. of_the_tree bytes d (Err f) h e (t not_memory)
