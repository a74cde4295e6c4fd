-- The parts of a dump's tree: sites, processes as they are written, messages in transit.
use Rattle.std.specs.Prelude.{ℕ, ◌&&◌, ◌||◌, ◌==◌, List, [], ◌∷◌, length, map, slice_index_or, Bool, false, codes, bytes_eq, if◌then◌else◌, is_some, option_and_then}
use Rattle.std.specs.List.{list_all}
use Rattle.std.specs.Option.{option_map_or}
use Rattle.serde_json.specs.Data.{Data, null}
use Rattle.serde_json.specs.Find.{get, as_number, as_u64, as_str}
use Rattle.cmh_graph.specs.declared.part.State.{State}
use Rattle.cmh_graph.specs.declared.part.State.TheVariants.{Idle, Active}
use Rattle.cmh_dump.specs.Name.{is_name}
use Rattle.cmh_dump.specs.Tree.{text_of, texts_of, elements_of, at_key, has_array, has_keys}

-- the tree has this version: a number, as `as_u64` answers it
abbrev pub is_version : ℕ → Data → Bool
is_version n d =
    option_map_or (λ m. m == n) (option_and_then as_u64 (as_number (at_key (codes "version") d))) false

-- the names of the sites
abbrev pub sites : Data → List (List ℕ)
sites d = texts_of (at_key (codes "sites") d)

-- the processes as trees
abbrev pub processes : Data → List Data
processes d = elements_of (at_key (codes "processes") d)

-- the messages in transit as trees
abbrev pub transits : Data → List Data
transits d = elements_of (at_key (codes "in_transit") d)

-- ---- a process

-- a process is written with this state
abbrev pub has_state : List ℕ → Data → Bool
has_state word p = bytes_eq (text_of (at_key (codes "state") p)) word

-- a process as it is written: all by names
pub record Entry : Type 0 where
  pub name : List ℕ
  pub site : List ℕ
  pub state : State
  pub dependents : List (List ℕ)

-- what a process is written as; a state that is not `active` reads as idle
abbrev pub entry_of : Data → Entry
entry_of p = record {
  name = text_of (at_key (codes "name") p);
  site = text_of (at_key (codes "site") p);
  state = if has_state (codes "active") p then Active else Idle;
  dependents = texts_of (at_key (codes "dependents") p);
}

-- the processes as they are written
abbrev pub entries : Data → List Entry
entries d = map entry_of (processes d)

-- process i as it is written; past the end stands an idle one without a name
abbrev pub entry : Data → ℕ → Entry
entry d i = entry_of (slice_index_or (processes d) i null)

-- the names of the processes
abbrev pub names : Data → List (List ℕ)
names d = map (λ e. e.name) (entries d)

-- the dependents of a process are an array; an active one may leave them out
abbrev pub has_dependents : Data → Bool
has_dependents p =
    if is_some (get (codes "dependents") p) then has_array (codes "dependents") p
    else has_state (codes "active") p

-- a process as it has to be written, whatever the others are
abbrev pub is_process : Data → Bool
is_process p =
    has_keys (codes "name" ∷ codes "site" ∷ codes "state" ∷ []) (codes "dependents" ∷ []) p
    && is_name (entry_of p).name && is_name (entry_of p).site
    && (has_state (codes "active") p || has_state (codes "idle") p)
    && has_dependents p && list_all is_name (entry_of p).dependents

-- ---- a message in transit

-- an array of exactly two texts
abbrev pub is_pair : Data → Bool
is_pair t = (length (elements_of t) == 2) && list_all (λ x. is_some (as_str x)) (elements_of t)
