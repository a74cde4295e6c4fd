-- What the search for a bad process says of the faults of the processes by themselves.
use Rattle.std.proofs.Common.{◌≡◌, ℕ, ◌+◌, ◌≤◌, List, [], ◌∷◌, Bool, true, false, not, ◌&&◌, cond, Option, Some, None, map, length, refl, sym, ap, ◌∙◌}
use Rattle.std.specs.Prelude.{find, position, option_map}
use Rattle.std.specs.List.{list_all, position_from}
use Rattle.std.specs.Option.{option_or}
use Rattle.std.proofs.lemmas.Bool.{and_parts}
use Rattle.std.proofs.lemmas.Iterator.Adapters.{position_from-zero}
use Rattle.serde_json.specs.Data.{Data, null}
use Rattle.serde_json.specs.View.{view}
use Rattle.cmh_graph.specs.declared.TheConstants.{MAX_PROCESSES}
use Rattle.cmh_dump.specs.declared.entry.Entry as declared
use Rattle.cmh_dump.specs.declared.fault.DumpFault.{DumpFault}
use Rattle.cmh_dump.specs.declared.fault.DumpFault.TheVariants.{TooManyProcesses, BadProcess, UnknownDependent}
use Rattle.cmh_dump.specs.Dump.{holds, first_of, each, process_faults, name_faults, entry_faults, transit_faults}
use Rattle.cmh_dump.specs.Entry.{processes, is_process, entries, names}
use Rattle.cmh_dump.specs.Name.{is_name, is_among}
use Rattle.cmh_dump.specs.Places.{first_unknown}
use Rattle.cmh_dump.specs.Read.{entry_view, first_pair, waits_for_names, first_ill_named}
use Rattle.cmh_dump.specs.Tree.{text_of}
use Rattle.cmh_dump.proofs.FirstFault.Entries.{names_seen, unknown_dependents}
use Rattle.cmh_dump.proofs.FirstFault.Searches.{each_seen}
use Rattle.cmh_dump.proofs.FirstFault.Kinds.{first_later, alone, size_of, or_seen, within, none_among, none_after}
use Rattle.cmh_dump.proofs.FirstFault.Stages.{faults_from_entries, faults_from_names}
use Rattle.cmh_dump.proofs.FirstFault.Table.{neither}
use Rattle.cmh_dump.proofs.Keys.{among_passes}
use Rattle.cmh_dump.proofs.Pairs.{all_pass, neither_row, or_none}
use Rattle.cmh_dump.proofs.Trees.{all-map}

-- the first bad process stands where the search finds it
pub bad_processes : {V : Type 0} (view : V → Data) (d : Data) (vs : List V) → map view vs ≡ processes d
    → find (holds d) (each (processes d) BadProcess)
    ≡ option_map BadProcess (position (λ v. not (is_process (view v))) vs)
bad_processes view d vs e =
    each_seen (holds d) BadProcess view (λ p. not (is_process p)) vs (length (processes d))
    (size_of view vs (processes d) e)
    (λ k z h. ap (λ p. not (is_process p)) (or_seen view vs (processes d) k z null e h))

module _ {V : Type 0} (view : V → Data) (d : Data) (vs : List V) (seen : map view vs ≡ processes d) where
  -- what the search for a bad process answers
  abbrev bad_process : Option ℕ
  bad_process = position (λ v. not (is_process (view v))) vs

  -- where the processes are few enough, the kind of bad processes decides
  few_only : (r : Option DumpFault) → length vs ≤ MAX_PROCESSES
      → first_of (holds d) (each (processes d) BadProcess ∷ []) ≡ r
      → first_of (holds d) (process_faults d) ≡ r
  few_only r few later =
      first_later (holds d) (TooManyProcesses ∷ []) (each (processes d) BadProcess ∷ []) _ r
      (alone (holds d) TooManyProcesses false (within view vs (processes d) MAX_PROCESSES seen few)) refl later

  -- where the processes are few enough, the first bad one, if any, is the first fault of the processes
  pub processes_judged : (o : Option ℕ) → length vs ≤ MAX_PROCESSES → bad_process ≡ o
      → first_of (holds d) (process_faults d) ≡ option_map BadProcess o
  processes_judged o few h =
      few_only (option_map BadProcess o) few
      (ap (λ p. option_or p None) (bad_processes view d vs seen ∙ ap (option_map BadProcess) h)
      ∙ or_none (option_map BadProcess o))

-- ---- dependents that are known

-- where one test of each element follows from another, so it does of all
all_follow : {X : Type 0} (test other : X → Bool) (xs : List X) → ((x : X) → test x ≡ true → other x ≡ true)
    → list_all test xs ≡ true → list_all other xs ≡ true
all_follow test other [] f h = refl
all_follow test other (x ∷ xs) f h =
    let both = and_parts (test x) (list_all test xs) h in
    λ i. f x both.0 i && all_follow test other xs f both.1 i

-- where all dependents from an entry on are among names, all of them are names
known_named : (ns : List (List ℕ)) (i : ℕ) (es : List declared.Entry) → list_all is_name ns ≡ true
    → first_pair (λ e. first_unknown ns e.dependents.now) i es ≡ None
    → position_from (λ e. not (waits_for_names e)) i es ≡ None
known_named ns i [] h known = refl
known_named ns i (e ∷ es) h known =
    let rows = neither_row i (first_unknown ns e.dependents.now)
    (first_pair (λ e. first_unknown ns e.dependents.now) (i + 1) es) known in
    let among = all_pass (λ v. is_among ns (text_of (view v))) e.dependents.now rows.0 in
    let named : waits_for_names e ≡ true =
    all_follow (λ v. is_among ns (text_of (view v))) (λ v. is_name (text_of (view v))) e.dependents.now
    (λ v. among_passes is_name ns (text_of (view v)) h) among in
    ap (λ b. cond (not b) (Some i) (position_from (λ e. not (waits_for_names e)) (i + 1) es)) named
    ∙ known_named ns (i + 1) es h rows.1

-- where nothing is made of what may be there, nothing is there
not_there : {X Y : Type 0} (f : X → Y) (o : Option X) → option_map f o ≡ None → o ≡ None
not_there f None e = refl
not_there f (Some x) e = absurd cc

-- where processes have names and no fault of names, of entries or in transit holds, all their dependents are names
pub all_named : (d : Data) (es : List declared.Entry) → map entry_view es ≡ entries d
    → list_all (λ e. is_name (entry_view e).name) es ≡ true → first_of (holds d) (faults_from_names d) ≡ None
    → first_ill_named es ≡ None
all_named d es seen named none =
    let later = none_after (holds d) (name_faults d) (faults_from_entries d) none in
    let here = none_among (holds d) (entry_faults d) (transit_faults d) later in
    let known = (neither _ _ (neither _ _ here).1).0 in
    let are_names = sym (all-map is_name (λ e. (entry_view e).name) es ∙ ap (list_all is_name) (names_seen d es seen))
    ∙ named in
    position_from-zero (λ e. not (waits_for_names e)) es
    ∙ known_named (names d) 0 es are_names
    (not_there (λ p. UnknownDependent p.0 p.1) _ (sym (unknown_dependents d es seen (names d) refl) ∙ known))
