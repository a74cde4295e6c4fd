-- Which processes are written as they have to be, by what their members are read as.
use Rattle.std.proofs.Common.{◌≡◌, ℕ, List, [], ◌∷◌, Bool, true, false, ◌&&◌, ◌||◌, ◌==◌, cond, codes, length, map, Option, Some, None, refl, sym, ap, ◌∙◌, Bor}
use Rattle.std.specs.Prelude.{String, bytes_eq, is_some, option_map, string_bytes, unwrap_or}
use Rattle.std.specs.List.{list_all}
use Rattle.std.specs.Option.{option_map_or}
use Rattle.std.specs.Global.{Global}
use Rattle.std.specs.Set.{distinct_count}
use Rattle.std.proofs.lemmas.Bool.{eqb-true, false≢true, false_from_ne_true, and_parts, or_parts}
use Rattle.serde_json.specs.Data.{Data, null, Items}
use Rattle.serde_json.specs.Find.{get, as_array, as_object}
use Rattle.serde_json.specs.View.{items_of}
use Rattle.cmh_graph.specs.declared.part.State.{State}
use Rattle.cmh_graph.specs.declared.part.State.TheVariants.{Idle, Active}
use Rattle.cmh_dump.specs.Name.{is_name, is_among}
use Rattle.cmh_dump.specs.Tree.{text_of, list_of, elements_of, at_key, has_array, keys_of, has_keys}
use Rattle.cmh_dump.specs.Entry.{Entry, entry_of, has_state, has_dependents, is_process}
use Rattle.cmh_dump.specs.Read.{is_written, own_keys}
use Rattle.cmh_dump.proofs.Keys.{allowed_is, counted, is_allowed, map_keys, members_in}
use Rattle.cmh_dump.proofs.Trees.{list_of-items_of}

-- where three tests hold together, each does
three : (a b c : Bool) → (a && b && c) ≡ true → (a ≡ true) × (b ≡ true) × (c ≡ true)
three true true true h = (refl, refl, refl)
three a b c h = absurd (false≢true h)

-- where five tests hold together, each does
five : (a b c d e : Bool) → (a && b && c && d && e) ≡ true
    → (a ≡ true) × (b ≡ true) × (c ≡ true) × (d ≡ true) × (e ≡ true)
five true true true true true h = (refl, refl, refl, refl, refl)
five a b c d e h = absurd (false≢true h)

-- a name stands at a key that is there
named : (key : List ℕ) (d : Data) → is_name (text_of (at_key key d)) ≡ true → is_some (get key d) ≡ true
named key d h = by (get key d) h
  where
    by : (o : Option Data) → is_name (text_of (unwrap_or o null)) ≡ true → is_some o ≡ true
    by None h = absurd (false≢true h)
    by (Some m) h = refl

-- the keys that a process must have, and those that it may have
abbrev pub needed : List (List ℕ)
needed = codes "name" ∷ codes "site" ∷ codes "state" ∷ []

abbrev pub allowed : List (List ℕ)
allowed = codes "dependents" ∷ []

module _ (d : Data) where
  -- the text at a key
  abbrev at : List ℕ → List ℕ
  at key = text_of (at_key key d)

  -- the state is one of the two
  abbrev has_some_state : Bool
  has_some_state = has_state (codes "active") d || has_state (codes "idle") d

  -- each key is one that a process may have
  abbrev pub has_no_other : Bool
  has_no_other = list_all (λ k. is_among needed k || is_among allowed k) (option_map_or keys_of (as_object d) [])

  -- a state stands at a key that is there
  stated : has_some_state ≡ true → is_some (get (codes "state") d) ≡ true
  stated h = by (get (codes "state") d) h
    where
      by : (o : Option Data) → (bytes_eq (text_of (unwrap_or o null)) (codes "active")
          || bytes_eq (text_of (unwrap_or o null)) (codes "idle")) ≡ true → is_some o ≡ true
      by None h = absurd (false≢true h)
      by (Some m) h = refl

  -- the dependents are read where an array of them stands, or where none are there and none need be
  abbrev read_dependents : Option Data → Option (List Data)
  read_dependents o =
      cond (cond (is_some o) (is_some (as_array (unwrap_or o null))) (has_state (codes "active") d))
      (Some (elements_of (unwrap_or o null))) None

  -- the elements of an array as a list, where there is one
  abbrev listed : Option Items → Option (List Data)
  listed a = cond (is_some a) (Some (option_map_or list_of a [])) None

  -- what is read of the member at the key of the dependents
  pub array_read : {V : Type 0} (view : V → Data) (r : Option (Bor (List V))) (m : Data)
      → option_map (λ v. items_of (map view v.now)) r ≡ as_array m → Some m ≡ get (codes "dependents") d
      → option_map (λ v. map view v.now) r
      ≡ cond (has_dependents d) (Some (elements_of (at_key (codes "dependents") d))) None
  array_read {V = V} view r m h e = by r h ∙ ap read_dependents e
    where
      by : (o : Option (Bor (List V))) → option_map (λ v. items_of (map view v.now)) o ≡ as_array m
          → option_map (λ v. map view v.now) o ≡ listed (as_array m)
      by None h = ap listed h
      by (Some v) h = ap Some (sym (list_of-items_of (map view v.now))) ∙ ap listed h

  -- what is read of a process: none where it isn't written as it has to be
  abbrev answer : Option Entry
  answer = cond (is_written d) (Some (entry_of d)) None

  -- where it can't be written as it has to be, none is read
  refused : ¬ (is_written d ≡ true) → None ≡ answer
  refused n = sym (ap (λ b. cond b (Some (entry_of d)) None) (false_from_ne_true (is_written d) n))

  -- the parts of the test of a process
  parts : is_written d ≡ true → (has_keys needed allowed d ≡ true) × (is_name (at (codes "name")) ≡ true)
      × (is_name (at (codes "site")) ≡ true) × (has_some_state ≡ true) × (has_dependents d ≡ true)
  parts h =
      five (has_keys needed allowed d) (is_name (at (codes "name"))) (is_name (at (codes "site"))) has_some_state
      (has_dependents d) h

  -- the parts of the test of its keys
  key_parts : has_keys needed allowed d ≡ true → (is_some (as_object d) ≡ true)
      × (list_all (λ k. is_some (get k d)) needed ≡ true) × (has_no_other ≡ true)
  key_parts h = three (is_some (as_object d)) (list_all (λ k. is_some (get k d)) needed) has_no_other h

  -- without dependents, where it must have them, it is no process
  pub no_dependents : None ≡ cond (has_dependents d) (Some (elements_of (at_key (codes "dependents") d))) None
      → None ≡ answer
  no_dependents e = refused (λ h. by (has_dependents d) e (parts h).4)
    where
      by : (b : Bool) → None ≡ cond b (Some (elements_of (at_key (codes "dependents") d))) None → b ≡ true → ⊥
      by true e h = absurd cc
      by false e h = false≢true h

  -- where something that is written by name is no name, it is no process
  pub no_name : (names : Bool) → names ≡ (is_name (at (codes "name")) && is_name (at (codes "site")))
      → names ≡ false → None ≡ answer
  no_name names e f =
      refused (λ h. let p = parts h in
      false≢true (sym f ∙ e ∙ (λ i. p.1 i && p.2 i)))

  -- where it has another key, it is no process
  pub another_key : has_no_other ≡ false → None ≡ answer
  another_key f = refused (λ h. false≢true (sym f ∙ (key_parts (parts h).0).2))

  -- the state that is read is the one that is written
  state_is : (s : State) → Some s ≡ cond (has_state (codes "active") d) (Some Active)
      (cond (has_state (codes "idle") d) (Some Idle) None)
      → (has_some_state ≡ true) × (s ≡ (entry_of d).state)
  state_is s e = by (has_state (codes "active") d) (has_state (codes "idle") d) e
    where
      by : (a i : Bool) → Some s ≡ cond a (Some Active) (cond i (Some Idle) None)
          → ((a || i) ≡ true) × (s ≡ cond a Active Idle)
      by true i e = let same : s ≡ Active = cc in (refl, same)
      by false true e = let same : s ≡ Idle = cc in (refl, same)
      by false false e = absurd cc

  -- the dependents that are read are those that are written
  pub dependents_are : (ds : List Data)
      → Some ds ≡ cond (has_dependents d) (Some (elements_of (at_key (codes "dependents") d))) None
      → (has_dependents d ≡ true) × (ds ≡ elements_of (at_key (codes "dependents") d))
  dependents_are ds e = by (has_dependents d) e
    where
      by : (b : Bool) → Some ds ≡ cond b (Some (elements_of (at_key (codes "dependents") d))) None
          → (b ≡ true) × (ds ≡ elements_of (at_key (codes "dependents") d))
      by true e = let same : ds ≡ elements_of (at_key (codes "dependents") d) = cc in (refl, same)
      by false e = absurd cc

  -- where its names, its state and its dependents are read, all keys stand there that a process of the state must have
  own_found : (s : State) → Some s ≡ cond (has_state (codes "active") d) (Some Active)
      (cond (has_state (codes "idle") d) (Some Idle) None) → is_name (at (codes "name")) ≡ true
      → is_name (at (codes "site")) ≡ true → has_dependents d ≡ true
      → list_all (λ k. is_some (get k d)) (own_keys s) ≡ true
  own_found s state name site dep = by s state
    where
      first : is_some (get (codes "name") d) ≡ true
      first = named (codes "name") d name

      next : is_some (get (codes "site") d) ≡ true
      next = named (codes "site") d site

      third : is_some (get (codes "state") d) ≡ true
      third = stated (state_is s state).0

      fourth : (a b : Bool) → Some Idle ≡ cond a (Some Active) (cond (has_state (codes "idle") d) (Some Idle) None)
          → cond b (has_array (codes "dependents") d) a ≡ true → b ≡ true
      fourth true b e h = absurd cc
      fourth false true e h = refl
      fourth false false e h = absurd (false≢true h)

      by : (s : State) → Some s ≡ cond (has_state (codes "active") d) (Some Active)
          (cond (has_state (codes "idle") d) (Some Idle) None) → list_all (λ k. is_some (get k d)) (own_keys s) ≡ true
      by Active e = λ i. first i && (next i && (third i && true))
      by Idle e =
          let last = fourth (has_state (codes "active") d) (is_some (get (codes "dependents") d)) e dep in
          λ i. first i && (next i && (third i && (last i && true)))

  module _ {V : Type 0} (es : List (String Global × V)) (view : V → Data)
      (held : Some (members_in view es) ≡ as_object d) (s : State) (found : Bool)
      (is : found ≡ ((length es == length (own_keys s))
      || list_all (λ key. is_allowed needed allowed (string_bytes key)) (map_keys es))) where
    -- where the keys are neither as many nor all allowed, one stands there that isn't
    pub other_found : found ≡ false → has_no_other ≡ false
    other_found f =
        let others = (or_parts (length es == length (own_keys s)) _ (sym is ∙ f)).1 in
        sym (allowed_is needed allowed es view d _ refl held) ∙ others

    -- where all that it must have stand there, and the keys are as many or all allowed, no other stands there
    pub none_found : list_all (λ k. is_some (get k d)) (own_keys s) ≡ true → found ≡ true → has_no_other ≡ true
    none_found own t = by (length es == length (own_keys s)) refl (sym is ∙ t)
      where
        apart : (s : State) → distinct_count bytes_eq (own_keys s) ≡ length (own_keys s)
        apart Idle = refl
        apart Active = refl

        passed : (s : State) → list_all (is_allowed needed allowed) (own_keys s) ≡ true
        passed Idle = refl
        passed Active = refl

        by : (b : Bool) → (length es == length (own_keys s)) ≡ b
            → (b || list_all (λ key. is_allowed needed allowed (string_bytes key)) (map_keys es)) ≡ true
            → has_no_other ≡ true
        by true e h =
            counted (is_allowed needed allowed) (own_keys s) es view d held (apart s) (passed s) own
            (eqb-true (length es) (length (own_keys s)) e)
        by false e h = sym (allowed_is needed allowed es view d _ refl held) ∙ h

  -- what passes all tests is read as the process that is written
  pub accepted : (name site : List ℕ) (s : State) (ds : List Data) (names : Bool)
      → is_some (as_object d) ≡ true → name ≡ at (codes "name") → site ≡ at (codes "site")
      → Some s ≡ cond (has_state (codes "active") d) (Some Active) (cond (has_state (codes "idle") d) (Some Idle) None)
      → Some ds ≡ cond (has_dependents d) (Some (elements_of (at_key (codes "dependents") d))) None
      → names ≡ (is_name (at (codes "name")) && is_name (at (codes "site"))) → names ≡ true
      → (list_all (λ k. is_some (get k d)) (own_keys s) ≡ true → has_no_other ≡ true)
      → Some (record { name = name; site = site; state = s; dependents = map text_of ds }) ≡ answer
  accepted name site s ds names object n m state deps named_all t alone =
      let st = state_is s state in
      let dep = dependents_are ds deps in
      let both = and_parts (is_name (at (codes "name"))) (is_name (at (codes "site"))) (sym named_all ∙ t) in
      let first = named (codes "name") d both.0 in
      let second = named (codes "site") d both.1 in
      let third = stated st.0 in
      let only = alone (own_found s state both.0 both.1 dep.0) in
      let keys : has_keys needed allowed d ≡ true =
      λ i. object i && (first i && (second i && (third i && true))) && only i in
      let good : is_written d ≡ true = λ i. keys i && both.0 i && both.1 i && st.0 i && dep.0 i in
      (λ i. Some (record { name = n i; site = m i; state = st.1 i; dependents = map text_of (dep.1 i) }))
      ∙ sym (ap (λ b. cond b (Some (entry_of d)) None) good)

  -- where nothing is read, it is no process
  pub none_read : None ≡ answer → is_process d ≡ false
  none_read e = ap (λ b. b && list_all is_name (entry_of d).dependents) (by (is_written d) e)
    where
      by : (b : Bool) → None ≡ cond b (Some (entry_of d)) None → b ≡ false
      by true e = absurd cc
      by false e = refl

  -- where something is read, it is what is written, its name is one, and it is a process just where its dependents are
  -- names
  pub some_read : (e : Entry) → Some e ≡ answer
      → (is_process d ≡ list_all is_name e.dependents) × (e ≡ entry_of d) × (is_name e.name ≡ true)
  some_read e h =
      let read = by (is_written d) h in (
        (λ i. read.0 i && list_all is_name (sym read.1 i).dependents),
        read.1,
        ap (λ p. is_name p.name) read.1 ∙ (parts read.0).1,
      )
    where
      by : (b : Bool) → Some e ≡ cond b (Some (entry_of d)) None → (b ≡ true) × (e ≡ entry_of d)
      by true h = let same : e ≡ entry_of d = cc in (refl, same)
      by false h = absurd cc
