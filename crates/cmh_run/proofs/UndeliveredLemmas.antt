-- Sets of undelivered messages: one more, one fewer, and none.
use Rattle.cmh_run.proofs.Common.{◌≡◌, ℕ, Bool, true, false, not, ◌&&◌, ◌||◌, cond, eqb, List, [], ◌∷◌, length, refl, sym, ◌∙◌, eq-eqb, true≢false, ◌↔◌, Kind, Query, Reply, Message, UndeliveredState, is_waiting, is_same_kind, goes_like, by_test}
use Rattle.std.proofs.lemmas.List.{nil_from_length}
use Rattle.std.specs.Cmp.{tied_then, unsigned_tied}
use Rattle.std.specs.List.{list_any}
use Rattle.std.specs.Ordering.{nat_cmp}
use Rattle.std.specs.BTreeMap.{is_at}
use Rattle.cmh_run.specs.CheckState.{pair_cmp, of_kind}

-- two pairs compare as equal where both parts are tested to be equal
is_at_pair : (a b : ℕ × ℕ) → is_at (pair_cmp a) b ≡ (eqb a.0 b.0 && eqb a.1 b.1)
is_at_pair a b =
    sym (tied_then (nat_cmp a.0 b.0) (nat_cmp a.1 b.1)) ∙ rw (unsigned_tied a.0 b.0, unsigned_tied a.1 b.1) refl

-- a set in which k is now as b says, and all else is as before
abbrev Updated : List (ℕ × ℕ) → List (ℕ × ℕ) → ℕ × ℕ → Bool → Type 0
Updated old new k b =
    (q : ℕ × ℕ) → list_any (is_at (pair_cmp q)) new ≡ cond (is_at (pair_cmp k) q) b (list_any (is_at (pair_cmp q)) old)

-- the undelivered messages of this kind, and those of the other
abbrev both_kinds : Kind → List (ℕ × ℕ) → List (ℕ × ℕ) → UndeliveredState
both_kinds k these others = record { queries = of_kind k these others; replies = of_kind k others these }

module _ (k : Kind) (old new others : List (ℕ × ℕ)) (x : Message) (w : UndeliveredState)
    (view_is : both_kinds k old others ≡ w) (is : x.kind ≡ k) where
  -- once the set of a message's kind was updated, what goes like it waits as b says, and all else as before
  updated : (b : Bool) → Updated old new (x.from, x.to) b → (m : Message)
      → is_waiting (both_kinds k new others) m ≡ cond (goes_like x m) b (is_waiting w m)
  updated b h m = rw (← view_is) (rw is (by_kinds k m.kind))
    where
      same_kind : list_any (is_at (pair_cmp (m.from, m.to))) new
          ≡ cond (eqb x.from m.from && eqb x.to m.to) b (list_any (is_at (pair_cmp (m.from, m.to))) old)
      same_kind = rw (← is_at_pair (x.from, x.to) (m.from, m.to)) (h (m.from, m.to))

      by_kinds : (k l : Kind)
          → list_any (is_at (pair_cmp (m.from, m.to))) (of_kind l (of_kind k new others) (of_kind k others new))
          ≡ cond (is_same_kind k l && (eqb x.from m.from && eqb x.to m.to)) b
          (list_any (is_at (pair_cmp (m.from, m.to))) (of_kind l (of_kind k old others) (of_kind k others old)))
      by_kinds Query Query = same_kind
      by_kinds Query Reply = refl
      by_kinds Reply Query = refl
      by_kinds Reply Reply = same_kind

  -- once a message was added, those wait that waited before or go like it
  pub added : Updated old new (x.from, x.to) true → (m : Message)
      → is_waiting (both_kinds k new others) m ≡ (goes_like x m || is_waiting w m)
  added h m = updated true h m
      ∙ by_test (goes_like x m) (λ t. cond t true (is_waiting w m) ≡ (t || is_waiting w m)) (λ e. refl) (λ e. refl)

  -- once a message was taken, those wait that waited before and don't go like it
  pub taken : Updated old new (x.from, x.to) false → (m : Message)
      → is_waiting (both_kinds k new others) m ≡ (not (goes_like x m) && is_waiting w m)
  taken h m = updated false h m
      ∙ by_test (goes_like x m) (λ t. cond t false (is_waiting w m) ≡ (not t && is_waiting w m)) (λ e. refl) (λ e. refl)

-- a message of a kind between two processes
abbrev message : Kind → ℕ × ℕ → Message
message k e = record { kind = k; initiator = 0; number = 0; from = e.0; to = e.1 }

-- a set in which no ends are is empty
no_ends : (es : List (ℕ × ℕ)) → ((e : ℕ × ℕ) → list_any (is_at (pair_cmp (e.0, e.1))) es ≡ false) → length es ≡ 0
no_ends [] h = refl
no_ends (e ∷ es) h =
    let first : list_any (is_at (pair_cmp (e.0, e.1))) (e ∷ es) ≡ true =
    rw (is_at_pair (e.0, e.1) e, eq-eqb e.0 e.0 refl, eq-eqb e.1 e.1 refl) refl in
    absurd (true≢false (sym first ∙ h e))

-- both sets are empty just where no message is waiting
pub empty_means : (v w : UndeliveredState) → v ≡ w
    → (length v.queries ≡ 0) × (length v.replies ≡ 0) ↔ ((m : Message) → is_waiting w m ≡ false)
empty_means v w view_is =
    rw (← view_is) (
      λ none m. rw (nil_from_length v.queries none.0, nil_from_length v.replies none.1) (nowhere m m.kind),
      λ h. (no_ends v.queries (λ e. h (message Query e)), no_ends v.replies (λ e. h (message Reply e))),
    )
  where
    nowhere : (m : Message) (k : Kind) → list_any (is_at (pair_cmp (m.from, m.to))) (of_kind k [] []) ≡ false
    nowhere m Query = refl
    nowhere m Reply = refl
