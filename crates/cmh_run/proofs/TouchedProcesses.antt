-- Which processes may have heard of anything.
use Rattle.cmh_run.proofs.Common.{inl, inr, ◌≡◌, ◌≢◌, ◌∙◌, ℕ, ◌<◌, List, [], ◌∷◌, ◌++◌, length, arith, sym, replicate, slice_set, cases_eq, get_or-set_same, get_or-set_other, length-replicate, length-set, Proc, new_proc, proc_replied, proc_at, AreTouched, refl}
use Rattle.std.proofs.lemmas.List.{ext_get_or}
use Rattle.std.proofs.lemmas.List.Elements.{All-append, All-push, Contains-append_left, Contains-append_right, Contains-push, Contains-push_cases}
use Rattle.cmh_run.proofs.Configurations.{fresh_at}
use Rattle.cmh_run.specs.Procs.{AreFresh}

-- where all processes have heard of nothing, none of them has taken part
pub none_touched : (n : ℕ) → AreTouched [] [] (replicate n new_proc)
none_touched n = record {
  within = λ k d l. absurd (omega arith);
  engaged_within = λ k d l. absurd (omega arith);
  rest = λ k out out_engaged. fresh_at n k;
}

-- once process k has changed and is added to those that are engaged, no other than these has heard of anything
pub one_engaged : (others engaged more : List ℕ) (procs all : List Proc) (k : ℕ) (p : Proc)
    → AreTouched others engaged procs → procs ≡ all → more ≡ engaged ++ k ∷ [] → k < length all
    → AreTouched others more (slice_set procs k p)
one_engaged others engaged more procs all k p h view_is added l = rw added (record {
  within = rw (length-set procs k p) h.within;
  engaged_within = rw (length-set procs k p)
      (All-push (λ j. j < length procs) engaged k h.engaged_within (rw view_is l));
  rest = λ j out out_engaged.
      let other : j ≢ k = λ e. out_engaged (rw e (Contains-push engaged k)) in
      get_or-set_other procs k j p new_proc other
      ∙ h.rest j out (λ c. out_engaged (Contains-append_left engaged (k ∷ []) j c));
})

-- once process k has changed and is added to the others that took part, no other than these has heard of anything
pub one_touched : (others more engaged : List ℕ) (procs all : List Proc) (k : ℕ) (p : Proc)
    → AreTouched others engaged procs → procs ≡ all → more ≡ others ++ k ∷ [] → k < length all
    → AreTouched more engaged (slice_set procs k p)
one_touched others more engaged procs all k p h view_is added l = rw added (record {
  within = rw (length-set procs k p) (All-push (λ j. j < length procs) others k h.within (rw view_is l));
  engaged_within = rw (length-set procs k p) h.engaged_within;
  rest = λ j out out_engaged.
      let other : j ≢ k = λ e. out (rw e (Contains-push others k)) in
      get_or-set_other procs k j p new_proc other
      ∙ h.rest j (λ c. out (Contains-append_left others (k ∷ []) j c)) out_engaged;
})

-- those that are engaged may be counted among the others
pub none_engaged : (others engaged more : List ℕ) (procs : List Proc) → AreTouched others engaged procs
    → more ≡ others ++ engaged → AreTouched more [] procs
none_engaged others engaged more procs h moved = rw moved (record {
  within = All-append (λ j. j < length procs) others engaged h.within h.engaged_within;
  engaged_within = λ k d l. absurd (omega arith);
  rest = λ j out out_engaged. h.rest j
      (λ c. out (Contains-append_left others engaged j c))
      (λ c. out (Contains-append_right others engaged j c));
})

-- a reply to a process that has heard of nothing changes nothing
pub replied_in_vain : (others engaged : List ℕ) (procs : List Proc) (k number : ℕ) → AreTouched others engaged procs
    → k < length procs
    → AreTouched others engaged (slice_set procs k (proc_replied (proc_at procs k) number))
replied_in_vain others engaged procs k number h l = record {
  within = rw (length-set procs k (proc_replied (proc_at procs k) number)) h.within;
  engaged_within = rw (length-set procs k (proc_replied (proc_at procs k) number)) h.engaged_within;
  rest = λ j out out_engaged. elim (cases_eq j k) [
    | inl same ↦
        rw same (get_or-set_same procs k (proc_replied (proc_at procs k) number) new_proc l
        ∙ rw (rw same at (h.rest j out out_engaged)) refl)
    | inr other ↦ get_or-set_other procs k j (proc_replied (proc_at procs k) number) new_proc other
        ∙ h.rest j out out_engaged
  ];
}

-- one more process has become fresh
pub one_fresh : (done : List ℕ) (before after : List Proc) (k : ℕ) → AreFresh done before after → k < length after
    → AreFresh (done ++ k ∷ []) before (slice_set after k new_proc)
one_fresh done before after k h l j was = elim (cases_eq j k) [
  | inl same ↦ rw same (get_or-set_same after k new_proc new_proc l)
  | inr other ↦ get_or-set_other after k j new_proc new_proc other
      ∙ h j (λ out. was (λ c. elim (Contains-push_cases done k j c) [
        | inl earlier ↦ out earlier
        | inr last ↦ other (sym last)
      ]))
]

-- once all that took part have become fresh, no process has heard of anything
pub all_fresh : (others engaged : List ℕ) (procs between after : List Proc) → AreTouched others engaged procs
    → AreFresh engaged procs between → AreFresh others between after → length after ≡ length procs
    → after ≡ replicate (length procs) new_proc
all_fresh others engaged procs between after h first second size =
    ext_get_or new_proc after (replicate (length procs) new_proc)
    (size ∙ sym (length-replicate (length procs) new_proc))
    (λ k l. second k (λ out. first k (λ out_engaged. h.rest k out out_engaged)) ∙ sym (fresh_at (length procs) k))
