-- The close: each posting of the history is that of one record's run.
use Rattle.std.proofs.Common.{◌≡◌, zero, suc, Bool, true, false, cond, eqb, eq-eqb, List, [], ◌∷◌, ◌++◌, append_assoc, drop, get_or, Option, Some, None, sym, refl, ap, ◌∙◌, subst, arith}
use Rattle.std.specs.Prelude.{Contains}
use Rattle.std.specs.List.Sorted.{IsPermutation}
use Rattle.std.proofs.lemmas.List.Sorted.{Contains-permutation}
use Rattle.cmh_graph.specs.Graph.{Graph}
use Rattle.cmh_graph.specs.declared.verdict.Verdict.{Verdict}
use Rattle.cmh_run.specs.Run.{Run}
use Rattle.cmh_rw.specs.declared.row.Row.{Row}
use Rattle.cmh_rw.specs.History.{IsPosting, ArePostings, IsTrueOf, fold_at, rows_in}
use Rattle.cmh_work.specs.declared.finding.Finding.{Finding}
use Rattle.cmh_work.specs.declared.record.Record.{Record}
use Rattle.cmh_work.specs.declared.record.Origin.TheVariants.{FromRun}
use Rattle.cmh_work.specs.Analysis.{AreOfRecords}
use Rattle.cmh_work.specs.Record.{IsPostedBy}
use Rattle.cmh_work.specs.Finding.{IsExplained, AreExplained}
use Rattle.cmh_work.specs.Numbering.{AreNumbered, IsNamed}

-- ---- one place

-- two equal lists of rows have the same first row
cons_first : (x y : Row) (xs ys : List Row) → x ∷ xs ≡ y ∷ ys → x ≡ y
cons_first x y xs ys e = ap (λ l. get_or l 0 x) e

-- two equal lists of rows have the same rest
cons_rest : (x y : Row) (xs ys : List Row) → x ∷ xs ≡ y ∷ ys → xs ≡ ys
cons_rest x y xs ys e = ap (λ l. drop 1 l) e

-- what begins with something, or else says something, says something
said_by : (b : Bool) (v : Verdict) (rest : Option Verdict) → (rest ≡ None → ⊥) → cond b (Some v) rest ≡ None → ⊥
said_by true v rest f e = cc
said_by false v rest f e = f e

-- a row that stands among the rows says something of its process
said_of : (x : Row) (a c : List Row) → fold_at (a ++ x ∷ c) x.process ≡ None → ⊥
said_of x [] c e =
    let says : Some x.verdict ≡ None =
    sym (ap (λ b. cond b (Some x.verdict) (fold_at c x.process)) (eq-eqb x.process x.process refl)) ∙ e in
    cc
said_of x (r ∷ rs) c e =
    said_by (eqb r.process x.process) r.verdict (fold_at (rs ++ x ∷ c) x.process) (said_of x rs c) e

-- in rows in which no process stands twice a row has one place
one_place : (g : Graph) (a b : List Row) (x : Row) (c d : List Row) → IsTrueOf g (a ++ x ∷ c) → a ++ x ∷ c ≡ b ++ x ∷ d
    → a ≡ b
one_place g [] [] x c d once e = refl
one_place g [] (y ∷ ys) x c d once e =
    let rest = cons_rest x y c (ys ++ x ∷ d) e in
    absurd (said_of x ys d (sym (ap (λ l. fold_at l x.process) rest) ∙ once.2))
one_place g (y ∷ ys) [] x c d once e =
    let rest = cons_rest y x (ys ++ x ∷ c) d e in
    let first = cons_first y x (ys ++ x ∷ c) d e in
    absurd (said_of x ys c (sym (ap (λ r. fold_at (ys ++ x ∷ c) r.process) first) ∙ once.2))
one_place g (y ∷ ys) (z ∷ zs) x c d once e =
    let rest = one_place g ys zs x c d once.3 (cons_rest y z (ys ++ x ∷ c) (zs ++ x ∷ d) e) in
    let first = cons_first y z (ys ++ x ∷ c) (zs ++ x ∷ d) e in
    λ k. first k ∷ rest k

-- a posting has a first row
posting_first : (m : List Row) → IsPosting m → (x : Row) × (rest : List Row) × (m ≡ x ∷ rest)
posting_first m ([], r, is, front, last) = (r, [], is)
posting_first m (b ∷ bs, r, is, front, last) = (b, bs ++ r ∷ [], is)

-- a posting has one place in a history
posting_place : (g : Graph) (a b m c d : List Row) → IsPosting m → IsTrueOf g (a ++ (m ++ c))
    → a ++ (m ++ c) ≡ b ++ (m ++ d) → a ≡ b
posting_place g a b m c d posting once e =
    let (x, rest, is) = posting_first m posting in
    one_place g a b x (rest ++ c) (rest ++ d) (subst (λ l. IsTrueOf g (a ++ (l ++ c))) is once)
    (sym (ap (λ l. a ++ (l ++ c)) is) ∙ e ∙ ap (λ l. b ++ (l ++ d)) is)

-- ---- each posting

-- postings that are explained one by one are explained by those that the history is made of
pub each_explained : {L : Type 0} (rows : List Row) (found : List (Finding Run L)) (mine postings : List (List Row))
    → AreExplained rows found mine → ((m : List Row) → Contains postings m → Contains mine m)
    → AreExplained rows found postings
each_explained rows found mine [] e in_mine = tt
each_explained rows found mine (m ∷ ms) e in_mine =
    (pick mine e (in_mine m (0, omega arith, refl)), each_explained rows found mine ms e (λ n c. in_mine n (later c)))
  where
    later : {n : List Row} → Contains ms n → Contains (m ∷ ms) n
    later (k, low, at) = (suc k, omega arith, at)

    pick : (ns : List (List Row)) → AreExplained rows found ns → Contains ns m → IsExplained rows found m
    pick [] e (k, low, at) = absurd (omega arith)
    pick (n ∷ ns) e (zero, low, at) = subst (IsExplained rows found) at e.0
    pick (n ∷ ns) e (suc k, low, at) = pick ns e.1 (k, omega arith, at)

-- the record of a finding with a run has that run
record_of : {L : Type 0} (rows : List Row) (fs : List (Finding Run L)) (rs : List (Record Run L)) (f : Finding Run L)
    (run : Run) → AreNumbered rows fs rs → Contains fs f → f.run ≡ Some run
    → (r : Record Run L) × Contains rs r × (r.source ≡ FromRun run)
record_of rows [] rs f run h (k, low, at) is = absurd (omega arith)
record_of rows (x ∷ xs) [] f run h there is = absurd h
record_of rows (x ∷ xs) (y ∷ ys) f run h (zero, low, at) is = (
  y,
  (0, omega arith, refl),
  subst (λ o. IsNamed rows x.initiator x.verdict o y.source) (ap (λ z. z.run) at ∙ is) h.0.source,
)
record_of rows (x ∷ xs) (y ∷ ys) f run h (suc k, low, at) is =
    let (r, (n, within, here), ran) = record_of rows xs ys f run h.1 (k, omega arith, at) is in
    (r, (suc n, omega arith, here), ran)

-- explained postings of a history, laid end to end, are of records' runs, with what stands before each
pub postings_of_records : {L : Type 0} (g : Graph) (rows : List Row) (found : List (Finding Run L))
    (records : List (Record Run L)) (before : List Row) (postings : List (List Row)) → IsTrueOf g rows
    → rows ≡ before ++ rows_in postings → ArePostings postings → AreExplained rows found postings
    → AreNumbered rows found records → AreOfRecords records before postings
postings_of_records g rows found records before [] true_of e whole explained n = tt
postings_of_records g rows found records before (m ∷ ms) true_of e whole explained n =
    let (f, there, run, is, from) = explained.0 in
    let other : rows ≡ from.before ++ (m ++ from.place.0) = from.place.1 ∙ append_assoc from.before m from.place.0 in
    let same : before ≡ from.before =
    posting_place g before from.before m (rows_in ms) from.place.0 whole.0 (subst (IsTrueOf g) e true_of)
    (sym e ∙ other) in
    let (r, in_records, ran) = record_of rows found records f run n there is in (
      (r, in_records, run, ran, subst (λ b. IsPostedBy b m run) (sym same) from.posted),
      postings_of_records g rows found records (before ++ m) ms true_of
          (e ∙ sym (append_assoc before m (rows_in ms))) whole.1 explained.1 n,
    )

-- postings that findings explain are explained by them in any order
pub explained_permuted : {L : Type 0} (rows : List Row) (found sorted : List (Finding Run L))
    (postings : List (List Row)) → IsPermutation found sorted → AreExplained rows found postings
    → AreExplained rows sorted postings
explained_permuted rows found sorted [] p e = tt
explained_permuted rows found sorted (m ∷ ms) p e =
    let (f, there, run, is, from) = e.0 in
    ((f, Contains-permutation found sorted f p there, run, is, from), explained_permuted rows found sorted ms p e.1)
