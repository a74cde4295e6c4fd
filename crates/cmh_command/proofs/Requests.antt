-- What the getters of `clap` and the kinds of its errors say of what the words ask for.
use Rattle.std.proofs.Common.{◌≡◌, ◌≢◌, ◌⊎◌, ◌∙◌, inl, inr, ℕ, ◌≤◌, ◌^◌, Bool, true, false, cond, List, [], ◌∷◌, Option, None, Some, option_map, refl, sym, ap, subst, Bor}
use Rattle.std.specs.Prelude.{MatchOption, unwrap_or, codes, find, is_some, ⊤}
use Rattle.std.specs.Global.{Box}
use Rattle.clap.specs.Words.{App, HasKind, HasMatchesOf, IsAmong, Row, Shape, Text, app_of, built, fault_of, first_of, first_value, has_subcommand, is_simple, is_simple_and_free, kind_of, rows_of, subcommand_of, subcommand_rows, subcommand_rows_of}
use Rattle.clap.specs.Simple.{argument_words, entered, label_of, names_of, rows_at}
use Rattle.clap.specs.Walk.{answers_to, stop_after}
use Rattle.clap.specs.declared.builder.command.Command.{Command}
use Rattle.clap.specs.declared.parser.matches.SubCommand.{SubCommand}
use Rattle.clap.specs.declared.error.Error.{Error}
use Rattle.clap.specs.declared.error.kind.ErrorKind.{ErrorKind}
use Rattle.clap.specs.declared.error.kind.ErrorKind.TheVariants.{OutOfMemory}
use Rattle.clap.specs.declared.parser.matches.ArgMatches.{ArgMatches}
use Rattle.clap.specs.declared.parser.matches.ArgMatches.TheViews.{out-ArgMatches}
use Rattle.clap.specs.declared.parser.matches.Found.{Found}
use Rattle.clap.proofs.WalkLemmas.{first_value-rows}
use Rattle.cmh_command.specs.List.{number_of}
use Rattle.cmh_command.specs.CommandLine.{HasBadWorkers, HasWorkers, IsCommand, HasCommand, IsOfKind, IsRequest, program}
use Rattle.cmh_command.specs.declared.request.Request.{Request}
use Rattle.cmh_command.specs.declared.request.TheConstants.{DEFAULT_WORKERS}

-- `clap` says all about the command line
pub is_free : is_simple_and_free program ≡ true
is_free = refl

is_plain : is_simple program ≡ true
is_plain = refl

-- what a getter gives is the option's value in the rows
pub value_is : (f : Found) (id : Text) (r : Option (Bor Text)) → option_map (λ s. s.now) r ≡ first_value f id
    → option_map (λ s. s.now) r ≡ first_of id (rows_of f)
value_is f id r e = e ∙ first_value-rows f id

-- where the empty text stands for none, what a getter gives is the option's text in the rows
pub text_is : (f : Found) (id : Text) (r : Option (Bor Text)) (d u : Bor Text)
    → option_map (λ s. s.now) r ≡ first_value f id → u ≡ unwrap_or r d → d.now ≡ []
    → u.now ≡ unwrap_or (first_of id (rows_of f)) []
text_is f id r d u e is empty =
    ap (λ (b : Bor Text). b.now) is ∙ by_value r ∙ ap (λ (o : Option Text). unwrap_or o []) (value_is f id r e)
  where
    by_value : (r : Option (Bor Text)) → (unwrap_or r d).now ≡ unwrap_or (option_map (λ (s : Bor Text). s.now) r) []
    by_value None = empty
    by_value (Some b) = refl

-- without the option `--workers` there are as many workers as by default
pub has_default : (f : Found) (r : Option (Bor Text)) → option_map (λ s. s.now) r ≡ first_value f (codes "workers")
    → r ≡ None → HasWorkers DEFAULT_WORKERS (rows_of f)
has_default f r e is =
    subst (λ (o : Option Text). MatchOption o (DEFAULT_WORKERS ≡ DEFAULT_WORKERS)
    (λ text. number_of text ≡ Some DEFAULT_WORKERS))
    (sym (ap (option_map (λ (s : Bor Text). s.now)) is) ∙ value_is f (codes "workers") r e) refl

-- with the option `--workers` there are as many workers as it writes
pub has_number : (f : Found) (r : Option (Bor Text)) (text : Bor Text) (m : Option ℕ) (n : ℕ)
    → option_map (λ s. s.now) r ≡ first_value f (codes "workers") → r ≡ Some text
    → m ≡ number_of text.now → m ≡ Some n → HasWorkers n (rows_of f)
has_number f r text m n e is reads some =
    subst (λ (o : Option Text). MatchOption o (n ≡ DEFAULT_WORKERS) (λ text. number_of text ≡ Some n))
    (sym (ap (option_map (λ (s : Bor Text). s.now)) is) ∙ value_is f (codes "workers") r e) (sym reads ∙ some)

-- what is written with the option `--workers` is bad where it is no number
pub has_none : (f : Found) (r : Option (Bor Text)) (text : Bor Text) (m : Option ℕ)
    → option_map (λ s. s.now) r ≡ first_value f (codes "workers") → r ≡ Some text
    → m ≡ number_of text.now → m ≡ None → HasBadWorkers (rows_of f)
has_none f r text m e is reads none = (
  text.now,
  sym (sym (ap (option_map (λ (s : Bor Text). s.now)) is) ∙ value_is f (codes "workers") r e),
  subst (λ (o : Option ℕ). MatchOption o ⊤ (λ n. 2 ^ 32 ≤ n)) (sym none ∙ reads) tt,
)

-- what is written with the option `--workers` is bad where it is too large a number
pub has_large : (f : Found) (r : Option (Bor Text)) (text : Bor Text) (m : Option ℕ) (n : ℕ)
    → option_map (λ s. s.now) r ≡ first_value f (codes "workers") → r ≡ Some text
    → m ≡ number_of text.now → m ≡ Some n → 2 ^ 32 ≤ n → HasBadWorkers (rows_of f)
has_large f r text m n e is reads some large = (
  text.now,
  sym (sym (ap (option_map (λ (s : Bor Text). s.now)) is) ∙ value_is f (codes "workers") r e),
  subst (λ (o : Option ℕ). MatchOption o ⊤ (λ n. 2 ^ 32 ≤ n)) (sym some ∙ reads) large,
)

-- a number of workers that was read is that of the options
pub some_workers : (rows : List Row) (r : Option ℕ) (n : ℕ)
    → MatchOption r (HasBadWorkers rows) (λ n. HasWorkers n rows) → r ≡ Some n → HasWorkers n rows
some_workers rows r n h is = subst (λ (o : Option ℕ). MatchOption o (HasBadWorkers rows) (λ n. HasWorkers n rows)) is h

-- an error other than out of memory has a kind of the words' own
kind_is : (e : Error) (kinds : List ErrorKind) → HasKind kinds e → kind_of e ≢ OutOfMemory
    → IsAmong (kind_of e) kinds
kind_is e kinds (inl memory) other = absurd (other memory)
kind_is e kinds (inr among) other = among

-- ---- the command that was entered

-- the shapes have the names of the two commands
abbrev AreNamed : List Shape → Type 0
AreNamed [] = ⊤
AreNamed (x ∷ xs) = ((x.name ≡ codes "analyse") ⊎ (x.name ≡ codes "trace")) × AreNamed xs

-- where the shapes have the names of the two commands, one of them that is found is a known command
find_known : (f : Shape → Bool) (xs : List Shape) (words : List Text) → AreNamed xs
    → (option_map (λ s. rows_at s words) (find f xs) ≡ None)
    ⊎ HasCommand (option_map (λ s. rows_at s words) (find f xs))
find_known f [] words h = inl refl
find_known f (x ∷ xs) words h = by_test (f x) (find_known f xs words h.1)
  where
    by_name : (x.name ≡ codes "analyse") ⊎ (x.name ≡ codes "trace") → HasCommand (Some (rows_at x words))
    by_name (inl e) = inl ((rows_at x words).1, ap (λ (n : Text). Some (n, (rows_at x words).1)) e, tt)
    by_name (inr e) = inr ((rows_at x words).1, ap (λ (n : Text). Some (n, (rows_at x words).1)) e, tt)

    by_test : (b : Bool)
        → (option_map (λ s. rows_at s words) (find f xs) ≡ None)
        ⊎ HasCommand (option_map (λ s. rows_at s words) (find f xs))
        → (option_map (λ s. rows_at s words) (cond b (Some x) (find f xs)) ≡ None)
        ⊎ HasCommand (option_map (λ s. rows_at s words) (cond b (Some x) (find f xs)))
    by_test true rest = inr (by_name h.0)
    by_test false rest = rest

-- where the walk stops at a command, it is known
known_entered : (stop : Option (Text × List Text))
    → (entered (built program) stop ≡ None) ⊎ HasCommand (entered (built program) stop)
known_entered None = inl refl
known_entered (Some p) =
    find_known (λ s. answers_to p.0 (label_of s)) (built program).subs p.1 (inl refl, (inr refl, tt))

-- what was entered by words that `clap` takes is what the words enter
rows_are : (c : Command) (words : List Text) (m : ArgMatches) → app_of c ≡ program → HasMatchesOf (app_of c) words m
    → subcommand_rows_of m ≡ subcommand_of program words
rows_are c words m app h = (h (ap is_simple app ∙ is_plain)).1 ∙ ap (λ (a : App). subcommand_of a words) app

-- a command that was entered by words that `clap` takes is one of the two commands
pub is_known : (c : Command) (words : List Text) (m : ArgMatches) → app_of c ≡ program → HasMatchesOf (app_of c) words m
    → has_subcommand m ≡ true → HasCommand (subcommand_rows_of m)
is_known c words m app h has =
    subst HasCommand (sym rows)
    (by_case
    (known_entered
    (stop_after (built program).top.rules (names_of (built program)) (argument_words program words))))
  where
    rows : subcommand_rows_of m ≡ subcommand_of program words
    rows = rows_are c words m app h

    some_rows : (o : Option (Box SubCommand)) → is_some (subcommand_rows o) ≡ is_some o
    some_rows None = refl
    some_rows (Some b) = refl

    by_case : (subcommand_of program words ≡ None) ⊎ HasCommand (subcommand_of program words)
        → HasCommand (subcommand_of program words)
    by_case (inl none) =
        let bad : ◌≡◌ {A = Bool} false true =
        ap is_some (sym (rows ∙ none)) ∙ some_rows (out-ArgMatches m).subcommand ∙ has in
        cc
    by_case (inr known) = known

-- ---- the words as a whole

-- the words enter a command without a fault
pub commanded : (c : Command) (words : List Text) (m : ArgMatches) (r : Request) → app_of c ≡ program
    → HasMatchesOf (app_of c) words m
    → (is_simple_and_free (app_of c) ≡ true → fault_of (app_of c) words ≡ []) → IsCommand (subcommand_rows_of m) r
    → IsRequest words r
commanded c words m r app h kinds asked = inl (
  ap (λ (a : App). fault_of a words) (sym app) ∙ kinds (ap is_simple_and_free app ∙ is_free),
  subst (λ (o : Option (Text × List Row)). IsCommand o r) (rows_are c words m app h) asked,
)

-- `clap` finds a fault in the words, or they ask for a text
pub answer_of_args : (c : Command) (words : List Text) (e : Error) (r : Request) → app_of c ≡ program
    → (is_simple_and_free (app_of c) ≡ true → HasKind (fault_of (app_of c) words) e) → kind_of e ≢ OutOfMemory
    → IsOfKind (kind_of e) r → IsRequest words r
answer_of_args c words e r app kinds other asked = inr (
  kind_of e,
  kind_is e (fault_of program words)
      (subst (λ (a : App). HasKind (fault_of a words) e) app (kinds (ap is_simple_and_free app ∙ is_free))) other,
  asked,
)
