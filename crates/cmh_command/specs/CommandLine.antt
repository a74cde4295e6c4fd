-- The command line: its rules, as `clap` takes them, and what it then asks for.
use Rattle.std.specs.Prelude.{◌≡◌, ◌⊎◌, ◌≤◌, ◌^◌, ℕ, List, [], Option, Some, MatchOption, option_map, unwrap_or, codes, pos, true, ⊤}
use Rattle.clap.specs.Words.{App, IsAmong, Row, Rule, Text, fault_of, first_of, new_app, new_rule, subcommand_of, with_rule, with_subcommand}
use Rattle.clap.specs.declared.error.kind.ErrorKind.{ErrorKind}
use Rattle.clap.specs.declared.error.kind.ErrorKind.TheVariants.{DisplayHelp, DisplayVersion}
use Rattle.clap.specs.declared.builder.value_parser.ValueParser.TheVariants as parser
use Rattle.cmh_plan.specs.declared.TheConstants.{MAX_WORKERS}
use Rattle.cmh_command.specs.List.{number_of}
use Rattle.cmh_command.specs.declared.request.Request.{Request}
use Rattle.cmh_command.specs.declared.request.Request.TheVariants.{Analyse, Trace, Show, Refused}
use Rattle.cmh_command.specs.declared.request.TheConstants.{DEFAULT_WORKERS}

-- ---- the rules

-- an option of this name that takes one value
abbrev pub option_rule : Text → Rule
option_rule name = record (new_rule name) { long = Some name; value_names = 1 }

-- the command `analyse` with its options, of which `--workers` takes a number from 1 to `MAX_WORKERS`
abbrev pub analyse_app : App
analyse_app = with_rule (with_rule (with_rule (new_app (codes "analyse"))
    (record (option_rule (codes "workers")) { parser = Some (parser.Signed (pos 1) (pos MAX_WORKERS)) }))
    (option_rule (codes "cuts"))) (option_rule (codes "choices"))

-- the command `trace` with the name of a process, which has to be given, and its option
abbrev pub trace_app : App
trace_app = with_rule (with_rule (new_app (codes "trace"))
    (record (new_rule (codes "NAME")) { required = true })) (option_rule (codes "choices"))

-- the command line without its commands
abbrev pub top_app : App
top_app = record (new_app (codes "cmh")) {
  top = record (new_app (codes "cmh")).top {
    has_version = true;
    subcommand_required = true;
    disable_help_subcommand = true;
  };
}

-- the whole command line
abbrev pub program : App
program = with_subcommand (with_subcommand top_app analyse_app.top) trace_app.top

-- ---- what a command line asks for

-- the number of workers is written as in a list, and fits; without the option it is the default
abbrev pub HasWorkers : ℕ → List Row → Type 0
HasWorkers n options = MatchOption (first_of (codes "workers") options) (n ≡ DEFAULT_WORKERS)
    (λ text. number_of text ≡ Some n)

-- the number of workers is written as no number, or as too large a one
abbrev pub HasBadWorkers : List Row → Type 0
HasBadWorkers options = (text : Text) × (first_of (codes "workers") options ≡ Some text)
    × MatchOption (number_of text) ⊤ (λ n. 2 ^ 32 ≤ n)

-- what is asked for by the command `analyse` with these options: workers, cuts and choices are theirs, and choices that
-- aren't given are the empty text
abbrev pub IsAnalysis : List Row → Request → Type 0
IsAnalysis options (Analyse plan) = HasWorkers plan.workers options
    × (option_map (λ text. text.now) plan.cuts ≡ first_of (codes "cuts") options)
    × (plan.choices.now ≡ unwrap_or (first_of (codes "choices") options) [])
IsAnalysis options (Refused text) = HasBadWorkers options
IsAnalysis options request = ⊥

-- what is asked for by the command `trace` with these options: name and choices are theirs, and one that isn't given is
-- the empty text
abbrev pub IsTracing : List Row → Request → Type 0
IsTracing options (Trace name choices) = (name.now ≡ unwrap_or (first_of (codes "NAME") options) [])
    × (choices.now ≡ unwrap_or (first_of (codes "choices") options) [])
IsTracing options request = ⊥

-- the command of that name was entered, and the fact holds of its options
abbrev pub Enters : Text → (List Row → Type 0) → Option (Text × List Row) → Type 0
Enters name Holds entered =
    (options : List Row) × (entered ≡ Some (name, options)) × Holds options

-- what is asked for by the command that was entered
abbrev pub IsCommand : Option (Text × List Row) → Request → Type 0
IsCommand entered request = Enters (codes "analyse") (λ options. IsAnalysis options request) entered
    ⊎ Enters (codes "trace") (λ options. IsTracing options request) entered

-- one of the commands was entered
abbrev pub HasCommand : Option (Text × List Row) → Type 0
HasCommand entered = Enters (codes "analyse") (λ options. ⊤) entered ⊎ Enters (codes "trace") (λ options. ⊤) entered

-- what is asked for where `clap` answers with an error of this kind: the text of the help or of the version, and else
-- nothing
abbrev pub IsOfKind : ErrorKind → Request → Type 0
IsOfKind kind (Show text) = (kind ≡ DisplayHelp) ⊎ (kind ≡ DisplayVersion)
IsOfKind kind (Refused text) = ¬ ((kind ≡ DisplayHelp) ⊎ (kind ≡ DisplayVersion))
IsOfKind kind request = ⊥

-- This is what the arguments ask for: a command where `clap` finds no fault in them, and else a text or nothing, by the
-- kind of some fault that it finds.
abbrev pub IsRequest : List Text → Request → Type 0
IsRequest args request =
    ((fault_of program args ≡ []) × IsCommand (subcommand_of program args) request)
    ⊎ ((kind : ErrorKind) × IsAmong kind (fault_of program args) × IsOfKind kind request)
