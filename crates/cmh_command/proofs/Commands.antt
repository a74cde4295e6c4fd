-- What the builders of `clap` make of a command.
use Rattle.std.proofs.Common.{◌≡◌, ◌∙◌, false, ◌||◌}
use Rattle.clap.specs.Words.{AddsArg, AddsSubcommand, App, Rule, app_of, rule_of, with_rule, with_subcommand}
use Rattle.clap.specs.declared.builder.arg.Arg.{Arg}
use Rattle.clap.specs.declared.builder.command.Command.{Command}
use Rattle.clap.specs.declared.builder.command.Command.TheViews.{out-Command}

-- an argument that is not global adds its rule to those of the command
pub with_argument : (app : App) (rule : Rule) (old new : Command) (arg : Arg) → AddsArg old arg new → app_of old ≡ app
    → rule_of arg ≡ rule → arg.global ≡ false → app_of new ≡ with_rule app rule
with_argument app rule old new arg adds was is local = adds.shape local ∙ (λ i. with_rule (was i) (is i))

-- a command without global arguments has none with one more that is not global
pub argument_local : (old new : Command) (arg : Arg) → AddsArg old arg new → (out-Command old).has_globals ≡ false
    → arg.global ≡ false → (out-Command new).has_globals ≡ false
argument_local old new arg adds was local = adds.globals ∙ (λ i. was i || local i)

-- a subcommand without global arguments adds its shape to those of the command
pub with_command : (app under : App) (old sub new : Command) → AddsSubcommand old sub new → app_of old ≡ app
    → app_of sub ≡ under → (out-Command sub).has_globals ≡ false → app_of new ≡ with_subcommand app under.top
with_command app under old sub new adds was is local = adds.shape local ∙ (λ i. with_subcommand (was i) (is i).top)

-- a command without global arguments has none with a subcommand more that has none
pub command_local : (old sub new : Command) → AddsSubcommand old sub new → (out-Command old).has_globals ≡ false
    → (out-Command sub).has_globals ≡ false → (out-Command new).has_globals ≡ false
command_local old sub new adds was local = adds.globals ∙ (λ i. was i || local i)
