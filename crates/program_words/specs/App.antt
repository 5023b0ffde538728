-- The command that clap is given.
use Rattle.std.specs.Prelude.{Some, codes, true}
use Rattle.clap.specs.Simple.{on_top}
use Rattle.clap.specs.Words.{App, Rule, Text, new_app, new_rule, with_rule, with_subcommand}
use Rattle.clap.specs.declared.builder.ArgAction.TheVariants.{Set}

-- a word that has to be there
abbrev pub word_rule : Text → Rule
word_rule id = record (new_rule id) { required = true; action = Some Set }

-- `run STORE`
abbrev pub run_app : App
run_app = with_rule (new_app (codes "run")) (word_rule (codes "store"))

-- `load NUMBER BLOCKS STORE`
abbrev pub load_app : App
load_app = with_rule (with_rule (with_rule (new_app (codes "load")) (word_rule (codes "number"))) (word_rule (codes "blocks"))) (word_rule (codes "store"))

-- the program without its subcommands: it takes no name of itself, and has no help
abbrev pub bare : App
bare = on_top (λ s. record s { no_binary_name = true; disable_help_flag = true; disable_help_subcommand = true }) (new_app (codes "overlord"))

abbrev pub overlord : App
overlord = with_subcommand (with_subcommand bare run_app.top) load_app.top
