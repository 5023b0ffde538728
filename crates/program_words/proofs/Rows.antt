-- The subcommand's name and rows.
use Rattle.std.proofs.Common.{◌≡◌, List, None, Option, Some, ap, codes, option_map, refl}
use Rattle.std.specs.Prelude.{Box}
use Rattle.std.specs.Box.{box_value}
use Rattle.clap.specs.Words.{Row, Text, first_of, subcommand_name_of, subcommand_rows, subcommand_rows_of}
use Rattle.clap.specs.declared.parser.matches.ArgMatches.{ArgMatches}
use Rattle.clap.specs.declared.parser.matches.ArgMatches.TheViews.{out-ArgMatches, out-SubCommand}
use Rattle.clap.specs.declared.parser.matches.SubCommand.{SubCommand}
use Rattle.program_words.specs.Forms.{given_by, load_by, load_in, named}

both : {Z : Type 0} (o : Option (Box SubCommand Z)) (name : Text) (rows : List Row) → Some name ≡ option_map (λ b. (out-SubCommand (box_value b)).name.now) o → Some rows ≡ option_map (λ p. p.1) (subcommand_rows o)
    → subcommand_rows o ≡ Some (name, rows)
both None name rows h k = cc
both (Some b) name rows h k = cc

pub named_rows : (m : ArgMatches) (name : Text) (rows : List Row) → Some name ≡ subcommand_name_of m → Some rows ≡ option_map (λ p. p.1) (subcommand_rows (out-ArgMatches m).subcommand) → given_by (subcommand_rows_of m) ≡ named name rows
named_rows m name rows h k = ap given_by (both (out-ArgMatches m).subcommand name rows h k)

-- the form `load` of what the three words are
pub load_rows : (rows : List Row) (number blocks store : Option Text) → first_of (codes "number") rows ≡ number → first_of (codes "blocks") rows ≡ blocks → first_of (codes "store") rows ≡ store → load_in rows ≡ load_by number blocks store
load_rows rows number blocks store n b s = rw (n, b, s) refl
