use Rattle.laws_sequences.proofs.EachCommand.{commands_keep_links}
use Rattle.laws_sequences.proofs.commands.commands_keep_links.Goals as goal

pub returns : goal.returns
returns c = commands_keep_links
