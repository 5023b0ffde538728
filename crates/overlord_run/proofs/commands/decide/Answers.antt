use Rattle.std.proofs.Common.{sym, ◌∙◌}
use Rattle.overlord_rules.proofs.RecordLaws.{spelled}
use Rattle.overlord_run.specs.Held.{book_in}
use Rattle.overlord_run.proofs.commands.decide.Goals as goal

pub encode-requires-clause-tag : goal.encode-requires-clause-tag
encode-requires-clause-tag c =
    (spelled (book_in c.args.core.now) c.args.command.now c.requires.form (sym c.in_ok-outcome.ensures.changes ∙ c.if-changes.true)).1
