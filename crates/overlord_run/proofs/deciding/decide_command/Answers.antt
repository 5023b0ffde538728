use Rattle.std.proofs.Common.{sym, ◌∙◌}
use Rattle.overlord_rules.proofs.RecordLaws.{spelled}
use Rattle.overlord_run.specs.Held.{book_in}
use Rattle.overlord_run.proofs.deciding.decide_command.Goals as goal

pub encode-requires-clause-tag : goal.encode-requires-clause-tag
encode-requires-clause-tag c =
    (spelled (book_in c.args.core.now) c.args.command.now c.requires.form (sym c.in_ok-said.ensures.changes ∙ c.if-said.true)).1
