use Rattle.std.proofs.Common.{sym, ◌∙◌}
use Rattle.serde_json.specs.View.{view, members_view}
use Rattle.cmd_words.proofs.Keys.{known_keys, only_of_members}
use Rattle.cmd_words.proofs.values.has_only_keys.Goals as goal

pub returns-in-Some : goal.returns-in-Some
returns-in-Some c =
    c.are_known.ensures
    ∙ sym (known_keys c.args.known.now c.in-Some.members.now.entries)
    ∙ sym (only_of_members c.args.known.now (view c.args.value.now) (members_view c.in-Some.members.now.entries) (sym c.in-Some.ensures))
