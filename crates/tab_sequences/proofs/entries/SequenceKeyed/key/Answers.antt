use Rattle.std.proofs.Common.{◌≡◌, ◌≤◌, Some, slice_get, rules, subst}
use Rattle.book_rows.specs.declared.rows.SequenceRow.{SequenceRow}
use Rattle.tab_sequences.specs.Keys.{live_keys, sequence_keys}
use Rattle.tab_sequences.proofs.KeyPlaces.{past_two}
use Rattle.tab_sequences.proofs.entries.SequenceKeyed.key.Goals as goal

pub returns-in_default : goal.returns-in_default
returns-in_default c =
    let late : 2 ≤ c.args.at = search rules in
    subst (λ (u : SequenceRow). slice_get (sequence_keys u) c.args.at ≡ Some c.live_key.result) c.self.view_is (past_two _ _ (live_keys c.self.inside.row.live) c.args.at c.live_key.result late (rw c.as_slice.ensures at c.live_key.ensures))
