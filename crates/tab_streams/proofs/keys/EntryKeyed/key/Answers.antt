use Rattle.std.proofs.Common.{◌≤◌, rules}
use Rattle.tab_streams.specs.Keys.{added_keys}
use Rattle.tab_streams.proofs.KeyPlaces.{past_two}
use Rattle.tab_streams.proofs.keys.EntryKeyed.key.Goals as goal

pub returns-in_default : goal.returns-in_default
returns-in_default c =
    let late : 2 ≤ c.args.at = search rules in
    past_two _ _ (added_keys c.args.self.now.number c.args.self.now.row.adds) c.args.at c.added_key.result late (rw c.as_slice.ensures at c.added_key.ensures)
