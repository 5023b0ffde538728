use Rattle.std.proofs.Common.{◌≡◌, ◌≤◌, ◌-◌, Some, slice_get, rules}
use Rattle.tests_rows.specs.Marks.{group_keys}
use Rattle.tests_rows.proofs.MarkLemmas.{past_two}
use Rattle.tests_rows.proofs.marks.MarkKeyed.key.Goals as goal

pub returns-in_default : goal.returns-in_default
returns-in_default c =
    let got : slice_get (group_keys c.args.self.now.group) (c.args.at - 2) ≡ Some c.group_key.result = search rules in
    let late : 2 ≤ c.args.at = search rules in
    past_two _ _ (group_keys c.args.self.now.group) c.args.at c.group_key.result late got
