use Rattle.std.proofs.Common.{◌≡◌, ◌≤◌, ◌-◌, Some, slice_get, rules}
use Rattle.lock_posse.specs.Keys.{member_keys}
use Rattle.lock_posse.proofs.KeyLemmas.{past_two}
use Rattle.lock_posse.proofs.keys.LockKeyed.key.Goals as goal

pub returns-in_default : goal.returns-in_default
returns-in_default c =
    let got : slice_get (member_keys c.args.self.now.members) (c.args.at - 2) ≡ Some c.member_key.result = search rules in
    let late : 2 ≤ c.args.at = search rules in
    past_two _ _ (member_keys c.args.self.now.members) c.args.at c.member_key.result late got
