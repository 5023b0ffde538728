use Rattle.std.proofs.Common.{◌≤ℤ◌, pos, rules}
use Rattle.tab_segments.proofs.Greatest.{none_at_end}
use Rattle.tab_segments.proofs.visible.visible_entry.Goals as goal

pub returns-in-Err : goal.returns-in-Err
returns-in-Err c =
    let high : pos 9223372036854775807 ≤ℤ c.args.at = search rules in
    none_at_end c.args.source.now c.args.at c.args.entries.now.items c.requires.real high
