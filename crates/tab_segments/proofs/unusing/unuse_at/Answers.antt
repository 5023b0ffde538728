use Rattle.std.proofs.Common.{◌<◌, ◌≤◌, arith, length, rules}
use Rattle.tab_segments.specs.Leading.{unused_entry}
use Rattle.tab_segments.proofs.Unused.{none_changed, set_changed}
use Rattle.tab_segments.proofs.unusing.unuse_at.Goals as goal

pub returns-then-at-len : goal.returns-then-at-len
returns-then-at-len c =
    let within : c.args.place < length c.args.entries.now.items = omega arith in
    rw c.unuse_entry.ensures (set_changed (unused_entry c.args.source.now c.args.span) c.args.entries.now.items c.args.place c.index_mut.result.now within c.index_mut.ensures.value)

pub returns-else-at-len : goal.returns-else-at-len
returns-else-at-len c =
    let past : length c.args.entries.now.items ≤ c.args.place = omega arith in
    none_changed (unused_entry c.args.source.now c.args.span) c.args.entries.now.items c.args.place past
