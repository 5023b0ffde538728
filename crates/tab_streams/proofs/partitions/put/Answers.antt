use Rattle.std.proofs.Common.{◌<◌, ◌==◌, ◌≡◌, arith, false, get_or, length, subst, sym, true}
use Rattle.book_rows.specs.declared.rows.Offset.{Offset}
use Rattle.tab_streams.proofs.Placing.{put_in, put_last, put_over}
use Rattle.tab_streams.proofs.partitions.put.Goals as goal

pub returns-then-at-len-clause-ok : goal.returns-then-at-len-clause-ok
returns-then-at-len-clause-ok c =
    let end : c.args.at ≡ length c.args.offsets.now.items = omega arith in
    rw c.in_ok-push.ensures.items (sym (put_last c.args.offset c.args.offsets.now.items c.args.at c.requires end))

pub returns-then-is_of-clause-ok : goal.returns-then-is_of-clause-ok
returns-then-is_of-clause-ok c =
    let item : Offset = c.index.result.now in
    let within : c.args.at < length c.args.offsets.now.items = omega (arith, c.requires.within) in
    let same : ((get_or c.args.offsets.now.items c.args.at item).partition == c.args.offset.partition) ≡ true = subst (λ (x : Offset). (x.partition == c.args.offset.partition) ≡ true) c.index.ensures (sym c.if-is_of.ensures) in
    sym (put_over c.args.offset c.args.offsets.now.items c.args.at c.requires item within same)

pub returns-clause-ok : goal.returns-clause-ok
returns-clause-ok c =
    let item : Offset = c.index.result.now in
    let within : c.args.at < length c.args.offsets.now.items = omega (arith, c.requires.within) in
    let other : ((get_or c.args.offsets.now.items c.args.at item).partition == c.args.offset.partition) ≡ false = subst (λ (x : Offset). (x.partition == c.args.offset.partition) ≡ false) c.index.ensures (sym c.if-is_of.ensures) in
    rw c.in_ok-insert.ensures.items (sym (put_in c.args.offset c.args.offsets.now.items c.args.at c.requires item within other))
