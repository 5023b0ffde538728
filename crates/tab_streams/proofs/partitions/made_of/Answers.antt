use Rattle.std.proofs.Common.{refl}
use Rattle.std.proofs.lemmas.List.{take_more}
use Rattle.book_rows.specs.declared.rows.Offset.{Offset}
use Rattle.tab_streams.proofs.Placing.{set_more}
use Rattle.tab_streams.proofs.partitions.made_of.Goals as goal

pub loop-offset-preserved : goal.loop-offset-preserved
loop-offset-preserved c =
    let none : Offset = record { partition = 0; offset = 0 } in
    (rw (c.in_ok-set.ensures.ok, c.loop-offset.invariant.0, take_more c.args.offsets.now c.loop-offset.offset-index none c.loop-offset-test.true, set_more) refl, c.in_ok-set.ensures.rise)
