use Rattle.std.proofs.Common.{ap, arith, ◌∙◌}
use Rattle.book_rows.specs.Rewrite.{how_many}
use Rattle.publish_core.specs.Kinds.{filling_of}
use Rattle.upgrade_plan.proofs.Counting.{copies_fit}
use Rattle.upgrade_plan.proofs.filling.Plan.add.Goals as goal

pub count_of-requires : goal.count_of-requires
count_of-requires c =
    let fits =
    copies_fit (filling_of c.args.self.now.filling) c.args.self.now.pendings.now c.args.self.now.source.now c.args.self.now.commit c.args.target.now c.core_of-core.result c.core_of-core.ensures.few c.requires.rows in
    let same = ap how_many c.in_ok-copies.ensures in
    omega (arith, fits, same)

pub chunk_with-requires : goal.chunk_with-requires
chunk_with-requires c =
    let fits =
    copies_fit (filling_of c.args.self.now.filling) c.args.self.now.pendings.now c.args.self.now.source.now c.args.self.now.commit c.args.target.now c.core_of-core.result c.core_of-core.ensures.few c.requires.rows in
    let same = c.count_of.ensures ∙ ap how_many c.in_ok-copies.ensures in
    omega (arith, fits, same)
