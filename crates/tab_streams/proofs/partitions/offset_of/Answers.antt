use Rattle.std.proofs.Common.{◌∙◌, Option, ap}
use Rattle.book_rows.specs.declared.rows.Offset.{Offset}
use Rattle.tab_streams.specs.ByName.{if_of}
use Rattle.tab_streams.proofs.Placing.{found_at}
use Rattle.tab_streams.proofs.partitions.offset_of.Goals as goal

pub returns : goal.returns
returns c =
    c.offset_if.ensures
    ∙ (ap (λ (o : Option Offset). if_of c.args.partition o) c.item_at.ensures ∙ found_at c.args.partition c.args.offsets.now c.place_of-at.result c.requires c.place_of-at.ensures)
