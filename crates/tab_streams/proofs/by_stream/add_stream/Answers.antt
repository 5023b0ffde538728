use Rattle.std.proofs.Common.{◌∙◌, ap, List}
use Rattle.std.specs.BTreeMap.{insert_entry}
use Rattle.book_rows.specs.declared.rows.Offset.{Offset}
use Rattle.tab_streams.specs.ByName.{set_offset}
use Rattle.tab_streams.proofs.NameSplit.{name_cmp}
use Rattle.tab_streams.proofs.by_stream.add_stream.Goals as goal

pub returns-clause-ok : goal.returns-clause-ok
returns-clause-ok c =
    c.in_ok-insert.ensures.entries
    ∙ ap (λ (v : List Offset). insert_entry name_cmp c.args.streams.now.entries c.args.stream v) (c.in_ok-set.ensures.ok ∙ ap (λ (v : List Offset). set_offset c.args.offset v) c.new-partitions.ensures)
