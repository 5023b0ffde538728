use Rattle.book_rows.specs.Sequences.{is_of_group}
use Rattle.laws_sequences.proofs.Filters.{filter_shorter}
use Rattle.sup_core.proofs.sizes.size_of.Goals as goal

pub size_between-requires-clause-high : goal.size_between-requires-clause-high
size_between-requires-clause-high c = rw c.count-count.ensures (filter_shorter (is_of_group c.args.source.now c.args.group) c.args.sequences.now)
