use Rattle.std.proofs.Common.{rules}
use Rattle.chunk_rules.proofs.Copying.{copied_found}
use Rattle.chunk_rules.proofs.copied.copied_row.Goals as goal

pub returns : goal.returns
returns c =
    copied_found c.args.book.now c.args.starts.chunks c.in_ok-copies.copies c.in_ok-owned.owned c.args.chunks.now c.in_ok-row.row c.requires.counted.at_chunks (search rules) (search rules) c.requires.chunks
    c.in_ok-row.ensures
