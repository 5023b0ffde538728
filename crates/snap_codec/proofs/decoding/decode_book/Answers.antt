use Rattle.snap_codec.proofs.BookBytes.{reads_book, reads_fault}
use Rattle.snap_codec.proofs.decoding.decode_book.Goals as goal

pub returns-in-Ok : goal.returns-in-Ok
returns-in-Ok c = reads_book c.args.bytes.now c.in-Ok.book c.whole.ensures.bytes c.in-Ok.ensures.ok

pub returns-in-Err-Bad : goal.returns-in-Err-Bad
returns-in-Err-Bad c =
    let e = rw c.in-Err-Bad.field-0-is at c.in-Err-Bad.ensures.err in
    reads_fault c.args.bytes.now c.in-Err-Bad.left c.saturating_sub.result e c.saturating_sub.ensures
