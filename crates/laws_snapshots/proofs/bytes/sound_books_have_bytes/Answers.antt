use Rattle.laws_snapshots.proofs.Joined.{sound_books_have_bytes}
use Rattle.laws_snapshots.proofs.bytes.sound_books_have_bytes.Goals as goal

pub returns : goal.returns
returns c = sound_books_have_bytes
