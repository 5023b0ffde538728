use Rattle.book_rows.proofs.StepLaws.{stays_where_unchanged}
use Rattle.laws_sound.proofs.soundness.stays_where_unchanged.Goals as goal

pub returns : goal.returns
returns c = stays_where_unchanged
