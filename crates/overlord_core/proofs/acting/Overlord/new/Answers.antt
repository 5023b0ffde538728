use Rattle.std.proofs.Common.{subst, sym}
use Rattle.book_rows.specs.Sound.{Sound}
use Rattle.book_rows.specs.declared.rows.Book.{Book}
use Rattle.book_rows.proofs.EmptySound.{empty_is_sound}
use Rattle.overlord_core.proofs.acting.Overlord.new.Goals as goal

pub invariant_of-result : goal.invariant_of-result
invariant_of-result c = λ unspent. subst (λ (b : Book). Sound b) (sym c.new.ensures) empty_is_sound
