-- The core as a whole: its book, or none once it is spent.
use Rattle.std.proofs.Common.{◌≡◌, Bool, None, Some, cond, false, refl, subst, true}
use Rattle.book_rows.specs.declared.rows.Book.{Book}
use Rattle.book_rows.specs.Sound.{Sound}

pub sound_of : (spent : Bool) (core b : Book) → (spent ≡ false → Sound core) → cond spent None (Some core) ≡ Some b → Sound b
sound_of true core b h e = absurd (cc)
sound_of false core b h e =
    let same : core ≡ b = cc in
    subst (λ (x : Book). Sound x) same (h refl)
