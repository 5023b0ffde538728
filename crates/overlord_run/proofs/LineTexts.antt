-- A line by its text.
use Rattle.std.proofs.Common.{◌≡◌, ℕ, List, Some, None, refl, ap}
use Rattle.machine_run.specs.LineItems.{LineItem, short, long, text_of}

pub short_of : (item : LineItem) (line : List ℕ) → text_of item ≡ Some line → item ≡ short line
short_of (short bytes) line is = let same : bytes ≡ line = cc in ap (λ (l : List ℕ). short l) same
short_of (long size) line is = absurd (cc)

pub long_of : (item : LineItem) → text_of item ≡ None → (size : ℕ) × (item ≡ long size)
long_of (short bytes) is = absurd (cc)
long_of (long size) is = (size, refl)
