-- What a run of calls that touches one file may have left at each of its moments.
use Rattle.std.specs.Prelude.{◌≡◌, ◌≢◌, ◌<◌, ◌≤◌, ◌⊎◌, ◌↔◌, ℕ, List, true}
use Rattle.host_desk.specs.Desk.{Desk, Only}

-- A stop leaves of this file what a read gives, and no sync, write or cut of it has failed.
pub record IsSettled (desk : Desk) (file : ℕ) : Type 0 where
  pub only : Only (desk.seen file) (desk.left file)
  pub trusted : desk.trusted file ≡ true

-- An observation that has P of this file, and of the rest what a stop left before.
pub record OnlyFile (file : ℕ) (old : Desk) (P : List ℕ → Type 0) (said : List ℕ) (files : ℕ → List ℕ) : Type 0 where
  pub told : said ≡ old.said
  pub others : (i : ℕ) → i < 4 → i ≢ file → old.left i (files i)
  pub this : P (files file)

-- Since old only this file was touched, and nothing was said. A stop at any moment since left a file that has P.
pub record Touches (file : ℕ) (P : List ℕ → Type 0) (old new : Desk) : Type 0 where
  pub seen : (i : ℕ) → i ≢ file → new.seen i ≡ old.seen i
  pub left : (i : ℕ) (c : List ℕ) → i ≢ file → new.left i c ↔ old.left i c
  pub trusted : (i : ℕ) → i ≢ file → new.trusted i ≡ old.trusted i
  pub said : new.said ≡ old.said
  pub later : old.moment ≤ new.moment
  pub now : (c : List ℕ) → new.left file c → P c
  -- for a run that began at a moment before old, too
  pub since : (t : ℕ) (said : List ℕ) (files : ℕ → List ℕ) → t ≤ old.moment → new.observed t said files → old.observed t said files ⊎ OnlyFile file old P said files

-- A stop at any moment since old left what has P, but for what was possible as old stood.
pub record Since (P : List ℕ → (ℕ → List ℕ) → Type 0) (old new : Desk) : Type 0 where
  pub later : old.moment ≤ new.moment
  pub left : (t : ℕ) (said : List ℕ) (files : ℕ → List ℕ) → t ≤ old.moment → new.observed t said files → old.observed t said files ⊎ P said files
