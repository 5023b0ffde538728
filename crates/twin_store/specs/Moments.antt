-- What a run of calls that touches the files of one pair may have left at each of its moments.
use Rattle.std.specs.Prelude.{◌≡◌, ◌≢◌, ◌<◌, ◌≤◌, ◌/◌, ◌⊎◌, ◌↔◌, ℕ, List, true}
use Rattle.host_desk.specs.Desk.{Desk}
use Rattle.host_desk.specs.Since.{IsSettled}
use Rattle.twin_store.specs.Pairs.{StoreSays, first_file, second_file, other_of, store_in}

-- no observation at all
abbrev pub Nothing : List ℕ → (ℕ → List ℕ) → Type 0
Nothing said files = ⊥

-- An observation in which the pair says what has P, and the files of the other pair are as a stop left them before.
pub record OnlyPair (pair : ℕ) (old : Desk) (P : StoreSays → Type 0) (said : List ℕ) (files : ℕ → List ℕ) : Type 0 where
  pub told : said ≡ old.said
  pub others : (i : ℕ) → i < 4 → i / 2 ≢ pair → old.left i (files i)
  pub this : P (store_in pair files)

-- Since old only files of this pair were touched, and nothing was said. A stop at any moment since left a pair that says
-- what has P.
pub record TouchesPair (pair : ℕ) (P : StoreSays → Type 0) (old new : Desk) : Type 0 where
  pub seen : (i : ℕ) → i / 2 ≢ pair → new.seen i ≡ old.seen i
  pub left : (i : ℕ) (c : List ℕ) → i / 2 ≢ pair → new.left i c ↔ old.left i c
  pub trusted : (i : ℕ) → i / 2 ≢ pair → new.trusted i ≡ old.trusted i
  pub said : new.said ≡ old.said
  pub later : old.moment ≤ new.moment
  pub now : (files : ℕ → List ℕ) → ((i : ℕ) → i < 4 → new.left i (files i)) → P (store_in pair files)
  -- for a run that began at a moment before old, too
  pub since : (t : ℕ) (said : List ℕ) (files : ℕ → List ℕ) → t ≤ old.moment → new.observed t said files → old.observed t said files ⊎ OnlyPair pair old P said files

-- No sync, write or cut of the pair's files has failed.
pub record IsPairTrusted (pair : ℕ) (desk : Desk) : Type 0 where
  pub first : desk.trusted (first_file pair) ≡ true
  pub second : desk.trusted (second_file pair) ≡ true

-- A stop leaves of the file and of the other of its pair what a read gives.
pub record IsPairSettled (file : ℕ) (desk : Desk) : Type 0 where
  pub this : IsSettled desk file
  pub other : IsSettled desk (other_of file)
