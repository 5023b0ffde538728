-- A call that touches one file of a pair touches the pair.
use Rattle.std.proofs.Common.{◌≡◌, ◌≢◌, ◌<◌, ◌/◌, inl, inr, ⊎_elim, ℕ, List, ◌∙◌, ap}
use Rattle.host_desk.specs.Desk.{Desk}
use Rattle.host_desk.specs.Since.{OnlyFile, Touches}
use Rattle.twin_store.specs.Pairs.{StoreSays, store_in}
use Rattle.twin_store.specs.Moments.{OnlyPair, TouchesPair}

module _ (pair file other : ℕ) (in_pair : file / 2 ≡ pair) (four : file < 4) (below : other < 4) (apart : other ≢ file) (Q : List ℕ → Type 0) (P : StoreSays → Type 0) (old new : Desk) where
  -- another pair's file is another
  outside : (i : ℕ) → i / 2 ≢ pair → i ≢ file
  outside i out same = out (ap (λ (k : ℕ). k / 2) same ∙ in_pair)

  pub touches_pair : Touches file Q old new → ((files : ℕ → List ℕ) → Q (files file) → old.left other (files other) → P (store_in pair files)) → TouchesPair pair P old new
  touches_pair run here = record {
    seen = λ i out. run.seen i (outside i out);
    left = λ i c out. run.left i c (outside i out);
    trusted = λ i out. run.trusted i (outside i out);
    said = run.said;
    later = run.later;
    now = λ files left. here files (run.now (files file) (left file four)) ((run.left other (files other) apart).0 (left other below));
    since = λ t s f le o. ⊎_elim (λ was. inl was) (λ is. inr (of s f is)) (run.since t s f le o);
  }
    where
      of : (s : List ℕ) (f : ℕ → List ℕ) → OnlyFile file old Q s f → OnlyPair pair old P s f
      of s f is = record {
        told = is.told;
        others = λ i less out. is.others i less (outside i out);
        this = here f is.this (is.others other below apart);
      }
