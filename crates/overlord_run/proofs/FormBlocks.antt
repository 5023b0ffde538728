-- A load that words name has as many blocks as one may have.
use Rattle.std.proofs.Common.{◌≡◌, ◌≤◌, ◌∷◌, Bool, List, None, Option, Some, [], cond, false, refl, subst, true, ℕ}
use Rattle.std.specs.Prelude.{◌&&◌, bytes_eq, codes, option_and_then, option_map}
use Rattle.std.proofs.lemmas.Bool.{and_parts, leb-true}
use Rattle.std.proofs.lemmas.Option.{cond_some}
use Rattle.program_words.specs.Forms.{form_of, is_store, load, load_with, run}
use Rattle.program_words.specs.Numbers.{blocks_in, blocks_of, is_blocks, number_of}

few_in : (o : Option ℕ) (b : ℕ) → option_and_then blocks_in o ≡ Some b → b ≤ 50000
few_in None b is = absurd cc
few_in (Some n) b is =
    let found = cond_some (is_blocks n) n b is in
    let both = and_parts _ _ found.0 in
    subst (λ (m : ℕ). m ≤ 50000) found.1 (leb-true n 50000 both.1)

few_by : (number : Option ℕ) (blocks store word : List ℕ) (o : Option ℕ) (n b : ℕ) (s : List ℕ) → blocks_of word ≡ o → option_and_then (λ m. option_map (λ x. load m x store) o) number ≡ Some (load n b s) → b ≤ 50000
few_by None blocks store word o n b s read is = absurd cc
few_by (Some m) blocks store word None n b s read is = absurd cc
few_by (Some m) blocks store word (Some x) n b s read is = let same : x ≡ b = cc in subst (λ (k : ℕ). k ≤ 50000) same (few_in (number_of word) x read)

few_load : (test : Bool) (number blocks store : List ℕ) (n b : ℕ) (s : List ℕ) → cond test (load_with number blocks store) None ≡ Some (load n b s) → b ≤ 50000
few_load true number blocks store n b s is = few_by (number_of number) blocks store blocks (blocks_of blocks) n b s refl is
few_load false number blocks store n b s is = absurd cc

no_run : (test : Bool) (store : List ℕ) (n b : ℕ) (s : List ℕ) → cond test (Some (run store)) None ≡ Some (load n b s) → b ≤ 50000
no_run true store n b s is = absurd cc
no_run false store n b s is = absurd cc

pub few_blocks : (words : List (List ℕ)) (n b : ℕ) (s : List ℕ) → form_of words ≡ Some (load n b s) → b ≤ 50000
unfolding form_of
few_blocks [] n b s is = absurd cc
few_blocks (x ∷ []) n b s is = absurd cc
few_blocks (x ∷ y ∷ []) n b s is = no_run (bytes_eq x (codes "run") && is_store y) y n b s is
few_blocks (x ∷ y ∷ z ∷ []) n b s is = absurd cc
few_blocks (x ∷ y ∷ z ∷ t ∷ []) n b s is = few_load (bytes_eq x (codes "load") && is_store t) y z t n b s is
few_blocks (x ∷ y ∷ z ∷ t ∷ u ∷ more) n b s is = absurd cc
