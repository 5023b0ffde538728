-- What the headers of a pair's files say of the logs that were found in them.
use Rattle.std.proofs.Common.{◌≡◌, ℕ, zero, suc, ◌<◌, ◌/◌, IsTrue, Bool, List, [], Option, Some, None, Result, Ok, Err, IfOk, refl, sym, ◌∙◌, ap, subst, arith}
use Rattle.std.proofs.lemmas.Bool.Decides.{nat_tests}
use Rattle.gate_log.specs.Format.{Opening, absent, opening_of}
use Rattle.gate_log.specs.Log.{Mark, Describes, ReadUpTo}
use Rattle.twin_store.specs.Pairs.{Choice, neither, the_first, the_second, wrong, newer, choice, choice_in, first_file, second_file, other_of}
use Rattle.twin_store.specs.Stores.{IsBehind}
use Rattle.twin_store.specs.Finding.{IsFound, Finds, header_of, IsChosen, IsFoundCurrent, FindsCurrent}

newer_is_first : (first second : ℕ) → newer first second ≡ the_first → second < first
newer_is_first first second is = grind (arith, nat_tests)

newer_is_second : (first second : ℕ) → newer first second ≡ the_second → first < second
newer_is_second first second is = grind (arith, nat_tests)

pub newer_is_one : (first second : ℕ) → newer first second ≡ neither → ⊥
newer_is_one first second is = grind (arith, nat_tests)

-- what is known of an answer, and what follows
pub if_ok : {T E : Type 0} (P Q : T → Type 0) (r : Result T E) → ((x : T) → P x → Q x) → IfOk r P → IfOk r Q
if_ok P Q (Ok x) f h = f x h
if_ok P Q (Err e) f h = tt

-- a header says what was found
pub header_found : (tells : Bool) (file limit : ℕ) (bytes : List ℕ) (log : Option Mark) → IsTrue tells → Finds tells file limit bytes log → opening_of bytes ≡ header_of log
header_found tells file limit bytes None told found = found told
header_found tells file limit bytes (Some log) told found = (found.read told).describes.header

-- the same was found, where the file reads as it did
pub finds_before : (tells : Bool) (file limit : ℕ) (before now : ℕ → List ℕ) (log : Option Mark) → (IsTrue tells → now ≡ before) → Finds tells file limit (now file) log → Finds tells file limit (before file) log
finds_before tells file limit before now None same found = λ told. subst (λ (s : ℕ → List ℕ). opening_of (s file) ≡ absent) (same told) (found told)
finds_before tells file limit before now (Some log) same found = record {
  file_is = found.file_is;
  limit_is = found.limit_is;
  place_is = found.place_is;
  read = λ told. subst (λ (s : ℕ → List ℕ). ReadUpTo (s file) log []) (same told) (found.read told);
}

-- the files of a pair
pub first_in : (pair : ℕ) → pair < 2 → first_file pair / 2 ≡ pair
first_in zero less = refl
first_in (suc zero) less = refl
first_in (suc (suc n)) less = absurd (omega (arith, less))

pub second_in : (pair : ℕ) → pair < 2 → second_file pair / 2 ≡ pair
second_in zero less = refl
second_in (suc zero) less = refl
second_in (suc (suc n)) less = absurd (omega (arith, less))

pub other_first : (pair : ℕ) → pair < 2 → other_of (first_file pair) ≡ second_file pair
other_first zero less = refl
other_first (suc zero) less = refl
other_first (suc (suc n)) less = absurd (omega (arith, less))

pub other_second : (pair : ℕ) → pair < 2 → other_of (second_file pair) ≡ first_file pair
other_second zero less = refl
other_second (suc zero) less = refl
other_second (suc (suc n)) less = absurd (omega (arith, less))

module _ (tells : Bool) (pair limit : ℕ) (files : ℕ → List ℕ) (small : pair < 2) where
  -- the choice by the headers is that by what was found
  pub choice_found : (first second : Option Mark) → IsTrue tells → Finds tells (first_file pair) limit (files (first_file pair)) first → Finds tells (second_file pair) limit (files (second_file pair)) second → choice_in pair files ≡ choice (header_of first) (header_of second)
  choice_found first second told found more = λ i. choice (header_found tells (first_file pair) limit (files (first_file pair)) first told found i) (header_found tells (second_file pair) limit (files (second_file pair)) second told more i)

  -- the log of one file, the other being behind
  found_in : (file other : ℕ) (log : Mark) → file < 4 → file / 2 ≡ pair → other_of file ≡ other → IsFound tells file limit (files file) log → (IsTrue tells → IsBehind log.generation (opening_of (files other))) → IsFoundCurrent tells pair limit files log
  found_in file other log four in_pair is_other found behind = record {
    is_opened = record {
      number = subst (λ (n : ℕ). n < 4) (sym found.file_is) four;
      pair_is = ap (λ (n : ℕ). n / 2) found.file_is ∙ in_pair;
      limit_is = found.limit_is;
      place_is = found.place_is;
    };
    current = λ told. record {
      describes = subst (λ (n : ℕ). Describes log (files n)) (sym found.file_is) (found.read told).describes;
      behind = subst (λ (n : ℕ). IsBehind log.generation (opening_of (files (other_of n)))) (sym found.file_is) (subst (λ (n : ℕ). IsBehind log.generation (opening_of (files n))) (sym is_other) (behind told));
    };
    read = λ told. subst (λ (n : ℕ). ReadUpTo (files n) log []) (sym found.file_is) (found.read told);
  }

  first_below : first_file pair < 4
  first_below = omega (arith, small)

  second_below : second_file pair < 4
  second_below = omega (arith, small)

  first_found : (log : Mark) → IsFound tells (first_file pair) limit (files (first_file pair)) log → (IsTrue tells → IsBehind log.generation (opening_of (files (second_file pair)))) → IsFoundCurrent tells pair limit files log
  first_found log found behind = found_in (first_file pair) (second_file pair) log first_below (first_in pair small) (other_first pair small) found behind

  second_found : (log : Mark) → IsFound tells (second_file pair) limit (files (second_file pair)) log → (IsTrue tells → IsBehind log.generation (opening_of (files (first_file pair)))) → IsFoundCurrent tells pair limit files log
  second_found log found behind = found_in (second_file pair) (first_file pair) log second_below (second_in pair small) (other_second pair small) found behind

  -- what is chosen
  pub chosen_found : (first second log : Option Mark) → Finds tells (first_file pair) limit (files (first_file pair)) first → Finds tells (second_file pair) limit (files (second_file pair)) second → IsChosen (choice (header_of first) (header_of second)) first second log → FindsCurrent tells pair limit files log
  chosen_found None None None found more is = λ told. choice_found None None told found more
  chosen_found None None (Some log) found more is = absurd (cc)
  chosen_found None (Some second) None found more is = absurd (cc)
  chosen_found None (Some second) (Some log) found more is =
      let same : log ≡ second = cc in
      subst (λ (l : Mark). IsFoundCurrent tells pair limit files l) (sym same) (second_found second more (λ told. subst (λ (o : Opening). IsBehind second.generation o) (sym (found told)) tt))
  chosen_found (Some first) None None found more is = absurd (cc)
  chosen_found (Some first) None (Some log) found more is =
      let same : log ≡ first = cc in
      subst (λ (l : Mark). IsFoundCurrent tells pair limit files l) (sym same) (first_found first found (λ told. subst (λ (o : Opening). IsBehind first.generation o) (sym (more told)) tt))
  chosen_found (Some first) (Some second) log found more is = by (newer first.generation second.generation) refl is
    where
      by : (c : Choice) → newer first.generation second.generation ≡ c → IsChosen c (Some first) (Some second) log → FindsCurrent tells pair limit files log
      by neither e never = absurd (newer_is_one first.generation second.generation e)
      by the_first e same = subst (λ (l : Option Mark). FindsCurrent tells pair limit files l) (sym same) (first_found first found (λ told. subst (λ (o : Opening). IsBehind first.generation o) (sym (more.read told).describes.header) (newer_is_first first.generation second.generation e)))
      by the_second e same = subst (λ (l : Option Mark). FindsCurrent tells pair limit files l) (sym same) (second_found second more (λ told. subst (λ (o : Opening). IsBehind second.generation o) (sym (found.read told).describes.header) (newer_is_second first.generation second.generation e)))
      by (wrong side at) e never = absurd never
