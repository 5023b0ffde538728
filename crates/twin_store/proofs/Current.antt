-- The log that is current speaks for its pair. The crates above may use this besides the contracts.
use Rattle.std.proofs.Common.{◌≡◌, ◌≢◌, ℕ, zero, suc, ◌<◌, ◌/◌, List, refl, sym, ◌∙◌, ap, subst, arith}
use Rattle.std.proofs.lemmas.Bool.Decides.{nat_tests}
use Rattle.gate_log.specs.Format.{Opening, absent, corrupt, opened, opening_of, says}
use Rattle.gate_log.specs.Log.{Mark}
use Rattle.twin_store.specs.Pairs.{Choice, the_first, the_second, newer, choice, new_store, in_log, says_by, store_says, other_of, side_of, store_in, wrong, is_bad}
use Rattle.twin_store.specs.Stores.{IsBehind, IsCurrent}

pub newer_first : (first second : ℕ) → second < first → newer first second ≡ the_first
newer_first first second less = grind (arith, nat_tests)

pub newer_second : (first second : ℕ) → first < second → newer first second ≡ the_second
newer_second first second less = grind (arith, nat_tests)

-- a log beside one that is behind is chosen
chosen_first : (generation size : ℕ) (other : Opening) → IsBehind generation other → choice (opened generation size) other ≡ the_first
chosen_first generation size absent behind = refl
chosen_first generation size (corrupt at) never = absurd never
chosen_first generation size (opened older length) less = newer_first generation older less

chosen_second : (generation size : ℕ) (other : Opening) → IsBehind generation other → choice other (opened generation size) ≡ the_second
chosen_second generation size absent behind = refl
chosen_second generation size (corrupt at) never = absurd never
chosen_second generation size (opened older length) less = newer_second older generation less

pub says_first : (first second : List ℕ) (generation size : ℕ) → opening_of first ≡ opened generation size → IsBehind generation (opening_of second) → store_says first second ≡ in_log 0 (says first)
unfolding store_says
says_first first second generation size is behind =
    let header = ap (λ (o : Opening). says_by (choice o (opening_of second)) first second) is in
    header ∙ ap (λ (c : Choice). says_by c first second) (chosen_first generation size (opening_of second) behind)

pub says_second : (first second : List ℕ) (generation size : ℕ) → opening_of second ≡ opened generation size → IsBehind generation (opening_of first) → store_says first second ≡ in_log 1 (says second)
unfolding store_says
says_second first second generation size is behind =
    let header = ap (λ (o : Opening). says_by (choice (opening_of first) o) first second) is in
    header ∙ ap (λ (c : Choice). says_by c first second) (chosen_second generation size (opening_of first) behind)

-- two files without a log are a new store
pub says_neither : (first second : List ℕ) → opening_of first ≡ absent → opening_of second ≡ absent → store_says first second ≡ new_store
unfolding store_says
says_neither first second none no_other = λ i. says_by (choice (none i) (no_other i)) first second

-- two logs
pub two_first : (one two : List ℕ) (a b m n : ℕ) → opening_of one ≡ opened a m → opening_of two ≡ opened b n → b < a → store_says one two ≡ in_log 0 (says one)
two_first one two a b m n is other less = says_first one two a m is (subst (λ (o : Opening). IsBehind a o) (sym other) less)

pub two_second : (one two : List ℕ) (a b m n : ℕ) → opening_of one ≡ opened a m → opening_of two ≡ opened b n → a < b → store_says one two ≡ in_log 1 (says two)
two_second one two a b m n other is less = says_second one two b n is (subst (λ (o : Opening). IsBehind b o) (sym other) less)

newer_equal : (a : ℕ) → newer a a ≡ wrong 1 10
newer_equal a = grind (arith, nat_tests)

pub two_equal : (one two : List ℕ) (a m n : ℕ) → opening_of one ≡ opened a m → opening_of two ≡ opened a n → store_says one two ≡ is_bad 1 10
unfolding store_says
two_equal one two a m n is other = (λ i. says_by (choice (is i) (other i)) one two) ∙ ap (λ (c : Choice). says_by c one two) (newer_equal a)

-- a log speaks for its pair, where the other file is behind
pub file_says : (files : ℕ → List ℕ) (file : ℕ) → file < 4 → (generation size : ℕ) → opening_of (files file) ≡ opened generation size → IsBehind generation (opening_of (files (other_of file))) → store_in (file / 2) files ≡ in_log (side_of file) (says (files file))
file_says files zero less generation size is behind = says_first (files 0) (files 1) generation size is behind
file_says files (suc zero) less generation size is behind = says_second (files 0) (files 1) generation size is behind
file_says files (suc (suc zero)) less generation size is behind = says_first (files 2) (files 3) generation size is behind
file_says files (suc (suc (suc zero))) less generation size is behind = says_second (files 2) (files 3) generation size is behind
file_says files (suc (suc (suc (suc n)))) less generation size is behind = absurd (omega (arith, less))

pub current_says : (log : Mark) (files : ℕ → List ℕ) → log.file < 4 → IsCurrent log files → store_in (log.file / 2) files ≡ in_log (side_of log.file) (says (files log.file))
current_says log files less current = file_says files log.file less log.generation log.snapshot_length current.describes.header current.behind

-- the other file of a pair
pub other_below : (file : ℕ) → file < 4 → other_of file < 4
other_below zero less = omega arith
other_below (suc zero) less = omega arith
other_below (suc (suc zero)) less = omega arith
other_below (suc (suc (suc zero))) less = omega arith
other_below (suc (suc (suc (suc n)))) less = absurd (omega (arith, less))

pub other_pair : (file : ℕ) → file < 4 → other_of file / 2 ≡ file / 2
other_pair zero less = refl
other_pair (suc zero) less = refl
other_pair (suc (suc zero)) less = refl
other_pair (suc (suc (suc zero))) less = refl
other_pair (suc (suc (suc (suc n)))) less = absurd (omega (arith, less))

pub other_apart : (file : ℕ) → other_of file ≢ file
other_apart zero same = absurd (omega (arith, same))
other_apart (suc zero) same = absurd (omega (arith, same))
other_apart (suc (suc file)) same = other_apart file (omega (arith, same))

pub other_twice : (file : ℕ) → other_of (other_of file) ≡ file
other_twice zero = refl
other_twice (suc zero) = refl
other_twice (suc (suc file)) = ap (λ (n : ℕ). suc (suc n)) (other_twice file)
