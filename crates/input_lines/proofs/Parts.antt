-- The part of a line at the front of some bytes.
use Rattle.std.proofs.Common.{◌≡◌, ◌<◌, ◌≤◌, ◌+◌, ℕ, zero, suc, Bool, true, false, List, [], ◌∷◌, length, take, drop, get_or, position, cond, not, Some, None, ◌==◌, nat_lt, refl, ap, ◌∙◌, sym, arith, add-one}
use Rattle.std.proofs.Math.Seq.{drop-cons}
use Rattle.std.proofs.lemmas.List.Quantifiers.{position-Some}
use Rattle.std.proofs.lemmas.List.Sums.{prefix_len_passes}
use Rattle.std.proofs.lemmas.Bool.{eqb-true, ltb-false}
use Rattle.std.specs.List.{position_or_len}
use Rattle.input_lines.specs.Lines.{IsWithin}
use Rattle.input_lines.specs.Buffers.{IsPart}

within_from : (n : ℕ) (xs : List ℕ) → n ≤ length xs → ((k : ℕ) → k < n → (get_or xs k 0 == 10) ≡ false) → IsWithin (take n xs)
within_from zero [] le h = tt
within_from zero (x ∷ xs) le h = tt
within_from (suc n) [] le h = absurd (omega arith)
within_from (suc n) (x ∷ xs) le h = (h 0 (omega arith), within_from n xs (omega arith) (λ k less. h (suc k) (omega (arith, less))))

-- byte 10 is byte 10
is_ten : (bytes : List ℕ) (k : ℕ) → k < length bytes → (get_or bytes k 0 == 10) ≡ true → drop k bytes ≡ 10 ∷ drop (k + 1) bytes
is_ten bytes k less is =
    let ten : get_or bytes k 0 ≡ 10 = eqb-true (get_or bytes k 0) 10 is in
    drop-cons bytes k 0 less ∙ ap (λ (b : ℕ). b ∷ drop (suc k) bytes) ten ∙ ap (λ (n : ℕ). 10 ∷ drop n bytes) (sym (add-one k))

pub part_found : (bytes : List ℕ) (k : ℕ) → position (λ b. b == 10) bytes ≡ Some k → IsPart bytes (record { size = k; is_ended = true })
part_found bytes k is =
    let at = position-Some (λ (b : ℕ). b == 10) bytes k 0 is in
    let less : k < length bytes = at.0 in
    record {
      fits = omega (arith, less);
      within = within_from k bytes (omega (arith, less)) at.2;
      ended = λ _. (less, is_ten bytes k less at.1);
      all = λ off. cc;
    }

-- no place was found
none_found : (test : Bool) (k : ℕ) → cond test (Some k) None ≡ None → test ≡ false
none_found true k is = cc
none_found false k is = refl

not_passes : (b : Bool) → not b ≡ true → b ≡ false
not_passes true is = cc
not_passes false is = refl

pub part_all : (bytes : List ℕ) → position (λ b. b == 10) bytes ≡ None → IsPart bytes (record { size = length bytes; is_ended = false })
part_all bytes is =
    let test : ℕ → Bool = λ b. b == 10 in
    let off : nat_lt (position_or_len (λ b. b == 10) bytes) (length bytes) ≡ false = none_found _ _ is in
    let far : length bytes ≤ position_or_len (λ b. b == 10) bytes = ltb-false _ _ off in
    record {
      fits = omega arith;
      within = within_from (length bytes) bytes (omega arith) (λ k less. not_passes (get_or bytes k 0 == 10) (prefix_len_passes (λ b. not (b == 10)) bytes k 0 (omega (arith, less, far))));
      ended = λ on. cc;
      all = λ _. refl;
    }
