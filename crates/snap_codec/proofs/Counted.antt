-- Values one after the other, as a loop reads and writes them.
use Rattle.std.proofs.Common.{◌≡◌, ℕ, suc, ◌-◌, ◌+◌, ◌≤◌, ◌<◌, List, [], ◌∷◌, ◌++◌, Result, Ok, Err, refl, sym, ap, ◌∙◌, append_assoc, arith}
use Rattle.std.proofs.lemmas.List.{append-nil}
use Rattle.book_rows.specs.Lists.{on_ok}
use Rattle.snap_codec.specs.declared.fault.ReadFault.{ReadFault}
use Rattle.snap_codec.specs.declared.fault.ReadFault.TheVariants.{Bad, OutOfMemory}
use Rattle.snap_codec.specs.Outcomes.{Fails}
use Rattle.snap_codec.specs.Readers.{Reader, each_at}

-- what was read before, and what is still read
abbrev pub with_front : {A : Type 0} → List A → Result (List A × List ℕ) ℕ → Result (List A × List ℕ) ℕ
with_front front read = on_ok read (λ x. Ok (front ++ x.0, x.1))

module _ {A : Type 0} (reads : Reader A) where
  regroup : (front : List A) (n : A) (read : Result (List A × List ℕ) ℕ) → with_front front (on_ok read (λ x. Ok (n ∷ x.0, x.1))) ≡ with_front (front ++ n ∷ []) read
  regroup front n (Ok x) = ap (λ (ns : List A). Ok (ns, x.1)) (simp append_assoc)
  regroup front n (Err left) = refl

  pub goes_on : (front : List A) (count i : ℕ) (bytes : List ℕ) (n : A) (after : List ℕ) (total : Result (List A × List ℕ) ℕ) → i < count → reads bytes ≡ Ok (n, after)
      → with_front front (each_at reads (count - i) bytes) ≡ total → with_front (front ++ n ∷ []) (each_at reads (count - (i + 1)) after) ≡ total
  unfolding each_at
  goes_on front count i bytes n after total lt h so_far =
      let k : count - i ≡ suc (count - (i + 1)) = omega arith in
      let one : with_front front (each_at reads (count - i) bytes) ≡ with_front (front ++ n ∷ []) (each_at reads (count - (i + 1)) after) = rw (k, h) (regroup front n (each_at reads (count - (i + 1)) after)) in
      sym one ∙ so_far

  pub ends : (e : ReadFault) (front : List A) (count i : ℕ) (bytes : List ℕ) (total : Result (List A × List ℕ) ℕ) → i < count → Fails e (reads bytes)
      → with_front front (each_at reads (count - i) bytes) ≡ total → Fails e total
  unfolding each_at
  ends OutOfMemory front count i bytes total lt h so_far = tt
  ends (Bad left) front count i bytes total lt h so_far =
      let k : count - i ≡ suc (count - (i + 1)) = omega arith in
      let one : with_front front (each_at reads (count - i) bytes) ≡ Err left = rw (k, h) refl in
      sym so_far ∙ one

  pub is_done : (front : List A) (count i : ℕ) (bytes : List ℕ) (total : Result (List A × List ℕ) ℕ) → count ≤ i → with_front front (each_at reads (count - i) bytes) ≡ total → total ≡ Ok (front, bytes)
  unfolding each_at
  is_done front count i bytes total le so_far =
      let k : count - i ≡ 0 = omega arith in
      let one : with_front front (each_at reads (count - i) bytes) ≡ Ok (front, bytes) = rw k (ap (λ (ns : List A). Ok (ns, bytes)) (append-nil front)) in
      sym so_far ∙ one

-- what was put first, and what was put after it
pub put_then : (old a more one new : List ℕ) → one ≡ old ++ a → new ≡ one ++ more → new ≡ old ++ (a ++ more)
put_then old a more one new p q = q ∙ ap (λ (x : List ℕ). x ++ more) p ∙ append_assoc old a more
