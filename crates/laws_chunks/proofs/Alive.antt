-- What the publications put there and did not take away.
use Rattle.std.proofs.Common.{Bool, List, [], ap, arith, cond, false, length, nat_le, not, refl, suc, true, ℕ, ℤ, ◌&&◌, ◌++◌, ◌+◌, ◌<◌, ◌||◌, ◌∙◌, ◌∷◌, ◌≡◌}
use Rattle.std.proofs.lemmas.Bool.Decides.{nat_tests}
use Rattle.std.proofs.lemmas.List.Folds.{list_any-append}
use Rattle.std.specs.List.{list_any}
use Rattle.seg_names.specs.declared.seg_id.SegId.{SegId}
use Rattle.book_rows.specs.Contents.{alive_from, puts, takes}
use Rattle.book_rows.specs.declared.rows.Publication.{Publication}

module _ (q : List ℕ) (t : ℤ) (root : SegId) where
  -- tests that agree count alike
  pub alive_alike : (k : ℕ) (f g : ℕ → Bool) → ((j : ℕ) → f j ≡ g j) → (ms : List Publication) → alive_from k f ms q t root ≡ alive_from k g ms q t root
  alive_alike k f g h [] = refl
  alive_alike k f g h (m ∷ ms) = rw (h k, alive_alike (k + 1) f g h ms) refl

  -- where no place passes, there is none
  pub alive_none : (k : ℕ) (f : ℕ → Bool) (ms : List Publication) → ((j : ℕ) → j < k + length ms → f j ≡ false) → alive_from k f ms q t root ≡ 0
  alive_none k f [] h = refl
  alive_none k f (m ∷ ms) h = rw (h k (omega arith), alive_none (k + 1) f ms (λ j lt. h j (omega arith))) refl

  and_drop : (a b c : Bool) → (a && not (b || (c || false))) ≡ ((a && not c) && not b)
  and_drop a b c = grind arith

  -- one publication more: what it takes away, and what it puts
  pub alive_push : (k : ℕ) (f : ℕ → Bool) (ms : List Publication) (m : Publication)
      → alive_from k f (ms ++ m ∷ []) q t root ≡ alive_from k (λ j. f j && not (takes q t m j)) ms q t root + cond (f (k + length ms)) (puts q t root m) 0
  alive_push k f [] m = rw (plus_none k) (ap (λ (b : Bool). cond b (puts q t root m) 0 + 0) (and_true (f k)) ∙ omega arith) where
    plus_none : (k : ℕ) → k + 0 ≡ k
    plus_none k = omega arith

    and_true : (b : Bool) → (b && true) ≡ b
    and_true true = refl
    and_true false = refl
  alive_push k f (n ∷ ms) m =
      rw (alive_push (k + 1) f ms m, list_any-append (λ x. takes q t x k) ms (m ∷ []), and_drop (f k) (list_any (λ x. takes q t x k) ms) (takes q t m k), shift k (length ms))
      (omega arith) where
        shift : (k n : ℕ) → (k + 1) + n ≡ k + suc n
        shift k n = omega arith

-- no place below the length is at or above it
pub beyond : (n j : ℕ) → j < n → nat_le n j ≡ false
beyond n j lt = grind (arith, nat_tests)
