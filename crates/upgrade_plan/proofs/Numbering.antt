-- Lists whose elements are numbered.
use Rattle.std.proofs.Common.{◌+◌, ◌++◌, ◌∷◌, ◌≡◌, List, [], ap, arith, length, map, refl, suc, ℕ}
use Rattle.book_rows.specs.Lists.{numbered}

module _ {X Y : Type 0} (f : ℕ → X → Y) where
  -- one more element, with the next number
  pub numbered_push : (n m : ℕ) (xs : List X) (x : X) → m ≡ n + length xs → numbered f n (xs ++ x ∷ []) ≡ numbered f n xs ++ f m x ∷ []
  numbered_push n m [] x e = (let same : m ≡ n = omega arith in rw same refl)
  numbered_push n m (y ∷ ys) x e = ap (λ zs. f n y ∷ zs) (numbered_push (n + 1) m ys x (omega arith))

  pub length-numbered : (n : ℕ) (xs : List X) → length (numbered f n xs) ≡ length xs
  length-numbered n [] = refl
  length-numbered n (x ∷ xs) = ap suc (length-numbered (n + 1) xs)

  pub numbered-map : {W : Type 0} (g : W → X) (n : ℕ) (ws : List W) → numbered f n (map g ws) ≡ numbered (λ k w. f k (g w)) n ws
  numbered-map g n [] = refl
  numbered-map g n (w ∷ ws) = ap (λ ys. f n (g w) ∷ ys) (numbered-map g (n + 1) ws)
