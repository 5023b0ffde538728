-- Elements that are made with a number.
use Rattle.std.proofs.Common.{Bool, List, [], arith, inl, inr, length, refl, subst, sym, ℕ, ◌+◌, ◌<◌, ◌∷◌, ◌≡◌, ◌≤◌}
use Rattle.book_rows.specs.Lists.{In, Pairs, count, numbered}
use Rattle.laws_chunks.proofs.Members.{all_from_In}

pub numbered_all : {X Y : Type 0} (P : Y → Type 0) (f : ℕ → X → Y) → ((i : ℕ) (x : X) → P (f i x)) → (n : ℕ) (xs : List X) (y : Y) → In y (numbered f n xs) → P y
numbered_all P f h n [] y i = absurd i
numbered_all P f h n (x ∷ xs) y (inl e) = subst P (sym e) (h n x)
numbered_all P f h n (x ∷ xs) y (inr i) = numbered_all P f h (n + 1) xs y i

pub count_numbered : {X Y : Type 0} (p : Y → Bool) (g : X → Bool) (f : ℕ → X → Y) → ((i : ℕ) (x : X) → p (f i x) ≡ g x) → (n : ℕ) (xs : List X) → count p (numbered f n xs) ≡ count g xs
count_numbered p g f h n [] = refl
count_numbered p g f h n (x ∷ xs) = rw (h n x, count_numbered p g f h (n + 1) xs) refl

pub length_numbered : {X Y : Type 0} (f : ℕ → X → Y) (n : ℕ) (xs : List X) → length (numbered f n xs) ≡ length xs
length_numbered f n [] = refl
length_numbered f n (x ∷ xs) = rw (length_numbered f (n + 1) xs) refl

pub record IsNumbered {X Y : Type 0} (f : ℕ → X → Y) (n : ℕ) (xs : List X) (y : Y) : Type 0 where
  pub place : ℕ
  pub item : X
  pub among : In item xs
  pub is : y ≡ f place item
  pub low : n ≤ place
  pub high : place < n + length xs

pub numbered_In : {X Y : Type 0} (f : ℕ → X → Y) (n : ℕ) (xs : List X) (y : Y) → In y (numbered f n xs) → IsNumbered f n xs y
numbered_In f n [] y i = absurd i
numbered_In f n (x ∷ xs) y (inl e) = record { place = n; item = x; among = inl refl; is = e; low = omega arith; high = omega arith }
numbered_In f n (x ∷ xs) y (inr i) = let w = numbered_In f (n + 1) xs y i in record { place = w.place; item = w.item; among = inr w.among; is = w.is; low = omega arith; high = omega arith }

pub numbered_pairs : {X Y : Type 0} (R : Y → Y → Type 0) (f : ℕ → X → Y) → ((i j : ℕ) (x y : X) → i < j → R (f i x) (f j y)) → (n : ℕ) (xs : List X) → Pairs R (numbered f n xs)
numbered_pairs R f h n [] = tt
numbered_pairs R f h n (x ∷ xs) = (
  all_from_In (R (f n x)) (numbered f (n + 1) xs) (λ y i. let w = numbered_In f (n + 1) xs y i in subst (R (f n x)) (sym w.is) (h n w.place x w.item (below w.low))),
  numbered_pairs R f h (n + 1) xs,
) where
  below : {m : ℕ} → n + 1 ≤ m → n < m
  below le = omega arith
