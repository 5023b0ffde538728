use Rattle.std.specs.Prelude.{◌≡◌, ◌⊎◌, ℕ, ℤ, pos, ◌≤ℤ◌, ◌<ℤ◌, ◌<◌, ◌≤◌, List, [], ◌∷◌, Bool, true, Option, Some, IsSome, ⊤}
use Rattle.std.specs.Ordering.{nat_cmp, int_cmp, ordering_then}
use Rattle.std.specs.declared.cmp.Ordering.{Ordering}
use Rattle.std.specs.declared.cmp.Ordering.TheVariants.{Less}
use Rattle.std.specs.BTreeMap.{is_at}
use Rattle.std.specs.Map.{lookup}

-- x stands in the list
abbrev pub In : {X : Type 0} → X → List X → Type 0
In x [] = ⊥
In x (y ∷ ys) = (x ≡ y) ⊎ In x ys

-- keys by digest, then place, then number
abbrev pub key_cmp : (ℕ × ℤ) × ℕ → (ℕ × ℤ) × ℕ → Ordering
key_cmp x y = ordering_then (ordering_then (nat_cmp x.0.0 y.0.0) (int_cmp x.0.1 y.0.1)) (nat_cmp x.1 y.1)

-- the key with that number stands in the index
abbrev pub IsKey : List (((ℕ × ℤ) × ℕ) × ⊤) → (ℕ × ℤ) × ℕ → Type 0
IsKey ks k = IsSome (lookup (is_at (key_cmp k)) ks)

-- each of these keys stands in the index with the number
abbrev pub Shows : List (ℕ × ℤ) → ℕ → List (((ℕ × ℤ) × ℕ) × ⊤) → Type 0
Shows own s ks = (k : ℕ × ℤ) → In k own → IsKey ks (k, s)

-- none of these keys stands in the index with the number
abbrev pub Hides : List (ℕ × ℤ) → ℕ → List (((ℕ × ℤ) × ℕ) × ⊤) → Type 0
Hides own s ks = (k : ℕ × ℤ) → In k own → IsKey ks (k, s) → ⊥

-- each row stands in the index by each of its keys. The index may hold more
abbrev pub IsIndexed : {T : Type 0} → (T → List (ℕ × ℤ)) → (ℕ → Option T) → List (((ℕ × ℤ) × ℕ) × ⊤) → Type 0
IsIndexed {T} keys rows ks = (s : ℕ) (r : T) → rows s ≡ Some r → Shows (keys r) s ks

-- no key is gone
abbrev pub IsMore : List (((ℕ × ℤ) × ℕ) × ⊤) → List (((ℕ × ℤ) × ℕ) × ⊤) → Type 0
IsMore ks ks' = (k : (ℕ × ℤ) × ℕ) → IsKey ks k → IsKey ks' k

-- only keys of that number are gone
abbrev pub IsLess : ℕ → List (((ℕ × ℤ) × ℕ) × ⊤) → List (((ℕ × ℤ) × ℕ) × ⊤) → Type 0
IsLess n ks ks' = (k : (ℕ × ℤ) × ℕ) → (k.1 ≡ n → ⊥) → IsKey ks k → IsKey ks' k

-- the key lies in the range: its digest, and its place from the first on and below the end
abbrev pub Lies : (ℕ × ℤ) × ℤ → ℕ × ℤ → Type 0
Lies g k = (k.0 ≡ g.0.0) × (g.0.1 ≤ℤ k.1) × (k.1 <ℤ g.1)

-- the key that is found by its digest alone, and its range
abbrev pub digest_key : ℕ → ℕ × ℤ
digest_key digest = (digest, pos 0)

abbrev pub digest_range : ℕ → (ℕ × ℤ) × ℤ
digest_range digest = (digest_key digest, pos 1)

-- one of the keys lies in one of the ranges
abbrev pub IsReached : List ((ℕ × ℤ) × ℤ) → List (ℕ × ℤ) → Type 0
IsReached gs own = (g : (ℕ × ℤ) × ℤ) × (k : ℕ × ℤ) × In g gs × In k own × Lies g k

-- each row that passes and has a key in the range counts
abbrev pub HasAll : {T : Type 0} → (ℕ → T → Type 0) → (ℕ → Option T) → (T → Bool) → (ℕ × ℤ) × ℤ → List (((ℕ × ℤ) × ℕ) × ⊤) → Type 0
HasAll {T} counts rows test g ks = (s : ℕ) (r : T) (k : ℕ × ℤ) → rows s ≡ Some r → test r ≡ true → Lies g k → IsKey ks (k, s) → counts s r

-- a key with that number is still to come
abbrev pub Comes : ℕ → List (((ℕ × ℤ) × ℕ) × ⊤) → Type 0
Comes s [] = ⊥
Comes s (e ∷ ks) = (e.0.1 ≡ s) ⊎ Comes s ks

-- each row that passes and has a key in the range counts, or is still to come
abbrev pub CountsOrComes : {T : Type 0} → (ℕ → T → Type 0) → (ℕ → Option T) → (T → Bool) → (ℕ × ℤ) × ℤ → List (((ℕ × ℤ) × ℕ) × ⊤) → List (((ℕ × ℤ) × ℕ) × ⊤) → Type 0
CountsOrComes {T} counts rows test g ks left = (s : ℕ) (r : T) (k : ℕ × ℤ) → rows s ≡ Some r → test r ≡ true → Lies g k → IsKey ks (k, s) → counts s r ⊎ Comes s left

-- this very key is still to come
abbrev pub Stands : (ℕ × ℤ) × ℕ → List (((ℕ × ℤ) × ℕ) × ⊤) → Type 0
Stands k [] = ⊥
Stands k (e ∷ ks) = (e.0 ≡ k) ⊎ Stands k ks

-- the keys to come lie in the range, in their order
abbrev pub AreInTurn : (ℕ × ℤ) × ℤ → List (((ℕ × ℤ) × ℕ) × ⊤) → Type 0
AreInTurn g [] = ⊤
AreInTurn g (e ∷ ks) = Lies g e.0.0 × ((k : (ℕ × ℤ) × ℕ) → Stands k ks → key_cmp e.0 k ≡ Less) × AreInTurn g ks

-- each key in the range whose row passes is still to come
abbrev pub AllCome : {T : Type 0} → (ℕ → Option T) → (T → Bool) → (ℕ × ℤ) × ℤ → List (((ℕ × ℤ) × ℕ) × ⊤) → List (((ℕ × ℤ) × ℕ) × ⊤) → Type 0
AllCome {T} rows test g ks left = (s : ℕ) (r : T) (k : ℕ × ℤ) → rows s ≡ Some r → test r ≡ true → Lies g k → IsKey ks (k, s) → Stands (k, s) left

-- the second key has a later place, or the same one and no lesser number
abbrev pub IsFrom : (ℕ × ℤ) × ℕ → (ℕ × ℤ) × ℕ → Type 0
IsFrom a b = (a.0.1 <ℤ b.0.1) ⊎ ((a.0.1 ≡ b.0.1) × (a.1 ≤ b.1))

-- there is a key from which each key in the range comes whose row passes
abbrev pub ComeFrom : {T : Type 0} → (ℕ → Option T) → (T → Bool) → (ℕ × ℤ) × ℤ → List (((ℕ × ℤ) × ℕ) × ⊤) → Option ((ℕ × ℤ) × ℕ) → Type 0
ComeFrom {T} rows test g ks found = (s : ℕ) (r : T) (k : ℕ × ℤ) → rows s ≡ Some r → test r ≡ true → Lies g k → IsKey ks (k, s) → (h : (ℕ × ℤ) × ℕ) × (found ≡ Some h) × IsFrom h (k, s)

-- there is a number, and it is no greater than this one
abbrev pub IsUpTo : Option ℕ → ℕ → Type 0
IsUpTo best s = (b : ℕ) × (best ≡ Some b) × (b ≤ s)

-- the row of that number passes
abbrev pub IsPassing : {T : Type 0} → (ℕ → Option T) → (T → Bool) → ℕ → Type 0
IsPassing {T} rows test s = (r : T) × (rows s ≡ Some r) × (test r ≡ true)

-- the first number is less, or they are one and the second isn't greater
abbrev pub IsBefore : ℕ × ℕ → ℕ × ℕ → Type 0
IsBefore a b = (a.0 < b.0) ⊎ ((a.0 ≡ b.0) × (a.1 ≤ b.1))

-- the row of that number, in a tree
abbrev pub row_at : {T : Type 0} → List (ℕ × T) → ℕ → Option T
row_at es s = lookup (is_at (nat_cmp s)) es
