-- Lists of parts that show what is given at each instant, as few and as long as can be.
use Rattle.std.specs.Prelude.{◌&&◌, ◌∷◌, ◌≡◌, Bool, List, Option, Some, [], cond, int_le, int_lt, not, true, ℤ}
use Rattle.iv_span.specs.Extent.{Extent, has}
use Rattle.book_rows.specs.Lists.{In, list_links}

-- the second doesn't start before the end of the first, and they don't both touch and agree
abbrev pub goes_on : {X : Type 0} → (X → Extent) → (X → X → Bool) → X → X → Bool
goes_on span agrees p q = int_le (span p).end (span q).start && not (agrees p q)

-- a part of the list has the instant
abbrev pub HasInstant : {X : Type 0} → (X → Extent) → List X → ℤ → Type 0
HasInstant {X} span ps t = (p : X) × In p ps × (has (span p) t ≡ true)

-- the parts show at each instant what is given there, ascend, and are as few and as long as can be
pub record AreParts {X V : Type 0} (span : X → Extent) (body : X → V) (agrees : X → X → Bool) (given : ℤ → Option V) (ps : List X) : Type 0 where
  pub linked : list_links (goes_on span agrees) ps ≡ true
  pub proper : (p : X) → In p ps → int_lt (span p).start (span p).end ≡ true
  pub right : (p : X) (t : ℤ) → In p ps → has (span p) t ≡ true → given t ≡ Some (body p)
  pub covers : (t : ℤ) (v : V) → given t ≡ Some v → HasInstant span ps t

-- the parts show what is given at each instant before c, and nothing from there on
pub record AreBuilt {X V : Type 0} (span : X → Extent) (body : X → V) (agrees : X → X → Bool) (given : ℤ → Option V) (c : ℤ) (ps : List X) : Type 0 where
  pub linked : list_links (goes_on span agrees) ps ≡ true
  pub proper : (p : X) → In p ps → int_lt (span p).start (span p).end ≡ true
  pub right : (p : X) (t : ℤ) → In p ps → has (span p) t ≡ true → given t ≡ Some (body p)
  pub low : (p : X) → In p ps → int_le (span p).end c ≡ true
  pub covers : (t : ℤ) (v : V) → int_lt t c ≡ true → given t ≡ Some v → HasInstant span ps t

-- the part put behind the list, or joined to its last one where they touch and agree
abbrev pub put_last : {X : Type 0} → (X → X → Bool) → (X → X → X) → List X → X → List X
put_last agrees merge [] q = q ∷ []
put_last agrees merge (p ∷ []) q = cond (agrees p q) (merge p q ∷ []) (p ∷ q ∷ [])
put_last agrees merge (p ∷ r ∷ ps) q = p ∷ put_last agrees merge (r ∷ ps) q
