-- When a reader reads exactly what is written, and how such readers follow one another.
use Rattle.std.proofs.Common.{◌≡◌, ℕ, ◌&&◌, Bool, true, false, cond, List, ◌++◌, Option, Some, None, refl, sym, ap, subst, ◌∙◌, append_assoc}
use Rattle.wire_fields.specs.Fields.{◌>>=◌, AreBytes}
use Rattle.wire_fields.proofs.FieldsTaken.{AreBytes-append_right, bind_some}
use Rattle.cmd_codec.specs.Reading.{Reader}

pub unless_some : {A : Type 0} (b : Bool) (x y : A) → cond b None (Some x) ≡ Some y → (b ≡ false) × (x ≡ y)
unless_some true x y e = absurd cc
unless_some false x y e = (refl, cc)

pub when_some : {A : Type 0} (b : Bool) (o : Option A) (y : A) → cond b o None ≡ Some y → (b ≡ true) × (o ≡ Some y)
when_some true o y e = (refl, e)
when_some false o y e = absurd cc

pub some_is : {A : Type 0} (x y : A) → Some x ≡ Some y → x ≡ y
some_is x y e = cc

pub and_true : (a b : Bool) → (a && b) ≡ true → (a ≡ true) × (b ≡ true)
and_true true b h = (refl, h)
and_true false b h = absurd cc

pub both_true : (a b : Bool) → a ≡ true → b ≡ true → (a && b) ≡ true
both_true true b h k = k
both_true false b h k = absurd cc

-- a test that each value passes
abbrev pub any : {A : Type 0} → A → Bool
any a = true

-- What is written of a good value is read again, whatever follows it; and what is read was written so, of a sure value.
pub record Spells {A : Type 0} (put : A → List ℕ) (good sure : A → Bool) (read : Reader A) : Type 0 where
  pub again : (a : A) (rest : List ℕ) → good a ≡ true → read (put a ++ rest) ≡ Some (a, rest)
  pub takes : (bytes : List ℕ) (a : A) (rest : List ℕ) → AreBytes bytes → read bytes ≡ Some (a, rest) → (bytes ≡ put a ++ rest) × (sure a ≡ true)

-- a reader's value, the bytes after it, and what was read of these
pub record Step {A C : Type 0} (put : A → List ℕ) (sure : A → Bool) (bytes : List ℕ) (f : A × List ℕ → Option C) (y : C) : Type 0 where
  pub value : A
  pub rest : List ℕ
  pub parts : bytes ≡ put value ++ rest
  pub is_sure : sure value ≡ true
  pub fits : AreBytes rest
  pub more : f (value, rest) ≡ Some y

pub step : {A C : Type 0} (put : A → List ℕ) (good sure : A → Bool) (read : Reader A) → Spells put good sure read → (bytes : List ℕ) → AreBytes bytes → (f : A × List ℕ → Option C) (y : C) → (read bytes >>= f) ≡ Some y → Step put sure bytes f y
step put good sure read s bytes fits f y e =
    let b = bind_some (read bytes) f y e in
    let t = s.takes bytes b.0.0 b.0.1 fits b.1 in
    record { value = b.0.0; rest = b.0.1; parts = t.0; is_sure = t.1; fits = AreBytes-append_right (put b.0.0) b.0.1 (subst AreBytes t.0 fits); more = b.2 }

-- the parts of two steps
pub then : (a x b y c : List ℕ) → a ≡ x ++ b → b ≡ y ++ c → a ≡ (x ++ y) ++ c
then a x b y c p q = p ∙ ap (λ (t : List ℕ). x ++ t) q ∙ sym (append_assoc x y c)

-- a reader with a test after it
pub checked_again : {A : Type 0} (read : Option (A × List ℕ)) (test : A → Bool) (a : A) (rest : List ℕ) → read ≡ Some (a, rest) → test a ≡ true → (read >>= λ x. cond (test x.0) (Some x) None) ≡ Some (a, rest)
checked_again read test a rest e h = rw (e, h) refl

pub checked_takes : {A : Type 0} (read : Option (A × List ℕ)) (test : A → Bool) (y : A × List ℕ) → (read >>= λ x. cond (test x.0) (Some x) None) ≡ Some y → read ≡ Some y
checked_takes read test y e =
    let b = bind_some read (λ x. cond (test x.0) (Some x) None) y e in
    let g = when_some (test b.0.0) (Some b.0) y b.2 in
    b.1 ∙ g.1
