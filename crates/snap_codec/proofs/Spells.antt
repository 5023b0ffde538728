-- When a reader reads exactly what is written, and how such readers follow one another.
use Rattle.std.proofs.Common.{◌≡◌, ℕ, Bool, true, false, cond, List, ◌++◌, length, Option, Some, None, Result, Ok, Err, refl, sym, ap, subst, ◌∙◌, append_assoc}
use Rattle.wire_fields.specs.Fields.{AreBytes, IsReadBack, HasOneField}
use Rattle.wire_fields.proofs.FieldsTaken.{AreBytes-append_right}
use Rattle.book_rows.specs.Lists.{on_ok}
use Rattle.snap_codec.specs.Fits.{Always}
use Rattle.snap_codec.specs.Readers.{Reader, field_by, field_at, checked_at, chosen_at, both_at, made_at}

-- What is written of a value that fits is read again, whatever follows it; and what is read was written so, of a value that fits.
pub record Spells {A : Type 0} (put : A → List ℕ) (Fits : A → Type 0) (read : Reader A) : Type 0 where
  pub again : (a : A) (rest : List ℕ) → Fits a → read (put a ++ rest) ≡ Ok (a, rest)
  pub takes : (bytes : List ℕ) (a : A) (rest : List ℕ) → AreBytes bytes → read bytes ≡ Ok (a, rest) → (bytes ≡ put a ++ rest) × Fits a

-- a value that was read first, and what is read of the bytes after it
pub ok_parts : {X Y E : Type 0} (r : Result X E) (f : X → Result Y E) (y : Y) → on_ok r f ≡ Ok y → (x : X) × (r ≡ Ok x) × (f x ≡ Ok y)
ok_parts (Ok x) f y e = (x, refl, e)
ok_parts (Err why) f y e = absurd cc

pub ok_is : {X E : Type 0} (x y : X) → ◌≡◌ {A = Result X E} (Ok x) (Ok y) → x ≡ y
ok_is x y e = cc

-- what a reader read, and what is read of the bytes after it
pub record Step {A C : Type 0} (put : A → List ℕ) (Fits : A → Type 0) (bytes : List ℕ) (f : A × List ℕ → Result C ℕ) (y : C) : Type 0 where
  pub value : A
  pub rest : List ℕ
  pub parts : bytes ≡ put value ++ rest
  pub fits : Fits value
  pub are_bytes : AreBytes rest
  pub more : f (value, rest) ≡ Ok y

pub step : {A C : Type 0} {put : A → List ℕ} {Fits : A → Type 0} {read : Reader A} → Spells put Fits read → (bytes : List ℕ) → AreBytes bytes → (f : A × List ℕ → Result C ℕ) (y : C) → on_ok (read bytes) f ≡ Ok y → Step put Fits bytes f y
step {put = put} {read = read} s bytes are f y e =
    let b = ok_parts (read bytes) f y e in
    let t = s.takes bytes b.0.0 b.0.1 are b.1 in
    record { value = b.0.0; rest = b.0.1; parts = t.0; fits = t.1; are_bytes = AreBytes-append_right (put b.0.0) b.0.1 (subst AreBytes t.0 are); more = b.2 }

-- the parts of two steps
pub then : (a x b y c : List ℕ) → a ≡ x ++ b → b ≡ y ++ c → a ≡ (x ++ y) ++ c
then a x b y c p q = p ∙ ap (λ (t : List ℕ). x ++ t) q ∙ sym (append_assoc x y c)

pub when_ok : {A E : Type 0} (b : Bool) (o : A) (why : E) (y : A) → cond b (Ok o) (Err why) ≡ Ok y → (b ≡ true) × (o ≡ y)
when_ok true o why y e = (refl, ok_is o y e)
when_ok false o why y e = absurd cc

field_some : {A : Type 0} (bytes : List ℕ) (o : Option (A × List ℕ)) (x : A × List ℕ) → field_by bytes o ≡ Ok x → o ≡ Some x
field_some bytes (Some y) x e = ap Some (ok_is y x e)
field_some bytes None x e = absurd cc

-- one field
pub field : {A : Type 0} {put : A → List ℕ} {Fits : A → Type 0} {read : List ℕ → Option (A × List ℕ)} → IsReadBack Fits put read → HasOneField Fits put read → Spells put Fits (field_at read)
unfolding field_at
field {read = read} back one = record {
  again = λ a rest h. rw (back a rest h) refl;
  takes = λ bytes a rest are e. one bytes a rest are (field_some bytes (read bytes) (a, rest) e);
}

-- a value that passes a test
pub checked : {A : Type 0} {put : A → List ℕ} {Fits : A → Type 0} {read : Reader A} (test : A → Bool) → Spells put Fits read → Spells put (λ a. Fits a × (test a ≡ true)) (checked_at test read)
unfolding checked_at
checked {A = A} {put = put} {Fits = Fits} test s = record {
  again = λ a rest h. rw (s.again a rest h.0, h.1) refl;
  takes = λ bytes a rest are e.
      let k = step s bytes are (λ (x : A × List ℕ). cond (test x.0) (Ok x) (Err (length bytes))) (a, rest) e in
      let g = when_ok (test k.value) (k.value, k.rest) (length bytes) (a, rest) k.more in
      subst (λ (x : A × List ℕ). (bytes ≡ put x.0 ++ x.1) × (Fits x.0 × (test x.0 ≡ true))) g.1 (k.parts, (k.fits, g.0));
}

-- the same, where what has to fit is said otherwise
pub said : {A : Type 0} {put : A → List ℕ} {F : A → Type 0} {read : Reader A} (G : A → Type 0) → ((a : A) → G a → F a) → ((a : A) → F a → G a) → Spells put F read → Spells put G read
said G to from s = record {
  again = λ a rest h. s.again a rest (to a h);
  takes = λ bytes a rest are e. let t = s.takes bytes a rest are e in (t.0, from a t.1);
}

-- the bytes of a value, and of one whose form the first chooses
abbrev pub chosen_bytes : {A B : Type 0} → (A → List ℕ) → (A → B → List ℕ) → A × B → List ℕ
chosen_bytes first second v = first v.0 ++ second v.0 v.1

abbrev pub FitsChosen : {A B : Type 0} → (A → Type 0) → (A → B → Type 0) → A × B → Type 0
FitsChosen First Second v = First v.0 × Second v.0 v.1

-- a value, and one whose reader the first chooses
pub chosen : {A B : Type 0} {p : A → List ℕ} {F : A → Type 0} {r : Reader A} {q : A → B → List ℕ} {G : A → B → Type 0} {s : A → Reader B} → Spells p F r → ((a : A) → Spells (q a) (G a) (s a)) → Spells (chosen_bytes p q) (FitsChosen F G) (chosen_at r s)
unfolding chosen_at
chosen {A = A} {B = B} {p = p} {F = F} {r = r} {q = q} {G = G} {s = s} first second = record {
  again = λ v rest h. rw (append_assoc (p v.0) (q v.0 v.1) rest, first.again v.0 (q v.0 v.1 ++ rest) h.0, (second v.0).again v.1 rest h.1) refl;
  takes = λ bytes v rest are e.
      let a = step first bytes are (λ (a : A × List ℕ). on_ok (s a.0 a.1) (λ (b : B × List ℕ). Ok ((a.0, b.0), b.1))) (v, rest) e in
      let b = step (second a.value) a.rest a.are_bytes (λ (b : B × List ℕ). Ok ((a.value, b.0), b.1)) (v, rest) a.more in
      subst (λ (x : (A × B) × List ℕ). (bytes ≡ chosen_bytes p q x.0 ++ x.1) × FitsChosen F G x.0) (ok_is ((a.value, b.value), b.rest) (v, rest) b.more)
      (then bytes (p a.value) a.rest (q a.value b.value) b.rest a.parts b.parts, (a.fits, b.fits));
}

abbrev pub both_bytes : {A B : Type 0} → (A → List ℕ) → (B → List ℕ) → A × B → List ℕ
both_bytes first second v = first v.0 ++ second v.1

abbrev pub FitsBoth : {A B : Type 0} → (A → Type 0) → (B → Type 0) → A × B → Type 0
FitsBoth First Second v = First v.0 × Second v.1

-- two values, one after the other
pub both : {A B : Type 0} {p : A → List ℕ} {F : A → Type 0} {r : Reader A} {q : B → List ℕ} {G : B → Type 0} {s : Reader B} → Spells p F r → Spells q G s → Spells (both_bytes p q) (FitsBoth F G) (both_at r s)
both first second = chosen first (λ a. second)

-- two values, of which the second alone has to fit
pub always : {A B : Type 0} {p : A → List ℕ} {r : Reader A} {q : B → List ℕ} {G : B → Type 0} {s : Reader B} → Spells p Always r → Spells q G s → Spells (both_bytes p q) (λ v. G v.1) (both_at r s)
always {p = p} {q = q} first second =
    let s = both first second in
    record {
      again = λ v rest h. s.again v rest (tt, h);
      takes = λ bytes v rest are e. let t = s.takes bytes v rest are e in (t.0, t.1.1);
    }

-- what is made of a value, from which its parts are told again
pub made : {A Z : Type 0} {p : A → List ℕ} {F : A → Type 0} {r : Reader A} (G : Z → Type 0) (make : A → Z) (parts : Z → A)
    → ((z : Z) → G z → F (parts z)) → ((a : A) → F a → G (make a)) → ((z : Z) → make (parts z) ≡ z) → ((a : A) → F a → parts (make a) ≡ a)
    → Spells p F r → Spells (λ z. p (parts z)) G (made_at r make)
unfolding made_at
made {A = A} {Z = Z} {p = p} {r = r} G make parts to from back forth s = record {
  again = λ z rest h. rw (s.again (parts z) rest (to z h)) (ap (λ (x : Z). Ok (x, rest)) (back z));
  takes = λ bytes z rest are e.
      let a = step s bytes are (λ (a : A × List ℕ). Ok (make a.0, a.1)) (z, rest) e in
      let told : bytes ≡ p (parts (make a.value)) ++ a.rest = a.parts ∙ ap (λ (x : A). p x ++ a.rest) (sym (forth a.value a.fits)) in
      subst (λ (x : Z × List ℕ). (bytes ≡ p (parts x.0) ++ x.1) × G x.0) (ok_is (make a.value, a.rest) (z, rest) a.more) (told, from a.value a.fits);
}

-- a row made of its fields, each of which has to fit
pub row : {A Z : Type 0} {p : A → List ℕ} {F : A → Type 0} {r : Reader A} (make : A → Z) (parts : Z → A) → ((z : Z) → make (parts z) ≡ z) → ((a : A) → parts (make a) ≡ a) → Spells p F r → Spells (λ z. p (parts z)) (λ z. F (parts z)) (made_at r make)
row {F = F} make parts back forth s = made (λ z. F (parts z)) make parts (λ z h. h) (λ a h. subst F (sym (forth a)) h) back (λ a h. forth a) s
