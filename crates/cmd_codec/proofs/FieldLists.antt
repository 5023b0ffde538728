-- Values one after another, each read as it is written.
use Rattle.std.proofs.Common.{◌≡◌, ℕ, ◌+◌, ◌≤◌, Bool, true, false, cond, List, ◌++◌, length, Option, Some, None, refl, ap, ◌∙◌, append_assoc, arith}
use Rattle.std.proofs.lemmas.List.{length-append}
use Rattle.std.proofs.lemmas.Option.{some_pair_parts}
use Rattle.wire_fields.specs.Fields.{◌>>=◌, AreBytes}
use Rattle.cmd_codec.specs.Reading.{Reader}
use Rattle.cmd_codec.proofs.Readers.{Spells, step, then, unless_some}

-- a kind of value: how it is written and read, which values are written, and what is known of one that was read
pub record Field (A : Type 0) : Type 0 where
  pub put : A → List ℕ
  pub good : A → Bool
  pub sure : A → Bool
  pub read : Reader A
  pub spells : Spells put good sure read

-- what is written of a good value isn't longer than that
abbrev pub IsWithin : {A : Type 0} → Field A → ℕ → Type 0
IsWithin {A} f most = (a : A) → f.good a ≡ true → length (f.put a) ≤ most

-- the value that was made, and the bytes after the last one read
abbrev pub done : {A Z : Type 0} → (A → Z) → A × List ℕ → Option (Z × List ℕ)
done make x = Some (make x.0, x.1)

-- the same, where the last value fails a test
abbrev pub done_unless : {A Z : Type 0} → (A → Bool) → (A → Z) → A × List ℕ → Option (Z × List ℕ)
done_unless test make x = cond (test x.0) None (Some (make x.0, x.1))

join : (xs ys : List ℕ) (a b : ℕ) → length xs ≤ a → length ys ≤ b → length (xs ++ ys) ≤ a + b
join xs ys a b p q = omega (arith, length-append xs ys)

pub again1 : {A Z : Type 0} (fA : Field A) (make : A → Z) (a : A) (rest : List ℕ) → fA.good a ≡ true
    → (fA.read (fA.put a ++ rest) >>= done make) ≡ Some (make a, rest)
again1 fA make a rest ha = rw (fA.spells.again a rest ha) refl

pub record Taken1 {A Z : Type 0} (fA : Field A) (make : A → Z) (bytes : List ℕ) (y : Z) (rest : List ℕ) : Type 0 where
  pub a : A
  pub made : make a ≡ y
  pub parts : bytes ≡ fA.put a ++ rest
  pub sure_a : fA.sure a ≡ true

pub takes1 : {A Z : Type 0} (fA : Field A) (make : A → Z) (bytes : List ℕ) (y : Z) (rest : List ℕ) → AreBytes bytes → (fA.read bytes >>= done make) ≡ Some (y, rest) → Taken1 fA make bytes y rest
takes1 {A = A} {Z = Z} fA make bytes y rest fits e =
    let s = step fA.put fA.good fA.sure fA.read fA.spells bytes fits (done make) (y, rest) e in
    let p = some_pair_parts (make s.value) y s.rest rest s.more in
    record { a = s.value; made = p.0; parts = s.parts ∙ ap (λ (r : List ℕ). fA.put s.value ++ r) p.1; sure_a = s.is_sure }

pub again2 : {A B Z : Type 0} (fA : Field A) (fB : Field B) (make : A → B → Z) (a : A) (b : B) (rest : List ℕ) → fA.good a ≡ true → fB.good b ≡ true
    → (fA.read ((fA.put a ++ (fB.put b)) ++ rest) >>= λ (xa : A × List ℕ). (fB.read xa.1 >>= done (make xa.0))) ≡ Some (make a b, rest)
again2 fA fB make a b rest ha hb =
    rw (append_assoc (fA.put a) (fB.put b) rest, fA.spells.again a (fB.put b ++ rest) ha) (again1 fB (make a) b rest hb)

pub record Taken2 {A B Z : Type 0} (fA : Field A) (fB : Field B) (make : A → B → Z) (bytes : List ℕ) (y : Z) (rest : List ℕ) : Type 0 where
  pub a : A
  pub b : B
  pub made : make a b ≡ y
  pub parts : bytes ≡ (fA.put a ++ (fB.put b)) ++ rest
  pub sure_a : fA.sure a ≡ true
  pub sure_b : fB.sure b ≡ true

pub takes2 : {A B Z : Type 0} (fA : Field A) (fB : Field B) (make : A → B → Z) (bytes : List ℕ) (y : Z) (rest : List ℕ) → AreBytes bytes → (fA.read bytes >>= λ (xa : A × List ℕ). (fB.read xa.1 >>= done (make xa.0))) ≡ Some (y, rest) → Taken2 fA fB make bytes y rest
takes2 {A = A} {B = B} {Z = Z} fA fB make bytes y rest fits e =
    let s = step fA.put fA.good fA.sure fA.read fA.spells bytes fits (λ (xa : A × List ℕ). (fB.read xa.1 >>= done (make xa.0))) (y, rest) e in
    let t = takes1 fB (make s.value) s.rest y rest s.fits s.more in
    record { a = s.value; b = t.a; made = t.made; parts = then bytes (fA.put s.value) s.rest (fB.put t.a) rest s.parts t.parts; sure_a = s.is_sure; sure_b = t.sure_a }

pub again3 : {A B C Z : Type 0} (fA : Field A) (fB : Field B) (fC : Field C) (make : A → B → C → Z) (a : A) (b : B) (c : C) (rest : List ℕ) → fA.good a ≡ true → fB.good b ≡ true → fC.good c ≡ true
    → (fA.read ((fA.put a ++ (fB.put b ++ (fC.put c))) ++ rest) >>= λ (xa : A × List ℕ). (fB.read xa.1 >>= λ (xb : B × List ℕ). (fC.read xb.1 >>= done (make xa.0 xb.0)))) ≡ Some (make a b c, rest)
again3 fA fB fC make a b c rest ha hb hc =
    rw (append_assoc (fA.put a) (fB.put b ++ (fC.put c)) rest, fA.spells.again a ((fB.put b ++ (fC.put c)) ++ rest) ha) (again2 fB fC (make a) b c rest hb hc)

pub record Taken3 {A B C Z : Type 0} (fA : Field A) (fB : Field B) (fC : Field C) (make : A → B → C → Z) (bytes : List ℕ) (y : Z) (rest : List ℕ) : Type 0 where
  pub a : A
  pub b : B
  pub c : C
  pub made : make a b c ≡ y
  pub parts : bytes ≡ (fA.put a ++ (fB.put b ++ (fC.put c))) ++ rest
  pub sure_a : fA.sure a ≡ true
  pub sure_b : fB.sure b ≡ true
  pub sure_c : fC.sure c ≡ true

pub takes3 : {A B C Z : Type 0} (fA : Field A) (fB : Field B) (fC : Field C) (make : A → B → C → Z) (bytes : List ℕ) (y : Z) (rest : List ℕ) → AreBytes bytes → (fA.read bytes >>= λ (xa : A × List ℕ). (fB.read xa.1 >>= λ (xb : B × List ℕ). (fC.read xb.1 >>= done (make xa.0 xb.0)))) ≡ Some (y, rest) → Taken3 fA fB fC make bytes y rest
takes3 {A = A} {B = B} {C = C} {Z = Z} fA fB fC make bytes y rest fits e =
    let s = step fA.put fA.good fA.sure fA.read fA.spells bytes fits (λ (xa : A × List ℕ). (fB.read xa.1 >>= λ (xb : B × List ℕ). (fC.read xb.1 >>= done (make xa.0 xb.0)))) (y, rest) e in
    let t = takes2 fB fC (make s.value) s.rest y rest s.fits s.more in
    record { a = s.value; b = t.a; c = t.b; made = t.made; parts = then bytes (fA.put s.value) s.rest (fB.put t.a ++ (fC.put t.b)) rest s.parts t.parts; sure_a = s.is_sure; sure_b = t.sure_a; sure_c = t.sure_b }

pub again4 : {A B C D Z : Type 0} (fA : Field A) (fB : Field B) (fC : Field C) (fD : Field D) (make : A → B → C → D → Z) (a : A) (b : B) (c : C) (d : D) (rest : List ℕ) → fA.good a ≡ true → fB.good b ≡ true → fC.good c ≡ true → fD.good d ≡ true
    → (fA.read ((fA.put a ++ (fB.put b ++ (fC.put c ++ (fD.put d)))) ++ rest) >>= λ (xa : A × List ℕ). (fB.read xa.1 >>= λ (xb : B × List ℕ). (fC.read xb.1 >>= λ (xc : C × List ℕ). (fD.read xc.1 >>= done (make xa.0 xb.0 xc.0))))) ≡ Some (make a b c d, rest)
again4 fA fB fC fD make a b c d rest ha hb hc hd =
    rw (append_assoc (fA.put a) (fB.put b ++ (fC.put c ++ (fD.put d))) rest, fA.spells.again a ((fB.put b ++ (fC.put c ++ (fD.put d))) ++ rest) ha) (again3 fB fC fD (make a) b c d rest hb hc hd)

pub record Taken4 {A B C D Z : Type 0} (fA : Field A) (fB : Field B) (fC : Field C) (fD : Field D) (make : A → B → C → D → Z) (bytes : List ℕ) (y : Z) (rest : List ℕ) : Type 0 where
  pub a : A
  pub b : B
  pub c : C
  pub d : D
  pub made : make a b c d ≡ y
  pub parts : bytes ≡ (fA.put a ++ (fB.put b ++ (fC.put c ++ (fD.put d)))) ++ rest
  pub sure_a : fA.sure a ≡ true
  pub sure_b : fB.sure b ≡ true
  pub sure_c : fC.sure c ≡ true
  pub sure_d : fD.sure d ≡ true

pub takes4 : {A B C D Z : Type 0} (fA : Field A) (fB : Field B) (fC : Field C) (fD : Field D) (make : A → B → C → D → Z) (bytes : List ℕ) (y : Z) (rest : List ℕ) → AreBytes bytes → (fA.read bytes >>= λ (xa : A × List ℕ). (fB.read xa.1 >>= λ (xb : B × List ℕ). (fC.read xb.1 >>= λ (xc : C × List ℕ). (fD.read xc.1 >>= done (make xa.0 xb.0 xc.0))))) ≡ Some (y, rest) → Taken4 fA fB fC fD make bytes y rest
takes4 {A = A} {B = B} {C = C} {D = D} {Z = Z} fA fB fC fD make bytes y rest fits e =
    let s = step fA.put fA.good fA.sure fA.read fA.spells bytes fits (λ (xa : A × List ℕ). (fB.read xa.1 >>= λ (xb : B × List ℕ). (fC.read xb.1 >>= λ (xc : C × List ℕ). (fD.read xc.1 >>= done (make xa.0 xb.0 xc.0))))) (y, rest) e in
    let t = takes3 fB fC fD (make s.value) s.rest y rest s.fits s.more in
    record { a = s.value; b = t.a; c = t.b; d = t.c; made = t.made; parts = then bytes (fA.put s.value) s.rest (fB.put t.a ++ (fC.put t.b ++ (fD.put t.c))) rest s.parts t.parts; sure_a = s.is_sure; sure_b = t.sure_a; sure_c = t.sure_b; sure_d = t.sure_c }

pub again5 : {A B C D E Z : Type 0} (fA : Field A) (fB : Field B) (fC : Field C) (fD : Field D) (fE : Field E) (make : A → B → C → D → E → Z) (a : A) (b : B) (c : C) (d : D) (e : E) (rest : List ℕ) → fA.good a ≡ true → fB.good b ≡ true → fC.good c ≡ true → fD.good d ≡ true → fE.good e ≡ true
    → (fA.read ((fA.put a ++ (fB.put b ++ (fC.put c ++ (fD.put d ++ (fE.put e))))) ++ rest) >>= λ (xa : A × List ℕ). (fB.read xa.1 >>= λ (xb : B × List ℕ). (fC.read xb.1 >>= λ (xc : C × List ℕ). (fD.read xc.1 >>= λ (xd : D × List ℕ). (fE.read xd.1 >>= done (make xa.0 xb.0 xc.0 xd.0)))))) ≡ Some (make a b c d e, rest)
again5 fA fB fC fD fE make a b c d e rest ha hb hc hd he =
    rw (append_assoc (fA.put a) (fB.put b ++ (fC.put c ++ (fD.put d ++ (fE.put e)))) rest, fA.spells.again a ((fB.put b ++ (fC.put c ++ (fD.put d ++ (fE.put e)))) ++ rest) ha) (again4 fB fC fD fE (make a) b c d e rest hb hc hd he)

pub record Taken5 {A B C D E Z : Type 0} (fA : Field A) (fB : Field B) (fC : Field C) (fD : Field D) (fE : Field E) (make : A → B → C → D → E → Z) (bytes : List ℕ) (y : Z) (rest : List ℕ) : Type 0 where
  pub a : A
  pub b : B
  pub c : C
  pub d : D
  pub e : E
  pub made : make a b c d e ≡ y
  pub parts : bytes ≡ (fA.put a ++ (fB.put b ++ (fC.put c ++ (fD.put d ++ (fE.put e))))) ++ rest
  pub sure_a : fA.sure a ≡ true
  pub sure_b : fB.sure b ≡ true
  pub sure_c : fC.sure c ≡ true
  pub sure_d : fD.sure d ≡ true
  pub sure_e : fE.sure e ≡ true

pub takes5 : {A B C D E Z : Type 0} (fA : Field A) (fB : Field B) (fC : Field C) (fD : Field D) (fE : Field E) (make : A → B → C → D → E → Z) (bytes : List ℕ) (y : Z) (rest : List ℕ) → AreBytes bytes → (fA.read bytes >>= λ (xa : A × List ℕ). (fB.read xa.1 >>= λ (xb : B × List ℕ). (fC.read xb.1 >>= λ (xc : C × List ℕ). (fD.read xc.1 >>= λ (xd : D × List ℕ). (fE.read xd.1 >>= done (make xa.0 xb.0 xc.0 xd.0)))))) ≡ Some (y, rest) → Taken5 fA fB fC fD fE make bytes y rest
takes5 {A = A} {B = B} {C = C} {D = D} {E = E} {Z = Z} fA fB fC fD fE make bytes y rest fits e =
    let s = step fA.put fA.good fA.sure fA.read fA.spells bytes fits (λ (xa : A × List ℕ). (fB.read xa.1 >>= λ (xb : B × List ℕ). (fC.read xb.1 >>= λ (xc : C × List ℕ). (fD.read xc.1 >>= λ (xd : D × List ℕ). (fE.read xd.1 >>= done (make xa.0 xb.0 xc.0 xd.0)))))) (y, rest) e in
    let t = takes4 fB fC fD fE (make s.value) s.rest y rest s.fits s.more in
    record { a = s.value; b = t.a; c = t.b; d = t.c; e = t.d; made = t.made; parts = then bytes (fA.put s.value) s.rest (fB.put t.a ++ (fC.put t.b ++ (fD.put t.c ++ (fE.put t.d)))) rest s.parts t.parts; sure_a = s.is_sure; sure_b = t.sure_a; sure_c = t.sure_b; sure_d = t.sure_c; sure_e = t.sure_d }

pub again6 : {A B C D E F Z : Type 0} (fA : Field A) (fB : Field B) (fC : Field C) (fD : Field D) (fE : Field E) (fF : Field F) (make : A → B → C → D → E → F → Z) (a : A) (b : B) (c : C) (d : D) (e : E) (f : F) (rest : List ℕ) → fA.good a ≡ true → fB.good b ≡ true → fC.good c ≡ true → fD.good d ≡ true → fE.good e ≡ true → fF.good f ≡ true
    → (fA.read ((fA.put a ++ (fB.put b ++ (fC.put c ++ (fD.put d ++ (fE.put e ++ (fF.put f)))))) ++ rest) >>= λ (xa : A × List ℕ). (fB.read xa.1 >>= λ (xb : B × List ℕ). (fC.read xb.1 >>= λ (xc : C × List ℕ). (fD.read xc.1 >>= λ (xd : D × List ℕ). (fE.read xd.1 >>= λ (xe : E × List ℕ). (fF.read xe.1 >>= done (make xa.0 xb.0 xc.0 xd.0 xe.0))))))) ≡ Some (make a b c d e f, rest)
again6 fA fB fC fD fE fF make a b c d e f rest ha hb hc hd he hf =
    rw (append_assoc (fA.put a) (fB.put b ++ (fC.put c ++ (fD.put d ++ (fE.put e ++ (fF.put f))))) rest, fA.spells.again a ((fB.put b ++ (fC.put c ++ (fD.put d ++ (fE.put e ++ (fF.put f))))) ++ rest) ha) (again5 fB fC fD fE fF (make a) b c d e f rest hb hc hd he hf)

pub record Taken6 {A B C D E F Z : Type 0} (fA : Field A) (fB : Field B) (fC : Field C) (fD : Field D) (fE : Field E) (fF : Field F) (make : A → B → C → D → E → F → Z) (bytes : List ℕ) (y : Z) (rest : List ℕ) : Type 0 where
  pub a : A
  pub b : B
  pub c : C
  pub d : D
  pub e : E
  pub f : F
  pub made : make a b c d e f ≡ y
  pub parts : bytes ≡ (fA.put a ++ (fB.put b ++ (fC.put c ++ (fD.put d ++ (fE.put e ++ (fF.put f)))))) ++ rest
  pub sure_a : fA.sure a ≡ true
  pub sure_b : fB.sure b ≡ true
  pub sure_c : fC.sure c ≡ true
  pub sure_d : fD.sure d ≡ true
  pub sure_e : fE.sure e ≡ true
  pub sure_f : fF.sure f ≡ true

pub takes6 : {A B C D E F Z : Type 0} (fA : Field A) (fB : Field B) (fC : Field C) (fD : Field D) (fE : Field E) (fF : Field F) (make : A → B → C → D → E → F → Z) (bytes : List ℕ) (y : Z) (rest : List ℕ) → AreBytes bytes → (fA.read bytes >>= λ (xa : A × List ℕ). (fB.read xa.1 >>= λ (xb : B × List ℕ). (fC.read xb.1 >>= λ (xc : C × List ℕ). (fD.read xc.1 >>= λ (xd : D × List ℕ). (fE.read xd.1 >>= λ (xe : E × List ℕ). (fF.read xe.1 >>= done (make xa.0 xb.0 xc.0 xd.0 xe.0))))))) ≡ Some (y, rest) → Taken6 fA fB fC fD fE fF make bytes y rest
takes6 {A = A} {B = B} {C = C} {D = D} {E = E} {F = F} {Z = Z} fA fB fC fD fE fF make bytes y rest fits e =
    let s = step fA.put fA.good fA.sure fA.read fA.spells bytes fits (λ (xa : A × List ℕ). (fB.read xa.1 >>= λ (xb : B × List ℕ). (fC.read xb.1 >>= λ (xc : C × List ℕ). (fD.read xc.1 >>= λ (xd : D × List ℕ). (fE.read xd.1 >>= λ (xe : E × List ℕ). (fF.read xe.1 >>= done (make xa.0 xb.0 xc.0 xd.0 xe.0))))))) (y, rest) e in
    let t = takes5 fB fC fD fE fF (make s.value) s.rest y rest s.fits s.more in
    record { a = s.value; b = t.a; c = t.b; d = t.c; e = t.d; f = t.e; made = t.made; parts = then bytes (fA.put s.value) s.rest (fB.put t.a ++ (fC.put t.b ++ (fD.put t.c ++ (fE.put t.d ++ (fF.put t.e))))) rest s.parts t.parts; sure_a = s.is_sure; sure_b = t.sure_a; sure_c = t.sure_b; sure_d = t.sure_c; sure_e = t.sure_d; sure_f = t.sure_e }

pub again7 : {A B C D E F G Z : Type 0} (fA : Field A) (fB : Field B) (fC : Field C) (fD : Field D) (fE : Field E) (fF : Field F) (fG : Field G) (make : A → B → C → D → E → F → G → Z) (a : A) (b : B) (c : C) (d : D) (e : E) (f : F) (g : G) (rest : List ℕ) → fA.good a ≡ true → fB.good b ≡ true → fC.good c ≡ true → fD.good d ≡ true → fE.good e ≡ true → fF.good f ≡ true → fG.good g ≡ true
    → (fA.read ((fA.put a ++ (fB.put b ++ (fC.put c ++ (fD.put d ++ (fE.put e ++ (fF.put f ++ (fG.put g))))))) ++ rest) >>= λ (xa : A × List ℕ). (fB.read xa.1 >>= λ (xb : B × List ℕ). (fC.read xb.1 >>= λ (xc : C × List ℕ). (fD.read xc.1 >>= λ (xd : D × List ℕ). (fE.read xd.1 >>= λ (xe : E × List ℕ). (fF.read xe.1 >>= λ (xf : F × List ℕ). (fG.read xf.1 >>= done (make xa.0 xb.0 xc.0 xd.0 xe.0 xf.0)))))))) ≡ Some (make a b c d e f g, rest)
again7 fA fB fC fD fE fF fG make a b c d e f g rest ha hb hc hd he hf hg =
    rw (append_assoc (fA.put a) (fB.put b ++ (fC.put c ++ (fD.put d ++ (fE.put e ++ (fF.put f ++ (fG.put g)))))) rest, fA.spells.again a ((fB.put b ++ (fC.put c ++ (fD.put d ++ (fE.put e ++ (fF.put f ++ (fG.put g)))))) ++ rest) ha) (again6 fB fC fD fE fF fG (make a) b c d e f g rest hb hc hd he hf hg)

pub record Taken7 {A B C D E F G Z : Type 0} (fA : Field A) (fB : Field B) (fC : Field C) (fD : Field D) (fE : Field E) (fF : Field F) (fG : Field G) (make : A → B → C → D → E → F → G → Z) (bytes : List ℕ) (y : Z) (rest : List ℕ) : Type 0 where
  pub a : A
  pub b : B
  pub c : C
  pub d : D
  pub e : E
  pub f : F
  pub g : G
  pub made : make a b c d e f g ≡ y
  pub parts : bytes ≡ (fA.put a ++ (fB.put b ++ (fC.put c ++ (fD.put d ++ (fE.put e ++ (fF.put f ++ (fG.put g))))))) ++ rest
  pub sure_a : fA.sure a ≡ true
  pub sure_b : fB.sure b ≡ true
  pub sure_c : fC.sure c ≡ true
  pub sure_d : fD.sure d ≡ true
  pub sure_e : fE.sure e ≡ true
  pub sure_f : fF.sure f ≡ true
  pub sure_g : fG.sure g ≡ true

pub takes7 : {A B C D E F G Z : Type 0} (fA : Field A) (fB : Field B) (fC : Field C) (fD : Field D) (fE : Field E) (fF : Field F) (fG : Field G) (make : A → B → C → D → E → F → G → Z) (bytes : List ℕ) (y : Z) (rest : List ℕ) → AreBytes bytes → (fA.read bytes >>= λ (xa : A × List ℕ). (fB.read xa.1 >>= λ (xb : B × List ℕ). (fC.read xb.1 >>= λ (xc : C × List ℕ). (fD.read xc.1 >>= λ (xd : D × List ℕ). (fE.read xd.1 >>= λ (xe : E × List ℕ). (fF.read xe.1 >>= λ (xf : F × List ℕ). (fG.read xf.1 >>= done (make xa.0 xb.0 xc.0 xd.0 xe.0 xf.0)))))))) ≡ Some (y, rest) → Taken7 fA fB fC fD fE fF fG make bytes y rest
takes7 {A = A} {B = B} {C = C} {D = D} {E = E} {F = F} {G = G} {Z = Z} fA fB fC fD fE fF fG make bytes y rest fits e =
    let s = step fA.put fA.good fA.sure fA.read fA.spells bytes fits (λ (xa : A × List ℕ). (fB.read xa.1 >>= λ (xb : B × List ℕ). (fC.read xb.1 >>= λ (xc : C × List ℕ). (fD.read xc.1 >>= λ (xd : D × List ℕ). (fE.read xd.1 >>= λ (xe : E × List ℕ). (fF.read xe.1 >>= λ (xf : F × List ℕ). (fG.read xf.1 >>= done (make xa.0 xb.0 xc.0 xd.0 xe.0 xf.0)))))))) (y, rest) e in
    let t = takes6 fB fC fD fE fF fG (make s.value) s.rest y rest s.fits s.more in
    record { a = s.value; b = t.a; c = t.b; d = t.c; e = t.d; f = t.e; g = t.f; made = t.made; parts = then bytes (fA.put s.value) s.rest (fB.put t.a ++ (fC.put t.b ++ (fD.put t.c ++ (fE.put t.d ++ (fF.put t.e ++ (fG.put t.f)))))) rest s.parts t.parts; sure_a = s.is_sure; sure_b = t.sure_a; sure_c = t.sure_b; sure_d = t.sure_c; sure_e = t.sure_d; sure_f = t.sure_e; sure_g = t.sure_f }

pub again1_unless : {A Z : Type 0} (fA : Field A) (test : A → Bool) (make : A → Z) (a : A) (rest : List ℕ) → fA.good a ≡ true → test a ≡ false
    → (fA.read (fA.put a ++ rest) >>= done_unless test make) ≡ Some (make a, rest)
again1_unless fA test make a rest ha t = rw (fA.spells.again a rest ha, t) refl

pub record Taken1_unless {A Z : Type 0} (fA : Field A) (test : A → Bool) (make : A → Z) (bytes : List ℕ) (y : Z) (rest : List ℕ) : Type 0 where
  pub a : A
  pub made : make a ≡ y
  pub parts : bytes ≡ fA.put a ++ rest
  pub sure_a : fA.sure a ≡ true
  pub tested : test a ≡ false

pub takes1_unless : {A Z : Type 0} (fA : Field A) (test : A → Bool) (make : A → Z) (bytes : List ℕ) (y : Z) (rest : List ℕ) → AreBytes bytes → (fA.read bytes >>= done_unless test make) ≡ Some (y, rest) → Taken1_unless fA test make bytes y rest
takes1_unless {A = A} {Z = Z} fA test make bytes y rest fits e =
    let s = step fA.put fA.good fA.sure fA.read fA.spells bytes fits (done_unless test make) (y, rest) e in
    let u = unless_some (test s.value) (make s.value, s.rest) (y, rest) s.more in
    let rest-is : s.rest ≡ rest = ap (λ (p : Z × List ℕ). p.1) u.1 in
    record { a = s.value; made = ap (λ (p : Z × List ℕ). p.0) u.1; parts = s.parts ∙ ap (λ (r : List ℕ). fA.put s.value ++ r) rest-is; sure_a = s.is_sure; tested = u.0 }

pub again2_unless : {A B Z : Type 0} (fA : Field A) (fB : Field B) (test : B → Bool) (make : A → B → Z) (a : A) (b : B) (rest : List ℕ) → fA.good a ≡ true → fB.good b ≡ true → test b ≡ false
    → (fA.read ((fA.put a ++ (fB.put b)) ++ rest) >>= λ (xa : A × List ℕ). (fB.read xa.1 >>= done_unless test (make xa.0))) ≡ Some (make a b, rest)
again2_unless fA fB test make a b rest ha hb t =
    rw (append_assoc (fA.put a) (fB.put b) rest, fA.spells.again a (fB.put b ++ rest) ha) (again1_unless fB test (make a) b rest hb t)

pub record Taken2_unless {A B Z : Type 0} (fA : Field A) (fB : Field B) (test : B → Bool) (make : A → B → Z) (bytes : List ℕ) (y : Z) (rest : List ℕ) : Type 0 where
  pub a : A
  pub b : B
  pub made : make a b ≡ y
  pub parts : bytes ≡ (fA.put a ++ (fB.put b)) ++ rest
  pub sure_a : fA.sure a ≡ true
  pub sure_b : fB.sure b ≡ true
  pub tested : test b ≡ false

pub takes2_unless : {A B Z : Type 0} (fA : Field A) (fB : Field B) (test : B → Bool) (make : A → B → Z) (bytes : List ℕ) (y : Z) (rest : List ℕ) → AreBytes bytes → (fA.read bytes >>= λ (xa : A × List ℕ). (fB.read xa.1 >>= done_unless test (make xa.0))) ≡ Some (y, rest) → Taken2_unless fA fB test make bytes y rest
takes2_unless {A = A} {B = B} {Z = Z} fA fB test make bytes y rest fits e =
    let s = step fA.put fA.good fA.sure fA.read fA.spells bytes fits (λ (xa : A × List ℕ). (fB.read xa.1 >>= done_unless test (make xa.0))) (y, rest) e in
    let t = takes1_unless fB test (make s.value) s.rest y rest s.fits s.more in
    record { a = s.value; b = t.a; made = t.made; parts = then bytes (fA.put s.value) s.rest (fB.put t.a) rest s.parts t.parts; sure_a = s.is_sure; sure_b = t.sure_a; tested = t.tested }

pub again3_unless : {A B C Z : Type 0} (fA : Field A) (fB : Field B) (fC : Field C) (test : C → Bool) (make : A → B → C → Z) (a : A) (b : B) (c : C) (rest : List ℕ) → fA.good a ≡ true → fB.good b ≡ true → fC.good c ≡ true → test c ≡ false
    → (fA.read ((fA.put a ++ (fB.put b ++ (fC.put c))) ++ rest) >>= λ (xa : A × List ℕ). (fB.read xa.1 >>= λ (xb : B × List ℕ). (fC.read xb.1 >>= done_unless test (make xa.0 xb.0)))) ≡ Some (make a b c, rest)
again3_unless fA fB fC test make a b c rest ha hb hc t =
    rw (append_assoc (fA.put a) (fB.put b ++ (fC.put c)) rest, fA.spells.again a ((fB.put b ++ (fC.put c)) ++ rest) ha) (again2_unless fB fC test (make a) b c rest hb hc t)

pub record Taken3_unless {A B C Z : Type 0} (fA : Field A) (fB : Field B) (fC : Field C) (test : C → Bool) (make : A → B → C → Z) (bytes : List ℕ) (y : Z) (rest : List ℕ) : Type 0 where
  pub a : A
  pub b : B
  pub c : C
  pub made : make a b c ≡ y
  pub parts : bytes ≡ (fA.put a ++ (fB.put b ++ (fC.put c))) ++ rest
  pub sure_a : fA.sure a ≡ true
  pub sure_b : fB.sure b ≡ true
  pub sure_c : fC.sure c ≡ true
  pub tested : test c ≡ false

pub takes3_unless : {A B C Z : Type 0} (fA : Field A) (fB : Field B) (fC : Field C) (test : C → Bool) (make : A → B → C → Z) (bytes : List ℕ) (y : Z) (rest : List ℕ) → AreBytes bytes → (fA.read bytes >>= λ (xa : A × List ℕ). (fB.read xa.1 >>= λ (xb : B × List ℕ). (fC.read xb.1 >>= done_unless test (make xa.0 xb.0)))) ≡ Some (y, rest) → Taken3_unless fA fB fC test make bytes y rest
takes3_unless {A = A} {B = B} {C = C} {Z = Z} fA fB fC test make bytes y rest fits e =
    let s = step fA.put fA.good fA.sure fA.read fA.spells bytes fits (λ (xa : A × List ℕ). (fB.read xa.1 >>= λ (xb : B × List ℕ). (fC.read xb.1 >>= done_unless test (make xa.0 xb.0)))) (y, rest) e in
    let t = takes2_unless fB fC test (make s.value) s.rest y rest s.fits s.more in
    record { a = s.value; b = t.a; c = t.b; made = t.made; parts = then bytes (fA.put s.value) s.rest (fB.put t.a ++ (fC.put t.b)) rest s.parts t.parts; sure_a = s.is_sure; sure_b = t.sure_a; sure_c = t.sure_b; tested = t.tested }

pub again4_unless : {A B C D Z : Type 0} (fA : Field A) (fB : Field B) (fC : Field C) (fD : Field D) (test : D → Bool) (make : A → B → C → D → Z) (a : A) (b : B) (c : C) (d : D) (rest : List ℕ) → fA.good a ≡ true → fB.good b ≡ true → fC.good c ≡ true → fD.good d ≡ true → test d ≡ false
    → (fA.read ((fA.put a ++ (fB.put b ++ (fC.put c ++ (fD.put d)))) ++ rest) >>= λ (xa : A × List ℕ). (fB.read xa.1 >>= λ (xb : B × List ℕ). (fC.read xb.1 >>= λ (xc : C × List ℕ). (fD.read xc.1 >>= done_unless test (make xa.0 xb.0 xc.0))))) ≡ Some (make a b c d, rest)
again4_unless fA fB fC fD test make a b c d rest ha hb hc hd t =
    rw (append_assoc (fA.put a) (fB.put b ++ (fC.put c ++ (fD.put d))) rest, fA.spells.again a ((fB.put b ++ (fC.put c ++ (fD.put d))) ++ rest) ha) (again3_unless fB fC fD test (make a) b c d rest hb hc hd t)

pub record Taken4_unless {A B C D Z : Type 0} (fA : Field A) (fB : Field B) (fC : Field C) (fD : Field D) (test : D → Bool) (make : A → B → C → D → Z) (bytes : List ℕ) (y : Z) (rest : List ℕ) : Type 0 where
  pub a : A
  pub b : B
  pub c : C
  pub d : D
  pub made : make a b c d ≡ y
  pub parts : bytes ≡ (fA.put a ++ (fB.put b ++ (fC.put c ++ (fD.put d)))) ++ rest
  pub sure_a : fA.sure a ≡ true
  pub sure_b : fB.sure b ≡ true
  pub sure_c : fC.sure c ≡ true
  pub sure_d : fD.sure d ≡ true
  pub tested : test d ≡ false

pub takes4_unless : {A B C D Z : Type 0} (fA : Field A) (fB : Field B) (fC : Field C) (fD : Field D) (test : D → Bool) (make : A → B → C → D → Z) (bytes : List ℕ) (y : Z) (rest : List ℕ) → AreBytes bytes → (fA.read bytes >>= λ (xa : A × List ℕ). (fB.read xa.1 >>= λ (xb : B × List ℕ). (fC.read xb.1 >>= λ (xc : C × List ℕ). (fD.read xc.1 >>= done_unless test (make xa.0 xb.0 xc.0))))) ≡ Some (y, rest) → Taken4_unless fA fB fC fD test make bytes y rest
takes4_unless {A = A} {B = B} {C = C} {D = D} {Z = Z} fA fB fC fD test make bytes y rest fits e =
    let s = step fA.put fA.good fA.sure fA.read fA.spells bytes fits (λ (xa : A × List ℕ). (fB.read xa.1 >>= λ (xb : B × List ℕ). (fC.read xb.1 >>= λ (xc : C × List ℕ). (fD.read xc.1 >>= done_unless test (make xa.0 xb.0 xc.0))))) (y, rest) e in
    let t = takes3_unless fB fC fD test (make s.value) s.rest y rest s.fits s.more in
    record { a = s.value; b = t.a; c = t.b; d = t.c; made = t.made; parts = then bytes (fA.put s.value) s.rest (fB.put t.a ++ (fC.put t.b ++ (fD.put t.c))) rest s.parts t.parts; sure_a = s.is_sure; sure_b = t.sure_a; sure_c = t.sure_b; sure_d = t.sure_c; tested = t.tested }

pub again5_unless : {A B C D E Z : Type 0} (fA : Field A) (fB : Field B) (fC : Field C) (fD : Field D) (fE : Field E) (test : E → Bool) (make : A → B → C → D → E → Z) (a : A) (b : B) (c : C) (d : D) (e : E) (rest : List ℕ) → fA.good a ≡ true → fB.good b ≡ true → fC.good c ≡ true → fD.good d ≡ true → fE.good e ≡ true → test e ≡ false
    → (fA.read ((fA.put a ++ (fB.put b ++ (fC.put c ++ (fD.put d ++ (fE.put e))))) ++ rest) >>= λ (xa : A × List ℕ). (fB.read xa.1 >>= λ (xb : B × List ℕ). (fC.read xb.1 >>= λ (xc : C × List ℕ). (fD.read xc.1 >>= λ (xd : D × List ℕ). (fE.read xd.1 >>= done_unless test (make xa.0 xb.0 xc.0 xd.0)))))) ≡ Some (make a b c d e, rest)
again5_unless fA fB fC fD fE test make a b c d e rest ha hb hc hd he t =
    rw (append_assoc (fA.put a) (fB.put b ++ (fC.put c ++ (fD.put d ++ (fE.put e)))) rest, fA.spells.again a ((fB.put b ++ (fC.put c ++ (fD.put d ++ (fE.put e)))) ++ rest) ha) (again4_unless fB fC fD fE test (make a) b c d e rest hb hc hd he t)

pub record Taken5_unless {A B C D E Z : Type 0} (fA : Field A) (fB : Field B) (fC : Field C) (fD : Field D) (fE : Field E) (test : E → Bool) (make : A → B → C → D → E → Z) (bytes : List ℕ) (y : Z) (rest : List ℕ) : Type 0 where
  pub a : A
  pub b : B
  pub c : C
  pub d : D
  pub e : E
  pub made : make a b c d e ≡ y
  pub parts : bytes ≡ (fA.put a ++ (fB.put b ++ (fC.put c ++ (fD.put d ++ (fE.put e))))) ++ rest
  pub sure_a : fA.sure a ≡ true
  pub sure_b : fB.sure b ≡ true
  pub sure_c : fC.sure c ≡ true
  pub sure_d : fD.sure d ≡ true
  pub sure_e : fE.sure e ≡ true
  pub tested : test e ≡ false

pub takes5_unless : {A B C D E Z : Type 0} (fA : Field A) (fB : Field B) (fC : Field C) (fD : Field D) (fE : Field E) (test : E → Bool) (make : A → B → C → D → E → Z) (bytes : List ℕ) (y : Z) (rest : List ℕ) → AreBytes bytes → (fA.read bytes >>= λ (xa : A × List ℕ). (fB.read xa.1 >>= λ (xb : B × List ℕ). (fC.read xb.1 >>= λ (xc : C × List ℕ). (fD.read xc.1 >>= λ (xd : D × List ℕ). (fE.read xd.1 >>= done_unless test (make xa.0 xb.0 xc.0 xd.0)))))) ≡ Some (y, rest) → Taken5_unless fA fB fC fD fE test make bytes y rest
takes5_unless {A = A} {B = B} {C = C} {D = D} {E = E} {Z = Z} fA fB fC fD fE test make bytes y rest fits e =
    let s = step fA.put fA.good fA.sure fA.read fA.spells bytes fits (λ (xa : A × List ℕ). (fB.read xa.1 >>= λ (xb : B × List ℕ). (fC.read xb.1 >>= λ (xc : C × List ℕ). (fD.read xc.1 >>= λ (xd : D × List ℕ). (fE.read xd.1 >>= done_unless test (make xa.0 xb.0 xc.0 xd.0)))))) (y, rest) e in
    let t = takes4_unless fB fC fD fE test (make s.value) s.rest y rest s.fits s.more in
    record { a = s.value; b = t.a; c = t.b; d = t.c; e = t.d; made = t.made; parts = then bytes (fA.put s.value) s.rest (fB.put t.a ++ (fC.put t.b ++ (fD.put t.c ++ (fE.put t.d)))) rest s.parts t.parts; sure_a = s.is_sure; sure_b = t.sure_a; sure_c = t.sure_b; sure_d = t.sure_c; sure_e = t.sure_d; tested = t.tested }

pub length1 : {A : Type 0} (fA : Field A) (ka : ℕ) → IsWithin fA ka → (a : A) → fA.good a ≡ true → length (fA.put a) ≤ ka
length1 fA ka wa a ha = wa a ha

pub length2 : {A B : Type 0} (fA : Field A) (fB : Field B) (ka : ℕ) (kb : ℕ) → IsWithin fA ka → IsWithin fB kb → (a : A) (b : B) → fA.good a ≡ true → fB.good b ≡ true → length (fA.put a ++ (fB.put b)) ≤ ka + kb
length2 fA fB ka kb wa wb a b ha hb = join (fA.put a) (fB.put b) ka (kb) (wa a ha) (length1 fB kb wb b hb)

pub length3 : {A B C : Type 0} (fA : Field A) (fB : Field B) (fC : Field C) (ka : ℕ) (kb : ℕ) (kc : ℕ) → IsWithin fA ka → IsWithin fB kb → IsWithin fC kc → (a : A) (b : B) (c : C) → fA.good a ≡ true → fB.good b ≡ true → fC.good c ≡ true → length (fA.put a ++ (fB.put b ++ (fC.put c))) ≤ ka + (kb + kc)
length3 fA fB fC ka kb kc wa wb wc a b c ha hb hc = join (fA.put a) (fB.put b ++ (fC.put c)) ka (kb + kc) (wa a ha) (length2 fB fC kb kc wb wc b c hb hc)

pub length4 : {A B C D : Type 0} (fA : Field A) (fB : Field B) (fC : Field C) (fD : Field D) (ka : ℕ) (kb : ℕ) (kc : ℕ) (kd : ℕ) → IsWithin fA ka → IsWithin fB kb → IsWithin fC kc → IsWithin fD kd → (a : A) (b : B) (c : C) (d : D) → fA.good a ≡ true → fB.good b ≡ true → fC.good c ≡ true → fD.good d ≡ true → length (fA.put a ++ (fB.put b ++ (fC.put c ++ (fD.put d)))) ≤ ka + (kb + (kc + kd))
length4 fA fB fC fD ka kb kc kd wa wb wc wd a b c d ha hb hc hd = join (fA.put a) (fB.put b ++ (fC.put c ++ (fD.put d))) ka (kb + (kc + kd)) (wa a ha) (length3 fB fC fD kb kc kd wb wc wd b c d hb hc hd)

pub length5 : {A B C D E : Type 0} (fA : Field A) (fB : Field B) (fC : Field C) (fD : Field D) (fE : Field E) (ka : ℕ) (kb : ℕ) (kc : ℕ) (kd : ℕ) (ke : ℕ) → IsWithin fA ka → IsWithin fB kb → IsWithin fC kc → IsWithin fD kd → IsWithin fE ke → (a : A) (b : B) (c : C) (d : D) (e : E) → fA.good a ≡ true → fB.good b ≡ true → fC.good c ≡ true → fD.good d ≡ true → fE.good e ≡ true → length (fA.put a ++ (fB.put b ++ (fC.put c ++ (fD.put d ++ (fE.put e))))) ≤ ka + (kb + (kc + (kd + ke)))
length5 fA fB fC fD fE ka kb kc kd ke wa wb wc wd we a b c d e ha hb hc hd he = join (fA.put a) (fB.put b ++ (fC.put c ++ (fD.put d ++ (fE.put e)))) ka (kb + (kc + (kd + ke))) (wa a ha) (length4 fB fC fD fE kb kc kd ke wb wc wd we b c d e hb hc hd he)

pub length6 : {A B C D E F : Type 0} (fA : Field A) (fB : Field B) (fC : Field C) (fD : Field D) (fE : Field E) (fF : Field F) (ka : ℕ) (kb : ℕ) (kc : ℕ) (kd : ℕ) (ke : ℕ) (kf : ℕ) → IsWithin fA ka → IsWithin fB kb → IsWithin fC kc → IsWithin fD kd → IsWithin fE ke → IsWithin fF kf → (a : A) (b : B) (c : C) (d : D) (e : E) (f : F) → fA.good a ≡ true → fB.good b ≡ true → fC.good c ≡ true → fD.good d ≡ true → fE.good e ≡ true → fF.good f ≡ true → length (fA.put a ++ (fB.put b ++ (fC.put c ++ (fD.put d ++ (fE.put e ++ (fF.put f)))))) ≤ ka + (kb + (kc + (kd + (ke + kf))))
length6 fA fB fC fD fE fF ka kb kc kd ke kf wa wb wc wd we wf a b c d e f ha hb hc hd he hf = join (fA.put a) (fB.put b ++ (fC.put c ++ (fD.put d ++ (fE.put e ++ (fF.put f))))) ka (kb + (kc + (kd + (ke + kf)))) (wa a ha) (length5 fB fC fD fE fF kb kc kd ke kf wb wc wd we wf b c d e f hb hc hd he hf)

pub length7 : {A B C D E F G : Type 0} (fA : Field A) (fB : Field B) (fC : Field C) (fD : Field D) (fE : Field E) (fF : Field F) (fG : Field G) (ka : ℕ) (kb : ℕ) (kc : ℕ) (kd : ℕ) (ke : ℕ) (kf : ℕ) (kg : ℕ) → IsWithin fA ka → IsWithin fB kb → IsWithin fC kc → IsWithin fD kd → IsWithin fE ke → IsWithin fF kf → IsWithin fG kg → (a : A) (b : B) (c : C) (d : D) (e : E) (f : F) (g : G) → fA.good a ≡ true → fB.good b ≡ true → fC.good c ≡ true → fD.good d ≡ true → fE.good e ≡ true → fF.good f ≡ true → fG.good g ≡ true → length (fA.put a ++ (fB.put b ++ (fC.put c ++ (fD.put d ++ (fE.put e ++ (fF.put f ++ (fG.put g))))))) ≤ ka + (kb + (kc + (kd + (ke + (kf + kg)))))
length7 fA fB fC fD fE fF fG ka kb kc kd ke kf kg wa wb wc wd we wf wg a b c d e f g ha hb hc hd he hf hg = join (fA.put a) (fB.put b ++ (fC.put c ++ (fD.put d ++ (fE.put e ++ (fF.put f ++ (fG.put g)))))) ka (kb + (kc + (kd + (ke + (kf + kg))))) (wa a ha) (length6 fB fC fD fE fF fG kb kc kd ke kf kg wb wc wd we wf wg b c d e f g hb hc hd he hf hg)
