-- Lists and options read as they are written.
use Rattle.std.proofs.Common.{◌≡◌, ℕ, zero, suc, ◌<◌, ◌^◌, Bool, true, false, List, [], ◌∷◌, ◌++◌, length, Option, Some, None, Ok, refl, sym, ap, subst, ◌∙◌, append_assoc}
use Rattle.std.specs.List.{AllByRecursion, flat_map}
use Rattle.std.proofs.lemmas.List.Concat.{flat_map-cons}
use Rattle.wire_fields.specs.Fields.{AreBytes}
use Rattle.book_rows.specs.Lists.{on_ok}
use Rattle.cmd_codec.specs.Fields.{short, option_field}
use Rattle.snap_codec.specs.Fields.{bool_code, list_field}
use Rattle.snap_codec.specs.Fits.{FitsList, FitsOption}
use Rattle.snap_codec.specs.Readers.{Reader, made_at, each_at, list_at, option_by, option_at}
use Rattle.snap_codec.proofs.Spells.{Spells, step, then, ok_is, ok_parts}
use Rattle.snap_codec.proofs.SingleFields.{a_short, a_bool}

module _ {A : Type 0} {put : A → List ℕ} {Fits : A → Type 0} {read : Reader A} (s : Spells put Fits read) where
  each_again : (xs : List A) (rest : List ℕ) → AllByRecursion Fits xs → each_at read (length xs) (flat_map put xs ++ rest) ≡ Ok (xs, rest)
  unfolding each_at
  each_again [] rest h = refl
  each_again (x ∷ xs) rest h =
      let regrouped : flat_map put (x ∷ xs) ++ rest ≡ put x ++ (flat_map put xs ++ rest) = ap (λ (t : List ℕ). t ++ rest) (flat_map-cons put x xs) ∙ append_assoc (put x) (flat_map put xs) rest in
      ap (each_at read (suc (length xs))) regrouped ∙ rw (s.again x (flat_map put xs ++ rest) h.0, each_again xs rest h.1) refl

  each_takes : (n : ℕ) (bytes : List ℕ) (x : List A × List ℕ) → AreBytes bytes → each_at read n bytes ≡ Ok x → (bytes ≡ flat_map put x.0 ++ x.1) × (length x.0 ≡ n) × AllByRecursion Fits x.0
  unfolding each_at
  each_takes zero bytes x are e =
      subst (λ (y : List A × List ℕ). (bytes ≡ flat_map put y.0 ++ y.1) × (length y.0 ≡ 0) × AllByRecursion Fits y.0) (ok_is ([], bytes) x e) (refl, refl, tt)
  each_takes (suc n) bytes x are e =
      let a = step s bytes are (λ (first : A × List ℕ). on_ok (each_at read n first.1) (λ (others : List A × List ℕ). Ok (first.0 ∷ others.0, others.1))) x e in
      let b = ok_parts (each_at read n a.rest) (λ (others : List A × List ℕ). Ok (a.value ∷ others.0, others.1)) x a.more in
      let t = each_takes n a.rest b.0 a.are_bytes b.1 in
      let made : List A × List ℕ = (a.value ∷ b.0.0, b.0.1) in
      let parts : bytes ≡ flat_map put (a.value ∷ b.0.0) ++ b.0.1 = then bytes (put a.value) a.rest (flat_map put b.0.0) b.0.1 a.parts t.0 ∙ ap (λ (r : List ℕ). r ++ b.0.1) (sym (flat_map-cons put a.value b.0.0)) in
      subst (λ (y : List A × List ℕ). (bytes ≡ flat_map put y.0 ++ y.1) × (length y.0 ≡ suc n) × AllByRecursion Fits y.0) (ok_is made x b.2) (parts, ap suc t.1, (a.fits, t.2))

  list_again : (xs : List A) (rest : List ℕ) → FitsList Fits xs → list_at read (list_field put xs ++ rest) ≡ Ok (xs, rest)
  unfolding list_at
  list_again xs rest h =
      let regrouped : list_field put xs ++ rest ≡ short (length xs) ++ (flat_map put xs ++ rest) = append_assoc (short (length xs)) (flat_map put xs) rest in
      ap (list_at read) regrouped ∙ rw (a_short.again (length xs) (flat_map put xs ++ rest) h.0, each_again xs rest h.1) refl

  list_takes : (bytes : List ℕ) (xs : List A) (rest : List ℕ) → AreBytes bytes → list_at read bytes ≡ Ok (xs, rest) → (bytes ≡ list_field put xs ++ rest) × FitsList Fits xs
  unfolding list_at
  list_takes bytes xs rest are e =
      let a = step a_short bytes are (λ (count : ℕ × List ℕ). each_at read count.0 count.1) (xs, rest) e in
      let t = each_takes a.value a.rest (xs, rest) a.are_bytes a.more in
      (then bytes (short (length xs)) a.rest (flat_map put xs) rest (a.parts ∙ ap (λ (n : ℕ). short n ++ a.rest) (sym t.1)) t.0, (subst (λ (n : ℕ). n < 2 ^ 32) (sym t.1) a.fits, t.2))

  -- a list with its count before it
  pub a_list : Spells (list_field put) (FitsList Fits) (list_at read)
  a_list = record { again = list_again; takes = list_takes }

  option_again : (o : Option A) (rest : List ℕ) → FitsOption Fits o → option_at read (option_field put o ++ rest) ≡ Ok (o, rest)
  unfolding option_at made_at
  option_again (Some x) rest h = rw (a_bool.again true (put x ++ rest) tt, s.again x rest h) refl
  option_again None rest h = rw (a_bool.again false rest tt) refl

  by_takes : (there : Bool) (bytes : List ℕ) (o : Option A) (rest : List ℕ) → AreBytes bytes → option_by read there bytes ≡ Ok (o, rest) → ((bool_code there ∷ bytes) ≡ option_field put o ++ rest) × FitsOption Fits o
  unfolding made_at
  by_takes true bytes o rest are e =
      let a = step s bytes are (λ (v : A × List ℕ). Ok (Some v.0, v.1)) (o, rest) e in
      subst (λ (p : Option A × List ℕ). ((1 ∷ bytes) ≡ option_field put p.0 ++ p.1) × FitsOption Fits p.0) (ok_is (Some a.value, a.rest) (o, rest) a.more) (ap (λ (t : List ℕ). 1 ∷ t) a.parts, a.fits)
  by_takes false bytes o rest are e =
      let none : Option A × List ℕ = (None, bytes) in
      subst (λ (p : Option A × List ℕ). ((0 ∷ bytes) ≡ option_field put p.0 ++ p.1) × FitsOption Fits p.0) (ok_is none (o, rest) e) (refl, tt)

  option_takes : (bytes : List ℕ) (o : Option A) (rest : List ℕ) → AreBytes bytes → option_at read bytes ≡ Ok (o, rest) → (bytes ≡ option_field put o ++ rest) × FitsOption Fits o
  unfolding option_at
  option_takes bytes o rest are e =
      let a = step a_bool bytes are (λ (there : Bool × List ℕ). option_by read there.0 there.1) (o, rest) e in
      let t = by_takes a.value a.rest o rest a.are_bytes a.more in
      (a.parts ∙ t.0, t.1)

  -- an option with a byte before it
  pub an_option : Spells (option_field put) (FitsOption Fits) (option_at read)
  an_option = record { again = option_again; takes = option_takes }
