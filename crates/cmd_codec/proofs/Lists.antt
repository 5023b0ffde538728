-- Lists and options read as they are written.
use Rattle.std.proofs.Common.{◌≡◌, ℕ, zero, suc, ◌&&◌, Bool, true, false, cond, List, [], ◌∷◌, ◌++◌, length, Option, Some, None, refl, sym, ap, subst, ◌∙◌, append_assoc, arith, nat_le}
use Rattle.std.specs.Prelude.{◌==◌}
use Rattle.std.specs.List.{flat_map, list_all}
use Rattle.std.specs.Int.{w16, to_be_bytes}
use Rattle.std.proofs.lemmas.Bool.{eqb-true}
use Rattle.std.proofs.lemmas.Bool.Decides.{nat_tests}
use Rattle.std.proofs.lemmas.List.Concat.{flat_map-cons}
use Rattle.seg_names.specs.Names.{is_name}
use Rattle.wire_fields.specs.Fields.{◌>>=◌, AreBytes, byte_at, number_at}
use Rattle.wire_fields.proofs.FieldsTaken.{bind_some}
use Rattle.book_rows.specs.Form.{is_few, is_range, are_parts, are_ranges_of}
use Rattle.book_rows.specs.declared.rows.Range.{Range}
use Rattle.book_rows.specs.declared.rows.Ranges.{Ranges}
use Rattle.cmd_codec.specs.Fields.{list_field, option_field, ranges_field}
use Rattle.cmd_codec.specs.Reading.{Reader, each_at, list_at, some_at, option_by, option_at, ranges_at}
use Rattle.cmd_codec.proofs.FieldLists.{Field, again2, takes2}
use Rattle.cmd_codec.proofs.Readers.{some_is, and_true, both_true, any, Spells, step, then}
use Rattle.cmd_codec.proofs.Numbers.{fits16, number16, byte, a_name}
use Rattle.cmd_codec.proofs.FieldBytes.{a_range}

-- a list that is counted by two bytes, each item good
abbrev pub is_list : {A : Type 0} → (A → Bool) → List A → Bool
is_list good xs = nat_le (length xs) 65535 && list_all good xs

abbrev pub is_option : {A : Type 0} → (A → Bool) → Option A → Bool
is_option good (Some x) = good x
is_option good None = true

module _ {A : Type 0} (put : A → List ℕ) (good sure : A → Bool) (read : Reader A) (spells : Spells put good sure read) where
  each_again : (xs : List A) (rest : List ℕ) → list_all good xs ≡ true → each_at read (length xs) (flat_map put xs ++ rest) ≡ Some (xs, rest)
  unfolding each_at
  each_again [] rest h = refl
  each_again (x ∷ xs) rest h =
      let p = and_true (good x) (list_all good xs) h in
      let regrouped : flat_map put (x ∷ xs) ++ rest ≡ put x ++ (flat_map put xs ++ rest) = ap (λ (t : List ℕ). t ++ rest) (flat_map-cons put x xs) ∙ append_assoc (put x) (flat_map put xs) rest in
      ap (each_at read (suc (length xs))) regrouped ∙ rw (spells.again x (flat_map put xs ++ rest) p.0, each_again xs rest p.1) refl

  each_takes : (n : ℕ) (bytes : List ℕ) (x : List A × List ℕ) → AreBytes bytes → each_at read n bytes ≡ Some x → (bytes ≡ flat_map put x.0 ++ x.1) × (length x.0 ≡ n) × (list_all sure x.0 ≡ true)
  unfolding each_at
  each_takes zero bytes x fits e =
      subst (λ (y : List A × List ℕ). (bytes ≡ flat_map put y.0 ++ y.1) × (length y.0 ≡ 0) × (list_all sure y.0 ≡ true)) (some_is ([], bytes) x e) (refl, refl, refl)
  each_takes (suc n) bytes x fits e =
      let a = step put good sure read spells bytes fits (λ (first : A × List ℕ). each_at read n first.1 >>= λ (others : List A × List ℕ). Some (first.0 ∷ others.0, others.1)) x e in
      let b = bind_some (each_at read n a.rest) (λ (others : List A × List ℕ). Some (a.value ∷ others.0, others.1)) x a.more in
      let t = each_takes n a.rest b.0 a.fits b.1 in
      let made : List A × List ℕ = (a.value ∷ b.0.0, b.0.1) in
      let parts : bytes ≡ flat_map put (a.value ∷ b.0.0) ++ b.0.1 = then bytes (put a.value) a.rest (flat_map put b.0.0) b.0.1 a.parts t.0 ∙ ap (λ (r : List ℕ). r ++ b.0.1) (sym (flat_map-cons put a.value b.0.0)) in
      subst (λ (y : List A × List ℕ). (bytes ≡ flat_map put y.0 ++ y.1) × (length y.0 ≡ suc n) × (list_all sure y.0 ≡ true)) (some_is made x b.2) (parts, ap suc t.1, both_true (sure a.value) (list_all sure b.0.0) a.is_sure t.2)

  list_again : (xs : List A) (rest : List ℕ) → is_list good xs ≡ true → list_at read (list_field put xs ++ rest) ≡ Some (xs, rest)
  unfolding list_at
  list_again xs rest h =
      let p = and_true (nat_le (length xs) 65535) (list_all good xs) h in
      let regrouped : list_field put xs ++ rest ≡ to_be_bytes w16 (length xs) ++ (flat_map put xs ++ rest) = append_assoc (to_be_bytes w16 (length xs)) (flat_map put xs) rest in
      ap (list_at read) regrouped ∙ rw (number16.again (length xs) (flat_map put xs ++ rest) p.0, each_again xs rest p.1) refl

  list_takes : (bytes : List ℕ) (xs : List A) (rest : List ℕ) → AreBytes bytes → list_at read bytes ≡ Some (xs, rest) → (bytes ≡ list_field put xs ++ rest) × (list_all sure xs ≡ true)
  unfolding list_at
  list_takes bytes xs rest fits e =
      let a = step (to_be_bytes w16) fits16 any (number_at w16) number16 bytes fits (λ (count : ℕ × List ℕ). each_at read count.0 count.1) (xs, rest) e in
      let t = each_takes a.value a.rest (xs, rest) a.fits a.more in
      (then bytes (to_be_bytes w16 (length xs)) a.rest (flat_map put xs) rest (a.parts ∙ ap (λ (n : ℕ). to_be_bytes w16 n ++ a.rest) (sym t.1)) t.0, t.2)

  -- a list with its count before it
  pub listed : Spells (list_field put) (is_list good) (list_all sure) (list_at read)
  listed = record { again = list_again; takes = list_takes }

  option_again : (o : Option A) (rest : List ℕ) → is_option good o ≡ true → option_at read (option_field put o ++ rest) ≡ Some (o, rest)
  unfolding option_at byte_at some_at
  option_again (Some x) rest h = rw (spells.again x rest h) refl
  option_again None rest h = refl

  some_takes : (bytes : List ℕ) (o : Option A) (rest : List ℕ) → AreBytes bytes → some_at read bytes ≡ Some (o, rest) → ((1 ∷ bytes) ≡ option_field put o ++ rest) × (is_option sure o ≡ true)
  unfolding some_at
  some_takes bytes o rest fits e =
      let a = step put good sure read spells bytes fits (λ (v : A × List ℕ). Some (Some v.0, v.1)) (o, rest) e in
      subst (λ (p : Option A × List ℕ). ((1 ∷ bytes) ≡ option_field put p.0 ++ p.1) × (is_option sure p.0 ≡ true)) (some_is (Some a.value, a.rest) (o, rest) a.more) (ap (λ (t : List ℕ). 1 ∷ t) a.parts, a.is_sure)

  by_code : (n : ℕ) (bytes : List ℕ) (o : Option A) (rest : List ℕ) (zeroth first : Bool) → (n == 0) ≡ zeroth → (n == 1) ≡ first → AreBytes bytes → cond zeroth (Some (None, bytes)) (cond first (some_at read bytes) None) ≡ Some (o, rest) → ((n ∷ bytes) ≡ option_field put o ++ rest) × (is_option sure o ≡ true)
  by_code n bytes o rest true first z f fits e =
      let is : n ≡ 0 = eqb-true n 0 z in
      let none : Option A × List ℕ = (None, bytes) in
      subst (λ (p : Option A × List ℕ). ((n ∷ bytes) ≡ option_field put p.0 ++ p.1) × (is_option sure p.0 ≡ true)) (some_is none (o, rest) e) (ap (λ (m : ℕ). m ∷ bytes) is, refl)
  by_code n bytes o rest false true z f fits e =
      let is : n ≡ 1 = eqb-true n 1 f in
      let t = some_takes bytes o rest fits e in
      (ap (λ (m : ℕ). m ∷ bytes) is ∙ t.0, t.1)
  by_code n bytes o rest false false z f fits e = absurd cc

  option_takes : (bytes : List ℕ) (o : Option A) (rest : List ℕ) → AreBytes bytes → option_at read bytes ≡ Some (o, rest) → (bytes ≡ option_field put o ++ rest) × (is_option sure o ≡ true)
  unfolding option_at
  option_takes bytes o rest fits e =
      let a = step (λ (n : ℕ). n ∷ []) any any byte_at byte bytes fits (λ (code : ℕ × List ℕ). option_by read code.0 code.1) (o, rest) e in
      let t = by_code a.value a.rest o rest (a.value == 0) (a.value == 1) refl refl a.fits a.more in
      (a.parts ∙ t.0, t.1)

  -- an option with a byte before it
  pub optional : Spells (option_field put) (is_option good) (is_option sure) (option_at read)
  optional = record { again = option_again; takes = option_takes }

-- a list that keeps its limit is counted by two bytes
pub short_list : {A : Type 0} (good : A → Bool) (xs : List A) → is_few xs ≡ true → list_all good xs ≡ true → is_list good xs ≡ true
short_list good xs few all = let le : nat_le (length xs) 65535 ≡ true = grind (arith, nat_tests) in both_true (nat_le (length xs) 65535) (list_all good xs) le all

abbrev pub list_of : {A : Type 0} → Field A → Field (List A)
list_of f = record { put = list_field f.put; good = is_list f.good; sure = list_all f.sure; read = list_at f.read; spells = listed f.put f.good f.sure f.read f.spells }

abbrev pub option_of : {A : Type 0} → Field A → Field (Option A)
option_of f = record { put = option_field f.put; good = is_option f.good; sure = is_option f.sure; read = option_at f.read; spells = optional f.put f.good f.sure f.read f.spells }

pub parts_good : (ps : List Range) → are_parts ps ≡ true → is_list is_range ps ≡ true
parts_good ps h =
    let p = and_true _ _ h in
    let q = and_true _ _ p.0 in
    short_list is_range ps q.0 q.1

abbrev make_ranges : List ℕ → List Range → Ranges
make_ranges stream parts = record { stream = stream; parts = parts }

-- the ranges of a stream
abbrev pub are_some_ranges : Ranges → Bool
are_some_ranges r = are_ranges_of (Some r)

ranges_again : (r : Ranges) (rest : List ℕ) → are_some_ranges r ≡ true → ranges_at (ranges_field r ++ rest) ≡ Some (r, rest)
unfolding ranges_at
ranges_again r rest h =
    let q = and_true _ (are_parts r.parts) h in
    let p = and_true (is_name r.stream) _ q.0 in
    again2 a_name (list_of a_range) make_ranges r.stream r.parts rest p.0 (parts_good r.parts q.1)

ranges_takes : (bytes : List ℕ) (r : Ranges) (rest : List ℕ) → AreBytes bytes → ranges_at bytes ≡ Some (r, rest) → (bytes ≡ ranges_field r ++ rest) × (any r ≡ true)
unfolding ranges_at
ranges_takes bytes r rest fits h =
    let t = takes2 a_name (list_of a_range) make_ranges bytes r rest fits h in
    subst (λ (x : Ranges). (bytes ≡ ranges_field x ++ rest) × (any x ≡ true)) t.made (t.parts, refl)

pub ranges : Spells ranges_field are_some_ranges any ranges_at
ranges = record { again = ranges_again; takes = ranges_takes }

abbrev pub some_ranges : Field Ranges
some_ranges = record { put = ranges_field; good = are_some_ranges; sure = any; read = ranges_at; spells = ranges }
