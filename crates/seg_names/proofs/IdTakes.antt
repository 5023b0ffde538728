-- An id that is read is written as the text that it was read of.
use Rattle.std.proofs.Common.{◌≡◌, ℕ, ◌+◌, ◌-◌, ◌==◌, ◌&&◌, Bool, true, false, cond, List, [], ◌∷◌, ◌++◌, length, take, drop, Option, Some, None, ℤ, refl, sym, ap, ap₂, subst, ◌∙◌, append-nil, nat_lt}
use Rattle.std.specs.Prelude.{nat_le, bytes_eq, int_lt}
use Rattle.std.proofs.lemmas.Bool.{eqb-true}
use Rattle.std.proofs.lemmas.List.{take-append-drop}
use Rattle.std.proofs.lemmas.Option.{cond_some}
use Rattle.std.proofs.lemmas.Slice.Eq.{bytes_eq-Decides}
use Rattle.iv_time.specs.Texts.{◌>>=◌, instant_of}
use Rattle.iv_time.specs.Civil.{instant_text}
use Rattle.seg_names.specs.Names.{is_name}
use Rattle.seg_names.specs.declared.seg_id.SegId.{SegId}
use Rattle.seg_names.specs.IdTexts.{instant_field, part_text, id_text, number_of, number_after, after_underscore, numbered_part, ends_with_z, part_of, full_instant, instant_after, last_instant, parts_of, checked_id, id_of}
use Rattle.seg_names.proofs.Numbers.{part_is, number_is, number_takes}

bind_some : {A B : Type 0} (o : Option A) (f : A → Option B) (y : B) → (o >>= f) ≡ Some y → (x : A) × (o ≡ Some x) × (f x ≡ Some y)
bind_some (Some x) f y e = (x, refl, e)
bind_some None f y e = absurd cc

when_some : {A : Type 0} (b : Bool) (o : Option A) (y : A) → cond b o None ≡ Some y → (b ≡ true) × (o ≡ Some y)
when_some true o y e = (refl, e)
when_some false o y e = absurd cc

-- ---- an instant

full_takes : (text : List ℕ) (ms : ℤ) → full_instant text ≡ Some ms → instant_text ms ≡ text
unfolding full_instant
full_takes text ms e =
    let b = bind_some (instant_of text) (λ m. cond (bytes_eq (instant_text m) text) (Some m) None) ms e in
    let g = cond_some (bytes_eq (instant_text b.0) text) b.0 ms b.2 in
    subst (λ (m : ℤ). instant_text m ≡ text) g.1 ((bytes_eq-Decides (instant_text b.0) text).0 g.0)

after_takes : (before back front : List ℕ) (ms : ℤ) → instant_after before back ≡ Some (front, ms) → front ++ instant_field ms ≡ before ++ back
unfolding instant_after instant_field
after_takes before [] front ms e = absurd cc
after_takes before (x ∷ text) front ms e =
    let b = bind_some (full_instant text) (λ m. cond (x == 95) (Some (before, m)) None) (front, ms) e in
    let g = cond_some (x == 95) (before, b.0) (front, ms) b.2 in
    let byte : x ≡ 95 = eqb-true _ _ g.0 in
    let same = full_takes text b.0 b.1 in
    let field : instant_field b.0 ≡ x ∷ text = ap₂ (λ (y : ℕ) (ys : List ℕ). y ∷ ys) (sym byte) same in
    subst (λ (p : List ℕ × ℤ). p.0 ++ instant_field p.1 ≡ before ++ (x ∷ text)) g.1 (ap (λ (ys : List ℕ). before ++ ys) field)

last_takes : (text front : List ℕ) (ms : ℤ) → last_instant text ≡ Some (front, ms) → front ++ instant_field ms ≡ text
unfolding last_instant
last_takes text front ms e =
    let k = length text - 25 in
    let g = when_some (nat_le 25 (length text)) (instant_after (take k text) (drop k text)) (front, ms) e in
    after_takes (take k text) (drop k text) front ms g.1 ∙ take-append-drop k text

-- ---- a part

number_after_takes : (before back front : List ℕ) (n : ℕ) → number_after before back ≡ Some (front, n) → front ++ part_text n ≡ before ++ back
unfolding number_after
number_after_takes before [] front n e = absurd cc
number_after_takes before (x ∷ digits) front n e =
    let b = bind_some (number_of digits) (λ m. cond (x == 95) (Some (before, m)) None) (front, n) e in
    let g = cond_some (x == 95) (before, b.0) (front, n) b.2 in
    let byte : x ≡ 95 = eqb-true _ _ g.0 in
    let is = number_is b.0 digits (number_takes digits b.0 b.1) in
    let field : part_text b.0 ≡ x ∷ digits = part_is b.0 is.low ∙ ap₂ (λ (y : ℕ) (ys : List ℕ). y ∷ ys) (sym byte) (sym is.same) in
    subst (λ (p : List ℕ × ℕ). p.0 ++ part_text p.1 ≡ before ++ (x ∷ digits)) g.1 (ap (λ (ys : List ℕ). before ++ ys) field)

numbered_takes : (text front : List ℕ) (n : ℕ) → numbered_part text ≡ Some (front, n) → front ++ part_text n ≡ text
unfolding numbered_part
numbered_takes text front n e =
    let k = length text - (after_underscore text + 1) in
    let g = when_some (nat_lt (after_underscore text) (length text)) (number_after (take k text) (drop k text)) (front, n) e in
    number_after_takes (take k text) (drop k text) front n g.1 ∙ take-append-drop k text

part_takes_by : (ends : Bool) (text front : List ℕ) (n : ℕ) → cond ends (Some (text, 0)) (numbered_part text) ≡ Some (front, n) → front ++ part_text n ≡ text
part_takes_by true text front n e =
    let same : ◌≡◌ {A = List ℕ × ℕ} (text, 0) (front, n) = cc in
    subst (λ (p : List ℕ × ℕ). p.0 ++ part_text p.1 ≡ text) same (append-nil text)
part_takes_by false text front n e = numbered_takes text front n e

part_takes : (text front : List ℕ) (n : ℕ) → part_of text ≡ Some (front, n) → front ++ part_text n ≡ text
unfolding part_of
part_takes text front n e = part_takes_by (ends_with_z text) text front n e

-- ---- an id

parts_takes : (text : List ℕ) (q : List ℕ × ℤ × ℤ × ℤ × ℕ) → parts_of text ≡ Some q → q.0 ++ instant_field q.1 ++ instant_field q.2 ++ instant_field q.3 ++ part_text q.4 ≡ text
unfolding parts_of
parts_takes text q e =
    let p = bind_some (part_of text) (λ part. last_instant part.0 >>= λ version. last_instant version.0 >>= λ end. last_instant end.0 >>= λ start. Some (start.0, start.1, end.1, version.1, part.1)) q e in
    let part = p.0 in
    let v = bind_some (last_instant part.0) (λ version. last_instant version.0 >>= λ end. last_instant end.0 >>= λ start. Some (start.0, start.1, end.1, version.1, part.1)) q p.2 in
    let version = v.0 in
    let n = bind_some (last_instant version.0) (λ end. last_instant end.0 >>= λ start. Some (start.0, start.1, end.1, version.1, part.1)) q v.2 in
    let end = n.0 in
    let s = bind_some (last_instant end.0) (λ start. Some (start.0, start.1, end.1, version.1, part.1)) q n.2 in
    let start = s.0 in
    let same : ◌≡◌ {A = List ℕ × ℤ × ℤ × ℤ × ℕ} (start.0, start.1, end.1, version.1, part.1) q = some_is _ _ s.2 in
    let b : start.0 ++ instant_field start.1 ≡ end.0 = last_takes end.0 start.0 start.1 s.1 in
    let c : end.0 ++ instant_field end.1 ≡ version.0 = last_takes version.0 end.0 end.1 n.1 in
    let d : version.0 ++ instant_field version.1 ≡ part.0 = last_takes part.0 version.0 version.1 v.1 in
    let whole : part.0 ++ part_text part.1 ≡ text = part_takes text part.0 part.1 p.1 in
    let joined = ap (λ (t : List ℕ). t ++ instant_field end.1 ++ instant_field version.1 ++ part_text part.1) b
    ∙ ap (λ (t : List ℕ). t ++ instant_field version.1 ++ part_text part.1) c
    ∙ ap (λ (t : List ℕ). t ++ part_text part.1) d
    ∙ whole in
    subst (λ (r : List ℕ × ℤ × ℤ × ℤ × ℕ). r.0 ++ instant_field r.1 ++ instant_field r.2 ++ instant_field r.3 ++ part_text r.4 ≡ text) same joined
  where
    some_is : {A : Type 0} (x y : A) → Some x ≡ Some y → x ≡ y
    some_is x y e = cc

pub id_takes : (text : List ℕ) (id : SegId) → id_of text ≡ Some id → id_text id ≡ text
unfolding id_of
id_takes text id e =
    let p = bind_some (parts_of text) (λ q. checked_id q.0 (record { start = q.1; end = q.2 }) q.3 q.4) id e in
    let q = p.0 in
    let g = cond_some (int_lt q.1 q.2 && is_name q.0) (record { source = q.0; span = record { start = q.1; end = q.2 }; version = q.3; part = q.4 }) id p.2 in
    subst (λ (i : SegId). id_text i ≡ text) g.1 (parts_takes text q p.1)
