-- Rows that take their new members from the front of a list of them.
use Rattle.std.proofs.Common.{◌≡◌, ℕ, ◌+◌, ◌<◌, Bool, true, false, cond, ◌==◌, List, [], ◌∷◌, ◌++◌, map, filter, take, drop, length, get_or, refl, sym, ap, ◌∙◌, arith}
use Rattle.std.specs.Prelude.{slice_get, unwrap_or}
use Rattle.std.proofs.lemmas.Bool.{or_parts}
use Rattle.std.proofs.lemmas.List.Elements.{filter-append}
use Rattle.std.proofs.lemmas.List.{append-nil, map-append, take_more, get_or-append-add, length-map, length-take-le, get_or-drop}
use Rattle.book_rows.specs.Grant.{joined_in, revoked_in}
use Rattle.book_rows.specs.Lists.{stands_in}
use Rattle.book_rows.specs.declared.rows.PosseRow.{PosseRow}
use Rattle.lock_posse.specs.Granting.{granted_row, member_lists, members_in}

member_lists_push : (js task : List ℕ) (ps : List PosseRow) (p : PosseRow) → member_lists js task (ps ++ p ∷ []) ≡ member_lists js task ps ++ member_lists js task (p ∷ [])
member_lists_push js task ps p =
    ap (λ qs. map (members_in js task) qs) (filter-append (λ q. stands_in js q.number) ps (p ∷ []))
    ∙ map-append (members_in js task) (filter (λ q. stands_in js q.number) ps) (filter (λ q. stands_in js q.number) (p ∷ []))

pub member_lists_more : (js task : List ℕ) (ps : List PosseRow) (i : ℕ) (p : PosseRow) → i < length ps → p ≡ get_or ps i p
    → member_lists js task (take i ps) ++ member_lists js task (p ∷ []) ≡ member_lists js task (take (i + 1) ps)
member_lists_more js task ps i p lt is =
    sym (member_lists_push js task (take i ps) p) ∙ ap (λ qs. member_lists js task qs) (ap (λ x. take i ps ++ x ∷ []) is ∙ sym (take_more ps i p lt))

-- each row in one step or in two
pub granted_rows : (rs js task : List ℕ) (ps : List PosseRow) → map (granted_row rs js task) ps ≡ map (joined_in js task) (map (revoked_in rs) ps)
granted_rows rs js task [] = refl
granted_rows rs js task (p ∷ ps) = ap (λ qs. granted_row rs js task p ∷ qs) (granted_rows rs js task ps)

none_listed : (js : List ℕ) (n : ℕ) → stands_in js n ≡ false → filter (λ m. m == n) js ≡ []
none_listed [] n e = refl
none_listed (j ∷ js) n e =
    let parts = or_parts (j == n) (stands_in js n) e in
    ap (λ b. cond b (j ∷ filter (λ m. m == n) js) (filter (λ m. m == n) js)) parts.0 ∙ none_listed js n parts.1

module _ (rs js : List ℕ) (lists : List (List (List ℕ))) (p : PosseRow) (task : List ℕ) (rest : List PosseRow) where
  first_lists : (b : Bool) → stands_in js p.number ≡ b → lists ≡ member_lists js task (p ∷ rest) → lists ≡ cond b (members_in js task p ∷ member_lists js task rest) (member_lists js task rest)
  first_lists b on e = e ∙ (ap (λ c. map (members_in js task) (cond c (p ∷ filter (λ q. stands_in js q.number) rest) (filter (λ q. stands_in js q.number) rest))) on ∙ split b) where
    split : (b : Bool) → map (members_in js task) (cond b (p ∷ filter (λ q. stands_in js q.number) rest) (filter (λ q. stands_in js q.number) rest)) ≡ cond b (members_in js task p ∷ member_lists js task rest) (member_lists js task rest)
    split true = refl
    split false = refl

  pub listed_row : stands_in js p.number ≡ true → lists ≡ member_lists js task (p ∷ rest)
      → record (revoked_in rs p) { members = unwrap_or (slice_get lists 0) p.members } ≡ granted_row rs js task p
  listed_row on e = ap (λ ls. record (revoked_in rs p) { members = unwrap_or (slice_get ls 0) p.members }) (first_lists true on e)

  pub listed_rest : stands_in js p.number ≡ true → lists ≡ member_lists js task (p ∷ rest) → drop 1 lists ≡ member_lists js task rest
  listed_rest on e = ap (λ ls. drop 1 ls) (first_lists true on e)

  pub other_row : stands_in js p.number ≡ false → revoked_in rs p ≡ granted_row rs js task p
  other_row off =
      sym (ap (λ ns. record (revoked_in rs p) { members = p.members ++ map (λ (n : ℕ). task) ns }) (none_listed js p.number off) ∙ ap (λ ms. record (revoked_in rs p) { members = ms }) (append-nil p.members))

  pub other_rest : stands_in js p.number ≡ false → lists ≡ member_lists js task (p ∷ rest) → lists ≡ member_lists js task rest
  other_rest off e = first_lists false off e

-- the element that a map in place comes to is still as it was
pub not_yet : {X : Type 0} (f : X → X) (xs ys : List X) (i : ℕ) (x : X) → i < length xs → ys ≡ map f (take i xs) ++ drop i xs → x ≡ get_or ys i x → x ≡ get_or xs i x
not_yet f xs ys i x lt is at =
    let short : length (map f (take i xs)) ≡ i = length-map (take i xs) f ∙ length-take-le i xs (omega arith) in
    at ∙ (ap (λ zs. get_or zs i x) is ∙ grind (arith, get_or-append-add (map f (take i xs)) (drop i xs) 0 x, get_or-drop i xs 0 x, short))
