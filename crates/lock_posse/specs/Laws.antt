-- What look-ups and changes in place promise of the keys.
use Rattle.std.specs.Prelude.{◌≡◌, ◌⊎◌, ℕ, ℤ, Bool, true, false, List, [], ◌∷◌, ◌==◌, ◌&&◌, ◌||◌, not, bytes_eq, cond, filter, refl}
use Rattle.std.specs.List.{list_any}
use Rattle.std.proofs.Common.{inl, inr}
use Rattle.std.proofs.lemmas.Bool.{cases_Bool, eqb-true, and_parts}
use Rattle.std.proofs.lemmas.Slice.Eq.{bytes_eq-Decides}
use Rattle.iv_span.specs.Extent.{Extent, overlap}
use Rattle.book_rows.specs.Lists.{is_empty}
use Rattle.book_rows.specs.Locks.{is_member, left}
use Rattle.book_rows.specs.declared.rows.PosseRow.{PosseRow}
use Rattle.row_index.specs.Index.{In, IsReached, digest_key, digest_range}
use Rattle.row_index.proofs.IndexLemmas.{digest_reached}
use Rattle.row_table.specs.Table.{HasNoNewKeys}
use Rattle.span_keys.specs.Classes.{span_ranges}
use Rattle.span_keys.proofs.SpanLemmas.{span_reached}
use Rattle.lock_posse.specs.Keys.{is_over, lock_keys, member_digest, member_keys, number_digest, source_digest}
use Rattle.lock_posse.specs.Leaving.{is_last, left_by}

-- ---- a row that passes has a key in the ranges

pub number_covers : (number : ℕ) (p : PosseRow) → (p.number == number) ≡ true → IsReached (digest_range (number_digest number) ∷ []) (lock_keys p)
number_covers number p on = let same : p.number ≡ number = eqb-true p.number number on in digest_reached (number_digest number) (lock_keys p) (inl (rw same refl))

pub ended_covers : (number : ℕ) (p : PosseRow) → ((p.number == number) && is_empty p.members) ≡ true → IsReached (digest_range (number_digest number) ∷ []) (lock_keys p)
ended_covers number p on = number_covers number p (and_parts (p.number == number) (is_empty p.members) on).0

pub revoking_covers : (number : ℕ) (p : PosseRow) → ((p.number == number) && not p.revoked) ≡ true → IsReached (digest_range (number_digest number) ∷ []) (lock_keys p)
revoking_covers number p on = number_covers number p (and_parts (p.number == number) (not p.revoked) on).0

pub leaving_covers : (number : ℕ) (task : List ℕ) (p : PosseRow) → ((p.number == number) && is_member task p) ≡ true → IsReached (digest_range (number_digest number) ∷ []) (lock_keys p)
leaving_covers number task p on = number_covers number p (and_parts (p.number == number) (is_member task p) on).0

pub over_covers : (source : List ℕ) (span : Extent) (p : PosseRow) (rest : Bool) → (is_over source span p && rest) ≡ true → IsReached (span_ranges (source_digest source) span) (lock_keys p)
over_covers source span p rest on =
    let parts = and_parts (bytes_eq p.source source) (overlap p.span span) (and_parts (is_over source span p) rest on).0 in
    let same : p.source ≡ source = (bytes_eq-Decides p.source source).0 parts.0 in
    span_reached (source_digest source) p.span span parts.1 (lock_keys p) (inr (inl (rw same refl)))

member_in : (task : List ℕ) (ms : List (List ℕ)) → list_any (λ m. bytes_eq m task) ms ≡ true → In (digest_key (member_digest task)) (member_keys ms)
member_in task [] on = cc
member_in task (m ∷ ms) on =
    elim (cases_Bool (bytes_eq m task)) [
      | inl here ↦ (let same : m ≡ task = (bytes_eq-Decides m task).0 here in inl (rw same refl))
      | inr apart ↦ inr (member_in task ms (rw apart at on))
    ]

pub member_covers : (task : List ℕ) (p : PosseRow) → is_member task p ≡ true → IsReached (digest_range (member_digest task) ∷ []) (lock_keys p)
member_covers task p on = digest_reached (member_digest task) (lock_keys p) (inr (inr (member_in task p.members on)))

pub last_covers : (task : List ℕ) (p : PosseRow) → is_last task p ≡ true → IsReached (digest_range (member_digest task) ∷ []) (lock_keys p)
last_covers task p on = member_covers task p (and_parts (is_member task p) (is_empty (left_by task p).members) on).0

-- ---- a changed row passes no more

pub revoking_settles : (number : ℕ) (p : PosseRow) → ((p.number == number) && not p.revoked) ≡ true → ((p.number == number) && not (p.revoked || (p.number == number))) ≡ false
revoking_settles number p on =
    let here = (and_parts (p.number == number) (not p.revoked) on).0 in
    elim (cases_Bool p.revoked) [ inl r ↦ rw (here, r) refl | inr r ↦ rw (here, r) refl ]

-- no member of that id is left
gone : (task : List ℕ) (ms : List (List ℕ)) → list_any (λ m. bytes_eq m task) (filter (λ m. not (bytes_eq m task)) ms) ≡ false
gone task [] = refl
gone task (m ∷ ms) =
    elim (cases_Bool (bytes_eq m task)) [ inl on ↦ rw on (gone task ms) | inr off ↦ rw (off, off) (gone task ms) ]

pub leaving_settles : (number : ℕ) (task : List ℕ) (p : PosseRow) → ((p.number == number) && is_member task p) ≡ true → ((p.number == number) && is_member task (left number task p)) ≡ false
leaving_settles number task p on =
    let here = (and_parts (p.number == number) (is_member task p) on).0 in
    rw here (gone task p.members)

-- ---- and has no new key

in_filter : (test : List ℕ → Bool) (ms : List (List ℕ)) (k : ℕ × ℤ) → In k (member_keys (filter test ms)) → In k (member_keys ms)
in_filter test [] k there = there
in_filter test (m ∷ ms) k there =
    elim (cases_Bool (test m)) [
      | inl on ↦
          (let there' : (k ≡ digest_key (member_digest m)) ⊎ In k (member_keys (filter test ms)) = rw on at there in
          elim there' [ inl e ↦ inl e | inr later ↦ inr (in_filter test ms k later) ])
      | inr off ↦ inr (in_filter test ms k (rw off at there))
    ]

in_either : (b : Bool) (test : List ℕ → Bool) (ms : List (List ℕ)) (k : ℕ × ℤ) → In k (member_keys (cond b (filter test ms) ms)) → In k (member_keys ms)
in_either true test ms k there = in_filter test ms k there
in_either false test ms k there = there

pub leaving_keeps : (number : ℕ) (task : List ℕ) (p : PosseRow) → HasNoNewKeys (lock_keys p) (lock_keys (left number task p))
leaving_keeps number task p k there =
    elim there [
      | inl e ↦ inl e
      | inr (inl e) ↦ inr (inl e)
      | inr (inr later) ↦ inr (inr (in_either (p.number == number) (λ m. not (bytes_eq m task)) p.members k later))
    ]
