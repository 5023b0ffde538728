-- Locks that are revoked and joined one by one are what a grant makes of them.
use Rattle.std.proofs.Common.{◌≡◌, ℕ, ◌+◌, ◌<◌, Bool, true, false, cond, ◌==◌, ◌||◌, List, [], ◌∷◌, ◌++◌, Option, Some, None, map, take, length, get_or, append_assoc, refl, sym, ap, ◌∙◌, inl, inr}
use Rattle.std.specs.List.{AllByRecursion}
use Rattle.std.proofs.lemmas.Bool.{cases_Bool, eq-eqb, eqb-true}
use Rattle.std.proofs.lemmas.List.{append-nil, take_more}
use Rattle.book_rows.specs.Grant.{joined_in, revoked_in}
use Rattle.book_rows.specs.Lists.{stands_in}
use Rattle.book_rows.specs.Locks.{HasDistinctNumbers, joined, posse_of, same_number}
use Rattle.book_rows.specs.declared.rows.PosseRow.{PosseRow}
use Rattle.row_table.specs.Table.{changed_first, updated}
use Rattle.lock_posse.specs.Granting.{granted_row, members_in}
use Rattle.lock_posse.specs.Updates.{after_granting, grantings, joining, joinings, revoking}
use Rattle.lock_posse.specs.declared.updates.Granting.{Granting}
use Rattle.lock_posse.proofs.Granted.{granted_rows, other_row}
use Rattle.lock_posse.proofs.Rows.{all_weaker, pairs_map}

abbrev passes : Granting → PosseRow → Bool
passes q p = q.number == p.number

or_none : (b : Bool) → (b || false) ≡ b
or_none true = refl
or_none false = refl

cond_same : {X : Type 0} (b : Bool) (x : X) → cond b x x ≡ x
cond_same true x = refl
cond_same false x = refl

-- ---- where numbers are distinct, a change of the first row of a number is the change of all

granting_other : (q : Granting) (p : PosseRow) → passes q p ≡ false → after_granting q p ≡ p
granting_other q p off = rw off refl

others_stay : (q : Granting) (ps : List PosseRow) → AllByRecursion (λ p. passes q p ≡ false) ps → ps ≡ map (after_granting q) ps
others_stay q [] all = refl
others_stay q (p ∷ ps) all = ap (λ x. x ∷ ps) (sym (granting_other q p all.0)) ∙ ap (λ xs. after_granting q p ∷ xs) (others_stay q ps all.1)

other_number : (q : Granting) (p : PosseRow) → passes q p ≡ true → (r : PosseRow) → same_number p r ≡ false → passes q r ≡ false
other_number q p on r apart = let same : q.number ≡ p.number = eqb-true q.number p.number on in rw same apart

map_first : (q : Granting) (ps : List PosseRow) → HasDistinctNumbers ps → changed_first (passes q) (after_granting q) ps ≡ map (after_granting q) ps
map_first q [] distinct = refl
map_first q (p ∷ ps) distinct =
    elim (cases_Bool (passes q p)) [
      | inl on ↦
          ap (λ (b : Bool). cond b (after_granting q p ∷ ps) (p ∷ changed_first (passes q) (after_granting q) ps)) on
          ∙ ap (λ xs. after_granting q p ∷ xs) (others_stay q ps (all_weaker (λ r. same_number p r ≡ false) (λ r. passes q r ≡ false) (other_number q p on) ps distinct.0))
      | inr off ↦
          ap (λ (b : Bool). cond b (after_granting q p ∷ ps) (p ∷ changed_first (passes q) (after_granting q) ps)) off
          ∙ (ap (λ x. x ∷ changed_first (passes q) (after_granting q) ps) (sym (granting_other q p off)) ∙ ap (λ xs. after_granting q p ∷ xs) (map_first q ps distinct.1))
    ]

-- ---- all changes of one row

abbrev each : List Granting → PosseRow → PosseRow
each [] p = p
each (u ∷ us) p = each us (after_granting u p)

map_twice : (f g : PosseRow → PosseRow) (ps : List PosseRow) → map f (map g ps) ≡ map (λ p. f (g p)) ps
map_twice f g [] = refl
map_twice f g (p ∷ ps) = ap (λ xs. f (g p) ∷ xs) (map_twice f g ps)

map_self : (ps : List PosseRow) → ps ≡ map (λ p. p) ps
map_self [] = refl
map_self (p ∷ ps) = ap (λ xs. p ∷ xs) (map_self ps)

updated_each : (us : List Granting) (ps : List PosseRow) → HasDistinctNumbers ps → updated passes after_granting us ps ≡ map (each us) ps
updated_each [] ps distinct = map_self ps
updated_each (u ∷ us) ps distinct =
    ap (λ xs. updated passes after_granting us xs) (map_first u ps distinct)
    ∙ (updated_each us (map (after_granting u) ps) (pairs_map _ _ (after_granting u) (λ x y e. e) ps distinct) ∙ map_twice (each us) (after_granting u) ps)

each_append : (us vs : List Granting) (p : PosseRow) → each (us ++ vs) p ≡ each vs (each us p)
each_append [] vs p = refl
each_append (u ∷ us) vs p = each_append us vs (after_granting u p)

-- ---- each row is the one that its number finds

both_all : {X : Type 0} (P Q R : X → Type 0) → ((x : X) → P x → Q x → R x) → (xs : List X) → AllByRecursion P xs → AllByRecursion Q xs → AllByRecursion R xs
both_all P Q R h [] a b = tt
both_all P Q R h (x ∷ xs) a b = (h x a.0 b.0, both_all P Q R h xs a.1 b.1)

pub own_found : (ps : List PosseRow) → HasDistinctNumbers ps → AllByRecursion (λ p. posse_of p.number ps ≡ Some p) ps
own_found [] distinct = tt
own_found (p ∷ ps) distinct = (
  ap (λ (b : Bool). cond b (Some p) (posse_of p.number ps)) (eq-eqb p.number p.number refl),
  both_all (λ q. same_number p q ≡ false) (λ q. posse_of q.number ps ≡ Some q) (λ q. posse_of q.number (p ∷ ps) ≡ Some q)
      (λ q apart own. ap (λ (b : Bool). cond b (Some p) (posse_of q.number ps)) apart ∙ own) ps distinct.0 (own_found ps distinct.1),
)

found_number : (n : ℕ) (ps : List PosseRow) (r : PosseRow) → posse_of n ps ≡ Some r → (r.number == n) ≡ true
found_number n [] r found = cc
found_number n (p ∷ ps) r found =
    elim (cases_Bool (p.number == n)) [
      | inl on ↦ (let same : Some p ≡ Some r = rw on at found in let e : p ≡ r = cc in rw (← e) on)
      | inr off ↦ found_number n ps r (rw off at found)
    ]

map_within : (f g : PosseRow → PosseRow) (P : PosseRow → Type 0) → ((p : PosseRow) → P p → f p ≡ g p) → (ps : List PosseRow) → AllByRecursion P ps → map f ps ≡ map g ps
map_within f g P same [] all = refl
map_within f g P same (p ∷ ps) all = ap (λ x. x ∷ map f ps) (same p all.0) ∙ ap (λ xs. g p ∷ xs) (map_within f g P same ps all.1)

-- ---- the locks that are revoked

abbrev with_mark : PosseRow → Bool → PosseRow
with_mark p b = record p { revoked = b }

marked_by : (n : ℕ) (p : PosseRow) → after_granting (revoking n) p ≡ with_mark p (cond (n == p.number) (p.revoked || true) p.revoked)
marked_by n p = ap (λ ms. record p { revoked = cond (n == p.number) (p.revoked || true) p.revoked; members = ms }) (cond_same (n == p.number) p.members)

marks_next : (b r : Bool) (rest : Bool) → (cond b (r || true) r || rest) ≡ (r || (b || rest))
marks_next true true rest = refl
marks_next true false rest = refl
marks_next false r rest = refl

each_revoked : (rs : List ℕ) (p : PosseRow) → each (map revoking rs) p ≡ revoked_in rs p
each_revoked [] p = ap (with_mark p) (sym (or_none p.revoked))
each_revoked (n ∷ rs) p =
    ap (each (map revoking rs)) (marked_by n p)
    ∙ (each_revoked rs (with_mark p (cond (n == p.number) (p.revoked || true) p.revoked)) ∙ ap (with_mark p) (marks_next (n == p.number) p.revoked (stands_in rs p.number)))

-- ---- the locks that are joined

module _ (ps : List PosseRow) (js task : List ℕ) where
  joined_other : (n : ℕ) (o : Option PosseRow) → posse_of n ps ≡ o → (q : PosseRow) → (n == q.number) ≡ false → each (joining o js task) q ≡ q
  joined_other n None found q apart = refl
  joined_other n (Some r) found q apart =
      let same : r.number ≡ n = eqb-true r.number n (found_number n ps r found) in
      granting_other (record { number = r.number; revokes = false; members = Some (members_in js task r) }) q (rw same apart)

  joined_own : (p : PosseRow) (b : Bool) (ms : List (List ℕ)) → each (joining (Some p) js task) (record p { revoked = b; members = ms }) ≡ record p { revoked = b; members = members_in js task p }
  joined_own p b ms =
      rw (eq-eqb p.number p.number refl) (ap (λ c. record p { revoked = c; members = members_in js task p }) (or_none b))

  each_joined : (ns : List ℕ) (p : PosseRow) (b : Bool) (ms : List (List ℕ)) → posse_of p.number ps ≡ Some p
      → each (joinings ps js task ns) (record p { revoked = b; members = ms }) ≡ record p { revoked = b; members = cond (stands_in ns p.number) (members_in js task p) ms }
  each_joined [] p b ms own = refl
  each_joined (n ∷ ns) p b ms own =
      elim (cases_Bool (n == p.number)) [
        | inl on ↦
            (let same : n ≡ p.number = eqb-true n p.number on in
            let here : posse_of n ps ≡ Some p = rw same own in
            each_append (joining (posse_of n ps) js task) (joinings ps js task ns) (record p { revoked = b; members = ms })
            ∙ ap (λ o. each (joinings ps js task ns) (each (joining o js task) (record p { revoked = b; members = ms }))) here
            ∙ ap (each (joinings ps js task ns)) (joined_own p b ms)
            ∙ each_joined ns p b (members_in js task p) own
            ∙ ap (λ l. record p { revoked = b; members = l }) (cond_same (stands_in ns p.number) (members_in js task p))
            ∙ ap (λ (c : Bool). record p { revoked = b; members = cond (c || stands_in ns p.number) (members_in js task p) ms }) (sym on))
        | inr off ↦
            each_append (joining (posse_of n ps) js task) (joinings ps js task ns) (record p { revoked = b; members = ms })
            ∙ ap (each (joinings ps js task ns)) (joined_other n (posse_of n ps) refl (record p { revoked = b; members = ms }) off)
            ∙ each_joined ns p b ms own
            ∙ ap (λ (c : Bool). record p { revoked = b; members = cond (c || stands_in ns p.number) (members_in js task p) ms }) (sym off)
      ]

  listed_members : (rs : List ℕ) (p : PosseRow)
      → record p { revoked = p.revoked || stands_in rs p.number; members = cond (stands_in js p.number) (members_in js task p) p.members } ≡ granted_row rs js task p
  listed_members rs p =
      elim (cases_Bool (stands_in js p.number)) [
        | inl on ↦ ap (λ (c : Bool). record p { revoked = p.revoked || stands_in rs p.number; members = cond c (members_in js task p) p.members }) on
        | inr off ↦
            ap (λ (c : Bool). record p { revoked = p.revoked || stands_in rs p.number; members = cond c (members_in js task p) p.members }) off
            ∙ other_row rs js [] p task [] off
      ]

  each_granted : (rs : List ℕ) (p : PosseRow) → posse_of p.number ps ≡ Some p → each (grantings ps rs js task) p ≡ granted_row rs js task p
  each_granted rs p own =
      each_append (map revoking rs) (joinings ps js task js) p
      ∙ (ap (each (joinings ps js task js)) (each_revoked rs p) ∙ (each_joined js p (p.revoked || stands_in rs p.number) p.members own ∙ listed_members rs p))

  -- what the updates make of the rows is what the grant makes of them
  pub updates_granted : (rs : List ℕ) → HasDistinctNumbers ps → updated passes after_granting (grantings ps rs js task) ps ≡ map (joined_in js task) (map (revoked_in rs) ps)
  updates_granted rs distinct =
      updated_each (grantings ps rs js task) ps distinct
      ∙ map_within (each (grantings ps rs js task)) (granted_row rs js task) (λ p. posse_of p.number ps ≡ Some p) (each_granted rs) ps (own_found ps distinct)
      ∙ granted_rows rs js task ps

  joinings_append : (ns ms : List ℕ) → joinings ps js task (ns ++ ms) ≡ joinings ps js task ns ++ joinings ps js task ms
  joinings_append [] ms = refl
  joinings_append (n ∷ ns) ms = ap (λ us. joining (posse_of n ps) js task ++ us) (joinings_append ns ms) ∙ sym (append_assoc (joining (posse_of n ps) js task) (joinings ps js task ns) (joinings ps js task ms))

  -- one lock more
  pub joinings_more : (ns : List ℕ) (i d : ℕ) → i < length ns → joinings ps js task (take i ns) ++ joining (posse_of (get_or ns i d) ps) js task ≡ joinings ps js task (take (i + 1) ns)
  joinings_more ns i d lt =
      ap (λ us. joinings ps js task (take i ns) ++ us) (sym (append-nil (joining (posse_of (get_or ns i d) ps) js task)))
      ∙ sym (joinings_append (take i ns) (get_or ns i d ∷ []))
      ∙ ap (λ xs. joinings ps js task xs) (sym (take_more ns i d lt))

-- ---- a task that joins one lock

module _ (n : ℕ) (task : List ℕ) (ms : List (List ℕ)) (ps : List PosseRow) (with_task : (p : PosseRow) → posse_of n ps ≡ Some p → ms ≡ p.members ++ task ∷ []) where
  abbrev joining_one : Granting
  joining_one = record { number = n; revokes = false; members = Some ms }

  join_here : (p : PosseRow) → posse_of p.number ps ≡ Some p → after_granting joining_one p ≡ joined n task p
  join_here p own =
      elim (cases_Bool (n == p.number)) [
        | inl on ↦
            (let same : n ≡ p.number = eqb-true n p.number on in
            let here : ms ≡ p.members ++ task ∷ [] = with_task p (rw same own) in
            ap (λ (c : Bool). record p { revoked = cond c (p.revoked || false) p.revoked; members = cond c ms p.members }) on
            ∙ (λ i. record p { revoked = or_none p.revoked i; members = here i })
            ∙ ap (λ (c : Bool). record p { members = cond c (p.members ++ task ∷ []) p.members }) (sym (eq-eqb p.number n (sym same))))
        | inr off ↦
            (let apart : (p.number == n) ≡ false = elim (cases_Bool (p.number == n)) [
              | inl e ↦ (let clash : true ≡ false = sym (eq-eqb n p.number (sym (eqb-true p.number n e))) ∙ off in cc)
              | inr e ↦ e
            ] in
            granting_other joining_one p off ∙ ap (λ (c : Bool). record p { members = cond c (p.members ++ task ∷ []) p.members }) (sym apart))
      ]

  pub first_joined : HasDistinctNumbers ps → changed_first (passes joining_one) (after_granting joining_one) ps ≡ map (joined n task) ps
  first_joined distinct =
      map_first joining_one ps distinct
      ∙ map_within (after_granting joining_one) (joined n task) (λ p. posse_of p.number ps ≡ Some p) join_here ps (own_found ps distinct)
