-- A tick's steps of some groups leave the sequences of every other group as they were.
use Rattle.std.proofs.Common.{◌&&◌, ◌++◌, ◌==◌, ◌∙◌, ◌∷◌, ◌≡◌, Bool, List, None, Option, Some, [], ap, bytes_eq, cond, false, filter, find, inl, inr, map, refl, sym, true, ℕ, ℤ}
use Rattle.std.proofs.lemmas.Bool.{and_from, and_parts, cases_Bool, eq-eqb, eqb-true, false≢true}
use Rattle.std.proofs.lemmas.List.{append-nil}
use Rattle.std.proofs.lemmas.List.Elements.{filter-append}
use Rattle.std.proofs.lemmas.Slice.Eq.{bytes_eq-Decides}
use Rattle.std.specs.List.{AllByRecursion, list_any}
use Rattle.book_rows.specs.Sequences.{abandoned, is_of_group}
use Rattle.book_rows.specs.Ticks.{Ticking, groups_of, is_active, is_late, late_from, opened_row, opens, stopped, ticked_all, ticked_group, ticked_groups, with_stopped, without_late}
use Rattle.book_rows.specs.declared.rows.OffsetRow.{OffsetRow}
use Rattle.book_rows.specs.declared.rows.SequenceRow.{SequenceRow}
use Rattle.book_rows.specs.declared.rows.SupervisorRow.{SupervisorRow}

-- a change that leaves those that pass leaves what is filtered
filter_stays : {X : Type 0} (p : X → Bool) (f : X → X) → ((x : X) → p (f x) ≡ p x) → ((x : X) → p x ≡ true → f x ≡ x) → (xs : List X) → filter p (map f xs) ≡ filter p xs
filter_stays p f same still [] = refl
filter_stays p f same still (x ∷ xs) = elim (cases_Bool (p x)) [
  | inl on ↦ rw (same x, on, still x on) (ap (λ ys. x ∷ ys) (filter_stays p f same still xs))
  | inr off ↦ rw (same x, off) (filter_stays p f same still xs)
]

-- the sequences of this group
module _ (source : List ℕ) (other : ℕ) where
  abbrev theirs : List SequenceRow → List SequenceRow
  theirs us = filter (is_of_group source other) us

  -- the group of a supervisor is this one
  abbrev is_this : SupervisorRow → ℕ → Bool
  is_this s group = bytes_eq s.source source && (group == other)

  not_theirs : (s : SupervisorRow) (group : ℕ) → is_this s group ≡ false → (u : SequenceRow) → is_of_group source other u ≡ true → is_of_group s.source group u ≡ false
  not_theirs s group apart u on = elim (cases_Bool (is_of_group s.source group u)) [
    | inr off ↦ off
    | inl here ↦
        (let a = and_parts (bytes_eq u.source source) (u.group == other) on in
        let b = and_parts (bytes_eq u.source s.source) (u.group == group) here in
        let own : s.source ≡ source = sym ((bytes_eq-Decides u.source s.source).0 b.0) ∙ (bytes_eq-Decides u.source source).0 a.0 in
        let same : group ≡ other = sym (eqb-true u.group group b.1) ∙ eqb-true u.group other a.1 in
        absurd (false≢true (sym apart ∙ and_from (bytes_eq s.source source) (group == other) ((bytes_eq-Decides s.source source).1 own) (eq-eqb group other same))))
  ]

  module _ (offsets : List OffsetRow) (s : SupervisorRow) (now : ℤ) where
    late_leaves : (group : ℕ) → is_this s group ≡ false → (o : Option SequenceRow) (k : Ticking) → theirs (late_from o s group k).rows ≡ theirs k.rows
    late_leaves group apart None k = refl
    late_leaves group apart (Some v) k = filter_stays (is_of_group source other) (abandoned s.source group v.index) (λ u. refl) (λ u on. rw (not_theirs s group apart u on) refl) k.rows

    stop_leaves : (group : ℕ) → is_this s group ≡ false → (k : Ticking) → theirs (with_stopped s group now k).rows ≡ theirs k.rows
    stop_leaves group apart k = filter_stays (is_of_group source other) (stopped s group now) (λ u. refl) (λ u on. rw (not_theirs s group apart u on) refl) k.rows

    open_leaves : (group : ℕ) → is_this s group ≡ false → (k : Ticking) (b : Bool) → theirs (cond b k (opens (opened_row offsets s group now k.rows) k)).rows ≡ theirs k.rows
    open_leaves group apart k true = refl
    open_leaves group apart k false =
        filter-append (is_of_group source other) k.rows (opened_row offsets s group now k.rows ∷ [])
        ∙ (
        ap (λ b. theirs k.rows ++ cond b (opened_row offsets s group now k.rows ∷ []) []) apart
        ∙ append-nil (theirs k.rows)
        )

    pub group_leaves : (group : ℕ) → is_this s group ≡ false → (k : Ticking) → theirs (ticked_group offsets s now group k).rows ≡ theirs k.rows
    group_leaves group apart k =
        let after = with_stopped s group now (without_late s group now k) in
        open_leaves group apart after (list_any (is_active s group) after.rows)
        ∙ (stop_leaves group apart (without_late s group now k) ∙ late_leaves group apart (find (is_late s group now) k.rows) k)

    pub groups_leave : (groups : List ℕ) → AllByRecursion (λ g. is_this s g ≡ false) groups → (k : Ticking) → theirs (ticked_groups offsets s now groups k).rows ≡ theirs k.rows
    groups_leave [] apart k = refl
    groups_leave (g ∷ gs) apart k = groups_leave gs apart.1 (ticked_group offsets s now g k) ∙ group_leaves g apart.0 k

  pub all_leave : (offsets : List OffsetRow) (now : ℤ) (ss : List SupervisorRow) → AllByRecursion (λ s. AllByRecursion (λ g. is_this s g ≡ false) (groups_of s)) ss → (k : Ticking) → theirs (ticked_all offsets now ss k).rows ≡ theirs k.rows
  all_leave offsets now [] apart k = refl
  all_leave offsets now (s ∷ ss) apart k = all_leave offsets now ss apart.1 (ticked_groups offsets s now (groups_of s) k) ∙ groups_leave offsets s now (groups_of s) apart.0 k
