-- A tick's step of one group, by the group's unpublished sequences and its size.
use Rattle.std.proofs.Common.{◌&&◌, ◌++◌, ◌∙◌, ◌∷◌, ◌≡◌, ◌||◌, Bool, List, None, Option, Some, [], ap, cond, false, filter, find, length, map, nat_le, not, refl, suc, sym, true, ℕ, ℤ}
use Rattle.std.proofs.lemmas.Bool.{false≢true}
use Rattle.std.proofs.lemmas.List.{append-nil}
use Rattle.std.specs.List.{list_any}
use Rattle.std.specs.Option.{option_map}
use Rattle.book_rows.specs.Lists.{gathered}
use Rattle.book_rows.specs.Names.{sequence_name}
use Rattle.book_rows.specs.Sequences.{abandoned, is_of_group, name_of, open_rows, partitions_of, positions}
use Rattle.book_rows.specs.Ticks.{Ticking, is_active, is_late, last_ends, late_from, of_group, opened_row, replicas_of, stopped, with_stopped, without_late}
use Rattle.book_rows.specs.declared.answers.Ticked.{Ticked}
use Rattle.book_rows.specs.declared.rows.Offset.{Offset}
use Rattle.book_rows.specs.declared.rows.OffsetRow.{OffsetRow}
use Rattle.book_rows.specs.declared.rows.SequenceRow.{SequenceRow}
use Rattle.book_rows.specs.declared.rows.SupervisorRow.{SupervisorRow}
use Rattle.tab_sequences.specs.Changes.{is_active_state}
use Rattle.sup_core.specs.Ticking.{ends_or, is_done_reading, is_from, last_closed, late_index, new_row, stays_active, told_all}
use Rattle.sup_core.proofs.Grouped.{abandoned_found, active_found, active_stopped, ends_found, ends_stopped, late_found, open_after, open_stopped, paused_found}
use Rattle.sup_core.proofs.LastEnds.{last_ends_are}
use Rattle.sup_core.proofs.ToldOnes.{told_abandoned, told_ended, told_opened, told_paused, told_submitted}

-- ---- lists

module _ {X : Type 0} where
  filter_none : (xs : List X) → filter (λ x. false) xs ≡ []
  filter_none [] = refl
  filter_none (x ∷ xs) = filter_none xs

  filter_all : (xs : List X) → xs ≡ filter (λ x. true) xs
  filter_all [] = refl
  filter_all (x ∷ xs) = ap (λ ys. x ∷ ys) (filter_all xs)

  filter_twice : (p q : X → Bool) (xs : List X) → filter q (filter p xs) ≡ filter (λ x. p x && q x) xs
  filter_twice p q [] = refl
  filter_twice p q (x ∷ xs) = by (p x) (filter_twice p q xs) where
    by : (b : Bool) → filter q (filter p xs) ≡ filter (λ y. p y && q y) xs → filter q (cond b (x ∷ filter p xs) (filter p xs)) ≡ cond (b && q x) (x ∷ filter (λ y. p y && q y) xs) (filter (λ y. p y && q y) xs)
    by true rest = ap (λ ys. cond (q x) (x ∷ ys) ys) rest
    by false rest = rest

  any_twice : (p q : X → Bool) (xs : List X) → list_any q (filter p xs) ≡ list_any (λ x. p x && q x) xs
  any_twice p q [] = refl
  any_twice p q (x ∷ xs) = by (p x) (any_twice p q xs) where
    by : (b : Bool) → list_any q (filter p xs) ≡ list_any (λ y. p y && q y) xs → list_any q (cond b (x ∷ filter p xs) (filter p xs)) ≡ ((b && q x) || list_any (λ y. p y && q y) xs)
    by true rest = ap (λ c. q x || c) rest
    by false rest = rest

same_ticked : (a b : Ticked) → a.abandoned ≡ b.abandoned → a.paused ≡ b.paused → a.opened ≡ b.opened → a.ended ≡ b.ended → a.submitted ≡ b.submitted → a ≡ b
same_ticked a b p q r x y = λ i. record { abandoned = p i; paused = q i; opened = r i; ended = x i; submitted = y i }

-- ---- one group

module _ (s : SupervisorRow) (group : ℕ) (now : ℤ) where
  -- a change that leaves source and group leaves the size of the group
  size_map : (f : SequenceRow → SequenceRow) → ((u : SequenceRow) → is_of_group s.source group (f u) ≡ is_of_group s.source group u) → (us : List SequenceRow) → length (of_group s group (map f us)) ≡ length (of_group s group us)
  size_map f same [] = refl
  size_map f same (u ∷ us) = by (is_of_group s.source group (f u)) (is_of_group s.source group u) (same u) (size_map f same us) where
    by : (a b : Bool) → a ≡ b → length (of_group s group (map f us)) ≡ length (of_group s group us)
        → length (cond a (f u ∷ of_group s group (map f us)) (of_group s group (map f us))) ≡ length (cond b (u ∷ of_group s group us) (of_group s group us))
    by true true e rest = ap (λ n. suc n) rest
    by true false e rest = absurd (false≢true (sym e))
    by false true e rest = absurd (false≢true e)
    by false false e rest = rest

  module _ (k : Ticking) where
    -- ---- after the late ones are abandoned

    late_by : (o : Option SequenceRow) → find (is_late s group now) k.rows ≡ o → late_index s.timeout now (open_rows s.source group k.rows) ≡ option_map (λ u. u.index) o
    late_by o e = ap (λ x. option_map (λ (u : SequenceRow). u.index) x) (sym (late_found s group now k.rows) ∙ e)

    pub late_is : late_index s.timeout now (open_rows s.source group k.rows) ≡ option_map (λ u. u.index) (find (is_late s group now) k.rows)
    late_is = late_by (find (is_late s group now) k.rows) refl

    open_left_by : (o : Option SequenceRow) → open_rows s.source group (late_from o s group k).rows ≡ filter (λ u. not (is_from (option_map (λ v. v.index) o) u)) (open_rows s.source group k.rows)
    open_left_by None = filter_all (open_rows s.source group k.rows)
    open_left_by (Some v) = open_after s group now v.index k.rows

    pub open_left : open_rows s.source group (without_late s group now k).rows ≡ filter (λ u. not (is_from (late_index s.timeout now (open_rows s.source group k.rows)) u)) (open_rows s.source group k.rows)
    open_left = open_left_by (find (is_late s group now) k.rows) ∙ ap (λ late. filter (λ u. not (is_from late u)) (open_rows s.source group k.rows)) (sym late_is)

    size_left_by : (o : Option SequenceRow) → length (of_group s group (late_from o s group k).rows) ≡ length (of_group s group k.rows)
    size_left_by None = refl
    size_left_by (Some v) = size_map (abandoned s.source group v.index) (λ u. refl) k.rows

    -- ---- what is told

    told_by : (o : Option SequenceRow) → (with_stopped s group now (late_from o s group k)).told ≡ told_all (option_map (λ v. v.index) o) s.duration now k.told (open_rows s.source group k.rows)
    told_by None =
        let us = open_rows s.source group k.rows in
        same_ticked _ _
        (sym (told_abandoned None s.duration now us k.told ∙ ap (λ ys. k.told.abandoned ++ map name_of ys) (filter_none us) ∙ append-nil k.told.abandoned))
        (ap (λ ys. k.told.paused ++ map name_of ys) (paused_found s group now k.rows) ∙ sym (told_paused None s.duration now us k.told))
        (sym (told_opened None s.duration now us k.told))
        (sym (told_ended None s.duration now us k.told ∙ ap (λ ys. k.told.ended ++ gathered (λ v. v.live) ys) (filter_none us) ∙ append-nil k.told.ended))
        (sym (told_submitted None s.duration now us k.told))
    told_by (Some v) =
        let us = open_rows s.source group k.rows in
        same_ticked _ _
        (ap (λ ys. k.told.abandoned ++ map name_of ys) (abandoned_found s group now v.index k.rows) ∙ sym (told_abandoned (Some v.index) s.duration now us k.told))
        (
        ap (λ ys. k.told.paused ++ map name_of ys)
        (paused_found s group now (map (abandoned s.source group v.index) k.rows)
        ∙ (ap (λ ys. filter (is_done_reading s.duration now) ys) (open_after s group now v.index k.rows) ∙ filter_twice (λ u. not (nat_le v.index u.index)) (is_done_reading s.duration now) us))
        ∙ sym (told_paused (Some v.index) s.duration now us k.told)
        )
        (sym (told_opened (Some v.index) s.duration now us k.told))
        (ap (λ ys. k.told.ended ++ gathered (λ w. w.live) ys) (abandoned_found s group now v.index k.rows) ∙ sym (told_ended (Some v.index) s.duration now us k.told))
        (sym (told_submitted (Some v.index) s.duration now us k.told))

    pub group_told : (with_stopped s group now (without_late s group now k)).told ≡ told_all (late_index s.timeout now (open_rows s.source group k.rows)) s.duration now k.told (open_rows s.source group k.rows)
    group_told = told_by (find (is_late s group now) k.rows) ∙ ap (λ late. told_all late s.duration now k.told (open_rows s.source group k.rows)) (sym late_is)

    -- ---- whether one opens, and which

    open_then : open_rows s.source group (with_stopped s group now (without_late s group now k)).rows
        ≡ map (stopped s group now) (filter (λ u. not (is_from (late_index s.timeout now (open_rows s.source group k.rows)) u)) (open_rows s.source group k.rows))
    open_then = open_stopped s group now (without_late s group now k).rows ∙ ap (λ us. map (stopped s group now) us) open_left

    pub group_active : list_any (is_active s group) (with_stopped s group now (without_late s group now k)).rows ≡ stays_active (late_index s.timeout now (open_rows s.source group k.rows)) (open_rows s.source group k.rows)
    group_active =
        let late = late_index s.timeout now (open_rows s.source group k.rows) in
        active_found s group now (with_stopped s group now (without_late s group now k)).rows
        ∙ (
        ap (λ us. list_any (λ u. is_active_state u.state) us) open_then
        ∙ (
        active_stopped s group now (filter (λ u. not (is_from late u)) (open_rows s.source group k.rows))
        ∙ any_twice (λ u. not (is_from late u)) (λ u. is_active_state u.state) (open_rows s.source group k.rows)
        )
        )

    pub group_size : length (of_group s group (with_stopped s group now (without_late s group now k)).rows) ≡ length (of_group s group k.rows)
    group_size = size_map (stopped s group now) (λ u. refl) (without_late s group now k).rows ∙ size_left_by (find (is_late s group now) k.rows)

    group_starts : (at : List Offset) → last_ends at (of_group s group (with_stopped s group now (without_late s group now k)).rows) ≡ ends_or at (last_closed (late_index s.timeout now (open_rows s.source group k.rows)) (open_rows s.source group k.rows))
    group_starts at =
        let late = late_index s.timeout now (open_rows s.source group k.rows) in
        ends_found s group now at (with_stopped s group now (without_late s group now k)).rows
        ∙ (
        ap (λ us. last_ends at us) open_then
        ∙ (ends_stopped s group now at (filter (λ u. not (is_from late u)) (open_rows s.source group k.rows)) ∙ last_ends_are late at (open_rows s.source group k.rows))
        )

    pub group_opened : (offsets : List OffsetRow) → opened_row offsets s group now (with_stopped s group now (without_late s group now k)).rows
        ≡ new_row offsets s group now (length (of_group s group k.rows)) (late_index s.timeout now (open_rows s.source group k.rows)) (open_rows s.source group k.rows)
    group_opened offsets =
        let new = new_row offsets s group now (length (of_group s group k.rows)) (late_index s.timeout now (open_rows s.source group k.rows)) (open_rows s.source group k.rows) in
        λ i. record new {
          index = group_size i;
          starts = group_starts (positions offsets s.source s.stream (partitions_of s group)) i;
          live = replicas_of (sequence_name s.source group (group_size i)) s.replicas;
        }
