-- What changes of a sequence promise: a changed one passes no more, and has no new key.
use Rattle.std.specs.Prelude.{◌&&◌, ◌∷◌, ◌≡◌, ◌⊎◌, Bool, List, None, Option, Some, [], bytes_eq, cond, false, filter, nat_le, not, refl, true, ℕ, ℤ}
use Rattle.std.specs.List.{list_any}
use Rattle.std.proofs.Common.{ap, inl, inr, subst, ◌∙◌}
use Rattle.std.proofs.lemmas.Bool.{cases_Bool}
use Rattle.book_rows.specs.Kinds.{is_unpublished, same_state}
use Rattle.book_rows.specs.Reports.{left_by}
use Rattle.book_rows.specs.Sequences.{is_abandoned_by, is_named, is_of_group, name_of}
use Rattle.book_rows.specs.declared.kinds.SeqState.{SeqState}
use Rattle.book_rows.specs.declared.kinds.SeqState.TheVariants as States
use Rattle.book_rows.specs.declared.rows.Report.{Report}
use Rattle.book_rows.specs.declared.rows.SequenceRow.{SequenceRow}
use Rattle.row_index.specs.Index.{In, digest_key}
use Rattle.row_table.specs.Table.{BringsOnly, HasNoNewKeys}
use Rattle.tab_sequences.specs.Changes.{after_telling, has_live_one, is_active_state, is_open_one, is_other, is_reading_one, paused_state, state_with, with_abandoned, with_paused, with_published}
use Rattle.tab_sequences.specs.Keys.{group_key, live_digest, live_keys, name_key, sequence_keys}
use Rattle.tab_sequences.specs.declared.telling.Closing.{Closing}

and_false : (a : Bool) → (a && false) ≡ false
and_false true = refl
and_false false = refl

-- ---- publishing

pub publishing_settles : (name : List ℕ) (u : SequenceRow) → is_other name (with_published u) ≡ false
publishing_settles name u = and_false (is_named name u)

pub publishing_keeps : (u : SequenceRow) → HasNoNewKeys (sequence_keys u) (sequence_keys (with_published u))
publishing_keeps u k there =
    elim there [
      | inl e ↦ inl e
      | inr (inl e) ↦ inl e
      | inr (inr later) ↦ inr (inr later)
    ]

-- ---- abandoning

pub abandoning_settles : (source : List ℕ) (group from : ℕ) (u : SequenceRow) → is_abandoned_by source group from (with_abandoned u) ≡ false
abandoning_settles source group from u = ap (λ (b : Bool). b && nat_le from u.index) (and_false (is_of_group source group u))

pub abandoning_keeps : (u : SequenceRow) → HasNoNewKeys (sequence_keys u) (sequence_keys (with_abandoned u))
abandoning_keeps u k there =
    elim there [
      | inl e ↦ inl e
      | inr (inl e) ↦ inl e
      | inr (inr none) ↦ absurd none
    ]

-- ---- pausing

not_reading : (st : SeqState) → same_state (paused_state st) States.Reading ≡ false
not_reading States.Reading = refl
not_reading States.Paused = refl
not_reading States.Closed = refl
not_reading States.Published = refl
not_reading States.Abandoned = refl

as_unpublished : (st : SeqState) → is_unpublished (paused_state st) ≡ is_unpublished st
as_unpublished States.Reading = refl
as_unpublished States.Paused = refl
as_unpublished States.Closed = refl
as_unpublished States.Published = refl
as_unpublished States.Abandoned = refl

pub open_one_settles : (name : List ℕ) (u : SequenceRow) → is_open_one name (with_abandoned u) ≡ false
open_one_settles name u = and_false (is_named name u)

pub reading_one_settles : (name : List ℕ) (u : SequenceRow) → is_reading_one name (with_paused u) ≡ false
reading_one_settles name u = ap (λ (b : Bool). is_named name u && b) (not_reading u.state) ∙ and_false (is_named name u)

-- the keys of a sequence, by whether it is unpublished
abbrev keys_by : Bool → SequenceRow → List (ℕ × ℤ)
keys_by b u = name_key (name_of u) ∷ cond b (group_key u.source u.group) (name_key (name_of u)) ∷ live_keys u.live

pub pausing_keeps : (u : SequenceRow) → HasNoNewKeys (sequence_keys u) (sequence_keys (with_paused u))
pausing_keeps u k there = subst (λ (b : Bool). In k (keys_by b u)) (as_unpublished u.state) there

-- ---- a replica leaves

-- no live replica of that id is left
gone : (task : List ℕ) (live : List (List ℕ)) → list_any (λ t. bytes_eq t task) (filter (λ t. not (bytes_eq t task)) live) ≡ false
gone task [] = refl
gone task (t ∷ ts) =
    elim (cases_Bool (bytes_eq t task)) [ inl on ↦ rw on (gone task ts) | inr off ↦ rw (off, off) (gone task ts) ]

pub leaving_settles : (task : List ℕ) (u : SequenceRow) → has_live_one task (left_by task u) ≡ false
leaving_settles task u = gone task u.live

in_filter : (test : List ℕ → Bool) (live : List (List ℕ)) (k : ℕ × ℤ) → In k (live_keys (filter test live)) → In k (live_keys live)
in_filter test [] k there = there
in_filter test (t ∷ ts) k there =
    elim (cases_Bool (test t)) [
      | inl on ↦
          (let there' : (k ≡ digest_key (live_digest t)) ⊎ In k (live_keys (filter test ts)) = rw on at there in
          elim there' [ inl e ↦ inl e | inr later ↦ inr (in_filter test ts k later) ])
      | inr off ↦ inr (in_filter test ts k (rw off at there))
    ]

pub leaving_keeps : (task : List ℕ) (u : SequenceRow) → HasNoNewKeys (sequence_keys u) (sequence_keys (left_by task u))
leaving_keeps task u k there =
    elim there [
      | inl e ↦ inl e
      | inr (inl e) ↦ inr (inl e)
      | inr (inr later) ↦ inr (inr (in_filter (λ t. not (bytes_eq t task)) u.live k later))
    ]

-- ---- telling

told_unpublished : (closing : Option Closing) (st : SeqState) → is_unpublished (cond (is_active_state st) (state_with closing) st) ≡ is_unpublished st
told_unpublished None States.Reading = refl
told_unpublished (Some c) States.Reading = refl
told_unpublished None States.Paused = refl
told_unpublished (Some c) States.Paused = refl
told_unpublished closing States.Closed = refl
told_unpublished closing States.Published = refl
told_unpublished closing States.Abandoned = refl

pub telling_brings : (reports : Option (List Report)) (closing : Option Closing) (brought : List (ℕ × ℤ)) (u : SequenceRow) → BringsOnly (sequence_keys u) (sequence_keys (after_telling reports closing u)) brought
telling_brings reports closing brought u k there = inl (subst (λ (b : Bool). In k (keys_by b u)) (told_unpublished closing u.state) there)
