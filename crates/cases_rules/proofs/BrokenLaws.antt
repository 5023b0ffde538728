-- Why broken books break their rules: of them a rule would say what computes to something false.
use Rattle.std.proofs.Common.{◌≡◌, ◌<◌, ◌∷◌, List, Option, Some, [], ap, arith, false, inl, inr, int_eq, refl, subst, sym, true, true≢false, ℕ}
use Rattle.iv_span.specs.Extent.{Extent}
use Rattle.book_rows.specs.Lists.{In}
use Rattle.book_rows.specs.Live.{IsUsed}
use Rattle.seg_names.specs.declared.seg_id.SegId.{SegId}
use Rattle.book_rows.specs.declared.kinds.LockKind.TheVariants as LockKinds
use Rattle.book_rows.specs.declared.rows.ChunkRow.{ChunkRow}
use Rattle.book_rows.specs.declared.rows.Offset.{Offset}
use Rattle.book_rows.specs.declared.rows.PosseRow.{PosseRow}
use Rattle.book_rows.specs.declared.rows.SegmentRow.{SegmentRow}
use Rattle.cases_rules.proofs.SoundBookLaws.{has_shape}
use Rattle.cases_rules.specs.BrokenCases.{ChunksThatMeet, CopyLostOrDoubled, MissingUpgradeRow, OffsetOfNoRange, RowsOfNoLock, RowsToCome, UnrevokedLock, WrongCores, WrongSequences, WrongUpperChunks}
use Rattle.scenes.specs.Publishing.{hour_id, pending_row_of, upgrade_row_of, used_row}
use Rattle.scenes.specs.Script.{s, a, day, hour, id, minutes, now, now1, t, v0, w}
use Rattle.scenes.specs.Rows.{r_lock}
use Rattle.cases_rules.specs.ReplaceCases.{chunk_row}

-- ---- what is false

never : false ≡ true → ⊥
never e = true≢false (sym e)

zero_is_not_one : ◌≡◌ {A = ℕ} 0 1 → ⊥
zero_is_not_one e = omega (arith, e)

two_is_not_one : ◌≡◌ {A = ℕ} 2 1 → ⊥
two_is_not_one e = omega (arith, e)

not_below_zero : 0 < 0 → ⊥
not_below_zero l = omega (arith, l)

day_is_not_hour : day ≡ hour → ⊥
day_is_not_hour e = true≢false (ap (λ (x : Extent). int_eq x.start day.start) e)

-- ---- the rules

pub unrevoked_lock : UnrevokedLock
unrevoked_lock = (has_shape false, λ h. never (h.0.0 refl refl))

pub copy_lost_or_doubled : CopyLostOrDoubled
copy_lost_or_doubled = (λ h. zero_is_not_one (h w (minutes 310) (hour_id 1)), λ h. two_is_not_one (h w (minutes 310) (hour_id 1)))

no_part : (c : ChunkRow) → In c (chunk_row hour v0 0 0 ∷ []) → 0 < c.next → ⊥
no_part c (inl e) l = not_below_zero (subst (λ (n : ℕ). 0 < n) (ap (λ (x : ChunkRow). x.next) e) l)
no_part c (inr i) l = i

pub rows_to_come : RowsToCome
rows_to_come = (
  λ h. never h.locks,
  λ h. never h.commits,
  λ h. (h.segments (hour_id 0) (inl refl)).among,
  λ h. let x = h.segments (hour_id 0) (inl refl) in no_part x.chunk x.among x.below,
)

-- the first row, and the second
used_first : (r : SegmentRow) (rows : List SegmentRow) → r.used ≡ true → IsUsed (r ∷ rows) r.id
used_first r rows e = (r, inl refl, e, refl)

used_second : (q r : SegmentRow) (rows : List SegmentRow) → r.used ≡ true → IsUsed (q ∷ r ∷ rows) r.id
used_second q r rows e = (r, inr (inl refl), e, refl)

-- the exclusive lock of the day
exclusive : PosseRow
exclusive = record { number = 1; lock_kind = LockKinds.Exclusive; group = a; source = w; span = day; version = now; priority = 50; members = a ∷ []; revoked = false; since = 0 }

own : SegId → ℕ → SegmentRow
own x commit = used_row x x commit

pub chunks_that_meet : ChunksThatMeet
unfolding exclusive own
chunks_that_meet = (
  λ h. day_is_not_hour (h (id day v0 0) (hour_id 0) (inl (used_first (own (id day v0 0) 0) (own (hour_id 0) 0 ∷ []) refl)) (inl (used_second (own (id day v0 0) 0) (own (hour_id 0) 0) [] refl)) (record { source_is = refl; overlap_is = refl }) refl),
  λ h. never (h (id hour now1 0) exclusive (inl (used_first (own (id hour now1 0) 0) [] refl)) (record { among = inl refl; valid = refl }) refl refl refl),
)

pub rows_of_no_lock : RowsOfNoLock
rows_of_no_lock = (
  λ h. (h (pending_row_of (hour_id 0) (hour_id 0) 1 s) (inl refl)).has_posse.is_valid.among,
  λ h. (h (upgrade_row_of 1 (hour_id 0)) (inl refl)).is_valid.among,
)

no_second : (r : SegmentRow) → In r (used_row (id day now 0) (id day now 0) 0 ∷ []) → r.id.part ≡ 1 → ⊥
no_second r (inl e) part = zero_is_not_one (subst (λ (n : ℕ). n ≡ 1) (ap (λ (x : SegmentRow). x.id.part) e) part)
no_second r (inr i) part = i

pub wrong_cores : WrongCores
unfolding own
wrong_cores = (
  λ h. let x = h.live (chunk_row day now 2 2) (id day now 0) (inl refl) (inl (used_first (own (id day now 0) 0) [] refl)) (record { source_is = refl; span_is = refl; version_is = refl }) 1 (omega arith) in no_second x.0 x.1 x.4,
  λ h. zero_is_not_one (sym (h.zero_version (chunk_row hour v0 1 1) (inl refl) refl)),
)

pub wrong_upper_chunks : WrongUpperChunks
unfolding own
wrong_upper_chunks = (
  λ h. not_below_zero (h.cores (hour_id 0) (id day now 0) (chunk_row day now 0 1) (inl (used_first (own (hour_id 0) 0) (own (id day now 0) 1 ∷ []) refl)) (inl (used_second (own (hour_id 0) 0) (own (id day now 0) 1) [] refl)) (record { source_is = refl; overlap_is = refl }) refl (inr (inl refl)) (record { source_is = refl; span_is = refl; version_is = refl })),
  λ h. zero_is_not_one (h.copies (pending_row_of (hour_id 0) (hour_id 0) 1 s) (id day now 0) (inl refl) refl (inl (used_first (own (id day now 0) 0) [] refl)) (record { source_is = refl; overlap_is = refl }) refl),
)

pub missing_upgrade_row : MissingUpgradeRow
missing_upgrade_row h = zero_is_not_one (h r_lock (minutes 310) (hour_id 1) (record { among = inr (inl refl); valid = refl }) refl refl refl)

-- the number in an option in an option, and the offset of the first partition
inner : Option (Option ℕ) → ℕ
inner (Some (Some n)) = n
inner _ = 0

first_offset : List Offset → ℕ
first_offset [] = 0
first_offset (o ∷ os) = o.offset

first_number : List ℕ → ℕ
first_number [] = 0
first_number (n ∷ ns) = n

ten_is_not_nine : ◌≡◌ {A = ℕ} 10 9 → ⊥
ten_is_not_nine e = omega (arith, e)

five_is_not_zero : ◌≡◌ {A = ℕ} 5 0 → ⊥
five_is_not_zero e = omega (arith, e)

pub offset_of_no_range : OffsetOfNoRange
unfolding inner
offset_of_no_range h = ten_is_not_nine (ap inner (h w t 0))

pub wrong_sequences : WrongSequences
unfolding first_offset first_number
wrong_sequences = (
  λ h. five_is_not_zero (ap first_offset h.chained),
  λ h. zero_is_not_one (sym (ap first_number h.counted)),
  λ h. zero_is_not_one h.once,
)
