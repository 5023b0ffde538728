-- What is stored after a publish, and after a reset.
use Rattle.std.proofs.Common.{◌≡◌, ℕ, true, cond, ◌&&◌, List, Some, Option, sym, subst, ◌∙◌, bytes_eq, not, is_some, ◌||◌, ap}
use Rattle.std.proofs.lemmas.Bool.{and_parts}
use Rattle.iv_span.specs.Extent.{Extent}
use Rattle.seg_names.specs.declared.seg_id.SegId.{SegId}
use Rattle.seg_names.specs.Names.{is_name, is_task_id}
use Rattle.book_rows.specs.Answer.{next}
use Rattle.book_rows.specs.Form.{are_ids, are_lists, are_offsets, are_parts, are_ranges_of, are_spans, keeps_form}
use Rattle.book_rows.specs.Lists.{is_empty, or_else}
use Rattle.book_rows.specs.Offsets.{advance, advanced, stored}
use Rattle.book_rows.specs.Outcome.{task_of}
use Rattle.book_rows.specs.Tiles.{part_at}
use Rattle.book_rows.specs.declared.commands.Command.{Command}
use Rattle.book_rows.specs.declared.commands.Command.TheVariants as Commands
use Rattle.book_rows.specs.declared.rows.Offset.{Offset}
use Rattle.book_rows.specs.declared.rows.OffsetRow.{OffsetRow}
use Rattle.book_rows.specs.declared.rows.Ranges.{Ranges}
use Rattle.book_rows.specs.declared.rows.TaskRow.{TaskRow}
use Rattle.laws_offsets.specs.Effects.{TaskRanges, publish_of}
use Rattle.laws_offsets.specs.Lookups.{PublishStoresEnds, ResetStoresListed, end_in, listed}
use Rattle.laws_offsets.proofs.Distinct.{HasDistinctParts, HasDistinctPartitions, distinct_offsets, distinct_parts}
use Rattle.laws_offsets.proofs.Lists.{some_is}
use Rattle.laws_offsets.proofs.Publishes.{one_task, publish_goes_on}
use Rattle.laws_offsets.proofs.ResetAndDrop.{reset_replaces}
use Rattle.laws_offsets.proofs.StoredRows.{stored_advanced, stored_reset}

-- ---- the form of the ranges

listed_form : (task : List ℕ) (spans : List Extent) (ids tombs : List SegId) (ranges : Option Ranges) → (is_task_id task && are_lists spans ids tombs ranges) ≡ true → are_ranges_of ranges ≡ true
listed_form task spans ids tombs ranges form =
    (and_parts (are_spans spans && are_ids ids && are_ids tombs && not (is_empty ids && is_empty tombs)) (are_ranges_of ranges) (and_parts (is_task_id task) (are_lists spans ids tombs ranges) form).1).1

-- the ranges of a publish that keeps its form keep theirs
pub ranges_form : (c : Command) (p : TaskRanges) → keeps_form c ≡ true → publish_of c ≡ Some p → are_ranges_of p.ranges ≡ true
ranges_form (Commands.Append task ids ranges) p form of =
    let front = and_parts (is_task_id task && are_ids ids && are_ranges_of ranges) (not (is_empty ids) || is_some ranges) form in
    subst (λ (p : TaskRanges). are_ranges_of p.ranges ≡ true) (some_is _ p of) (and_parts (is_task_id task && are_ids ids) (are_ranges_of ranges) front.0).1
ranges_form (Commands.Insert task spans ids tombs ranges) p form of = subst (λ (p : TaskRanges). are_ranges_of p.ranges ≡ true) (some_is _ p of) (listed_form task spans ids tombs ranges form)
ranges_form (Commands.Replace task spans ids tombs ranges) p form of = subst (λ (p : TaskRanges). are_ranges_of p.ranges ≡ true) (some_is _ p of) (listed_form task spans ids tombs ranges form)
ranges_form (Commands.Submit task group source kind priority locks) p form of = cc
ranges_form (Commands.Manage now) p form of = cc
ranges_form (Commands.Lock task lock_kind span now) p form of = cc
ranges_form (Commands.Unlock task lock) p form of = cc
ranges_form (Commands.Allocate task lock_kind sequence previous at granularity now) p form of = cc
ranges_form (Commands.End task status) p form of = cc
ranges_form (Commands.Drop source span) p form of = cc
ranges_form (Commands.Reset source stream offsets) p form of = cc
ranges_form (Commands.Supervise source stream partitions task_count replicas task_duration completion_timeout) p form of = cc
ranges_form (Commands.Tick now) p form of = cc
ranges_form (Commands.Paused task offsets) p form of = cc
ranges_form (Commands.Checkpoint task offsets) p form of = cc
ranges_form (Commands.ToReplace task span) p form of = cc
ranges_form (Commands.Show what) p form of = cc

parts_form : (ranges : Ranges) → are_ranges_of (Some ranges) ≡ true → are_parts ranges.parts ≡ true
parts_form ranges form = (and_parts (is_name ranges.stream && not (is_empty ranges.parts)) (are_parts ranges.parts) form).1

-- no partition stands in them twice
pub distinct_in : (o : Option Ranges) (ranges : Ranges) → are_ranges_of o ≡ true → o ≡ Some ranges → HasDistinctParts ranges.parts
distinct_in o ranges form has = distinct_parts ranges.parts (parts_form ranges (subst (λ (o : Option Ranges). are_ranges_of o ≡ true) has form))

-- nor in the offsets of a reset
pub distinct_reset : (source stream : List ℕ) (os : List Offset) → keeps_form (Commands.Reset source stream os) ≡ true → HasDistinctPartitions os
distinct_reset source stream os form = distinct_offsets os (and_parts (is_name source && is_name stream) (are_offsets os) form).1

-- ---- the look-ups

pub publish_stores_ends : PublishStoresEnds
publish_stores_ends b c p ranges t form of has found changed source stream partition =
    subst (λ (rows : List OffsetRow). stored rows source stream partition
    ≡ cond (bytes_eq t.source source && bytes_eq ranges.stream stream) (or_else (end_in (part_at partition ranges.parts)) (stored b.offsets source stream partition)) (stored b.offsets source stream partition))
    (sym offsets) (stored_advanced b.offsets t.source ranges.stream ranges.parts (distinct_in p.ranges ranges (ranges_form c p form of) has) source stream partition) where
      offsets : (next b c).offsets ≡ advance b.offsets t.source ranges.stream ranges.parts
      offsets =
          let w = publish_goes_on b c p of changed in
          w.offsets
          ∙ (ap (λ (u : TaskRow). advanced b.offsets u.source p.ranges) (one_task w.task t (task_of p.task b.tasks) w.found found)
          ∙ ap (λ (o : Option Ranges). advanced b.offsets t.source o) has)

pub reset_stores_listed : ResetStoresListed
reset_stores_listed b s t os form changed source stream partition =
    subst (λ (rows : List OffsetRow). stored rows source stream partition ≡ cond (bytes_eq s source && bytes_eq t stream) (listed partition os) (stored b.offsets source stream partition))
    (sym (reset_replaces b s t os changed).stored) (stored_reset b.offsets s t os (distinct_reset s t os form) source stream partition)
